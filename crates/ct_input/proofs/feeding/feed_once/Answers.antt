use Rattle.std.proofs.Common.{rules, arith, ◌≡◌, ◌+◌, ◌<◌, ◌≤◌, ◌++◌, length, take}
use Rattle.std.proofs.lemmas.Grind.{common_steps}
use Rattle.ct_input.specs.Slot.{most_bytes, piece_bytes}
use Rattle.ct_input.proofs.SlotLemmas.{feeds_piece, feeds_head}
use Rattle.ct_input.proofs.feeding.feed_once.Goals as goal

pub returns-then-fitting-count-clause-feeds : goal.returns-then-fitting-count-clause-feeds
returns-then-fitting-count-clause-feeds g c =
    let few : c.in_ok-count.count ≤ length c.read_piece.new.buffer = first_of (search rules, grind (arith, common_steps)) in
    let one_more : c.in_ok-count.count ≡ c.min-fitting.result + 1 = first_of (search rules, grind (arith, common_steps)) in
    let small : c.in_ok-count.count ≤ piece_bytes = first_of (search rules, grind (arith, common_steps)) in
    let full : c.args.reader.now.fed + c.min-fitting.result ≡ most_bytes = first_of (search rules, grind (arith, common_steps)) in
    let fed : c.feed.new.self ≡ record c.args.reader.now { bytes = c.args.reader.now.bytes ++ take c.min-fitting.result c.read_piece.new.buffer; fed = c.args.reader.now.fed + length (take c.min-fitting.result c.read_piece.new.buffer) } = first_of (search rules, grind (arith, common_steps)) in
    feeds_head _ _ c.in_ok-count.count c.min-fitting.result _ c.read_piece.new.buffer c.in_ok-count.ensures.bytes c.in_ok-count.ensures.taken few c.args.reader.now c.feed.new.self fed one_more small full

pub returns-clause-feeds : goal.returns-clause-feeds
returns-clause-feeds g c =
    let few : c.in_ok-count.count ≤ length c.read_piece.new.buffer = first_of (search rules, grind (arith, common_steps)) in
    let whole : c.min-fitting.result ≡ c.in_ok-count.count = first_of (search rules, grind (arith, common_steps)) in
    let small : c.in_ok-count.count ≤ piece_bytes = first_of (search rules, grind (arith, common_steps)) in
    let some : 0 < c.in_ok-count.count = first_of (search rules, grind (arith, common_steps)) in
    let short : c.args.reader.now.fed + c.in_ok-count.count ≤ most_bytes = first_of (search rules, grind (arith, common_steps)) in
    let fed : c.feed.new.self ≡ record c.args.reader.now { bytes = c.args.reader.now.bytes ++ take c.min-fitting.result c.read_piece.new.buffer; fed = c.args.reader.now.fed + length (take c.min-fitting.result c.read_piece.new.buffer) } = first_of (search rules, grind (arith, common_steps)) in
    feeds_piece _ _ c.in_ok-count.count c.min-fitting.result _ c.read_piece.new.buffer c.in_ok-count.ensures.bytes c.in_ok-count.ensures.taken few c.args.reader.now c.feed.new.self fed whole some small short
