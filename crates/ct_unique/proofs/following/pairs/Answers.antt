use Rattle.std.proofs.Common.{◌≡◌, ◌<◌, ◌≤◌, length, slice_get, Some, sym, ap, ◌∙◌, arith}
use Rattle.std.proofs.lemmas.Option.{slice_get-get_or}
use Rattle.ct_rules.specs.declared.equation.Equation.{Equation}
use Rattle.ct_unique.proofs.FollowLemmas.{IsUnderWay-start, IsUnderWay-next, less_left, AreAllMatched-end, AreOnce-end, asked_listed, reached_listed}
use Rattle.ct_unique.proofs.following.pairs.Goals as goal

pub loop-next-init : goal.loop-next-init
loop-next-init c =
    let asked : Equation = record { left = c.args.a; right = c.args.b } in
    IsUnderWay-start c.args.classes.now c.args.partition.now asked c.new.result c.new-2.result.items c.add.new.found.places c.add.new.found.pairs.items c.new-2.ensures.items c.in_ok-add.ensures.added (record { left = c.requires.left; right = c.requires.right; same = c.requires.same })

pub follow-requires-clause-opens : goal.follow-requires-clause-opens
follow-requires-clause-opens c =
    let pairs = c.loop-next.found.pairs in
    let inside : c.loop-next.next < length pairs.items = omega (arith, c.loop-next-test.true, pairs.ok.0) in
    let pair = c.index-pair.result.now in
    let here : slice_get pairs.items c.loop-next.next ≡ Some pair = slice_get-get_or pairs.items c.loop-next.next pair inside ∙ ap Some (sym c.index-pair.ensures) in
    c.loop-next.invariant.opens c.loop-next.next pair here

pub follow-requires-clause-indexed : goal.follow-requires-clause-indexed
follow-requires-clause-indexed c = c.loop-next.invariant.indexed

pub loop-next-preserved : goal.loop-next-preserved
loop-next-preserved c =
    let pairs = c.loop-next.found.pairs in
    let inside : c.loop-next.next < length pairs.items = omega (arith, c.loop-next-test.true, pairs.ok.0) in
    let pair = c.index-pair.result.now in
    let here : slice_get pairs.items c.loop-next.next ≡ Some pair = slice_get-get_or pairs.items c.loop-next.next pair inside ∙ ap Some (sym c.index-pair.ensures) in
    let asked : Equation = record { left = c.args.a; right = c.args.b } in
    IsUnderWay-next c.args.classes.now c.args.partition.now asked c.loop-next.found.places pairs.items c.follow.new.found.places c.follow.new.found.pairs.items c.loop-next.next pair c.loop-next.invariant here c.in_ok-follow.ensures.more c.in_ok-follow.ensures.matched

pub loop-next-smaller : goal.loop-next-smaller
loop-next-smaller c =
    let pairs = c.loop-next.found.pairs in
    let inside : c.loop-next.next < length pairs.items = omega (arith, c.loop-next-test.true, pairs.ok.0) in
    let pair = c.index-pair.result.now in
    let here : slice_get pairs.items c.loop-next.next ≡ Some pair = slice_get-get_or pairs.items c.loop-next.next pair inside ∙ ap Some (sym c.index-pair.ensures) in
    let asked : Equation = record { left = c.args.a; right = c.args.b } in
    less_left c.args.classes.now c.args.partition.now asked c.loop-next.found.places pairs.items c.follow.new.found.places c.follow.new.found.pairs.items c.loop-next.next pair c.loop-next.invariant here c.in_ok-follow.ensures.more

pub returns-clause-asked : goal.returns-clause-asked
returns-clause-asked c =
    let pairs = c.loop-next.found.pairs in
    let asked : Equation = record { left = c.args.a; right = c.args.b } in
    rw c.new-3.ensures.value (asked_listed c.args.classes.now c.args.partition.now asked c.loop-next.found.places pairs.items c.loop-next.next c.loop-next.invariant)

pub returns-clause-matched : goal.returns-clause-matched
returns-clause-matched c =
    let pairs = c.loop-next.found.pairs in
    let asked : Equation = record { left = c.args.a; right = c.args.b } in
    let end : length pairs.items ≤ c.loop-next.next = omega (arith, c.loop-next-test.false, pairs.ok.0) in
    rw c.new-3.ensures.value (AreAllMatched-end c.args.classes.now c.args.partition.now asked c.loop-next.found.places pairs.items c.loop-next.next c.loop-next.invariant end)

pub returns-clause-reached : goal.returns-clause-reached
returns-clause-reached c =
    let pairs = c.loop-next.found.pairs in
    let asked : Equation = record { left = c.args.a; right = c.args.b } in
    rw c.new-3.ensures.value (reached_listed c.args.classes.now c.args.partition.now asked c.loop-next.found.places pairs.items c.loop-next.next c.loop-next.invariant)

pub returns-clause-once : goal.returns-clause-once
returns-clause-once c =
    let pairs = c.loop-next.found.pairs in
    let asked : Equation = record { left = c.args.a; right = c.args.b } in
    rw c.new-3.ensures.value (AreOnce-end c.args.classes.now c.args.partition.now asked c.loop-next.found.places pairs.items c.loop-next.next c.loop-next.invariant)
