use Rattle.std.proofs.Common.{sym, ◌∙◌}
use Rattle.ct_build.proofs.SeenLemmas.{fresh_from, seen_first}
use Rattle.ct_build.proofs.rows.add_first.Goals as goal

pub returns-in_ok-add_row-clause-seen : goal.returns-in_ok-add_row-clause-seen
returns-in_ok-add_row-clause-seen c =
    let same = c.in_ok-args.ensures.value ∙ c.as_slice.ensures.value in
    let fresh = fresh_from _ _ c.in_ok-new.ensures.added c.if-new.true in
    (seen_first c.args.seen.now c.insert_full.new.self (record { table = c.args.number; args = c.in_ok-args.args }) c.in_ok-new.ensures.updates.0 c.args.tables.now.items c.add_row.new.tables.items c.args.row (sym same) fresh c.in_ok-add_row.ensures.added c.requires.seen).0
