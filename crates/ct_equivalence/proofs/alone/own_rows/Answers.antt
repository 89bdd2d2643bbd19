use Rattle.ct_equivalence.proofs.BeginningLemmas.{AreOwnRows-none, AreOwnRows-push}
use Rattle.ct_equivalence.proofs.alone.own_rows.Goals as goal

pub loop-t-init : goal.loop-t-init
loop-t-init c = AreOwnRows-none c.new-rows.result c.new-rows.ensures.empty

pub loop-t-preserved : goal.loop-t-preserved
loop-t-preserved c =
    rw (c.in_ok-push.ensures.pushed, c.in_ok-add_row.ensures.added)
    (AreOwnRows-push c.loop-t.rows (record { 0 = c.loop-t.t }) c.loop-t.invariant)
