use Rattle.std.proofs.Common.{[]}
use Rattle.ct_congr.proofs.FurtherLemmas.{AreMarked-none, marks_of-none}
use Rattle.ct_congr.proofs.classes.Classes.new.Goals as goal

pub invariant_of-result : goal.invariant_of-result
invariant_of-result c =
    let p = c.in_ok-progress.progress in
    rw (c.in-Ok.ensures.ok, c.in-Ok-copy.ensures.ok, c.in_ok-hyps.ensures.items, c.new.ensures.items, c.new-in-Ok-copy.ensures.empty) (
      rw c.as_slice.ensures.value at c.in_ok-progress.ensures.held,
      c.in_ok-progress.ensures.kept,
      AreMarked-none c.args.sig.now c.args.table.now c.in_ok-single.single.items c.args.hyps.now [] p.store.merges.items p.keys p.store.parts c.in_ok-progress.ensures.long,
    )

pub returns-in-Ok-copy-clause-marks : goal.returns-in-Ok-copy-clause-marks
returns-in-Ok-copy-clause-marks c =
    let store = c.in_ok-progress.progress.store in
    rw c.new-in-Ok-copy.ensures.empty (marks_of-none c.in_ok-hyps.hyps.items c.new.result.items store.merges.items store.parts)
