use Rattle.std.proofs.Common.{◌≡◌, Bool, true, length, get_or, refl, subst}
use Rattle.std.proofs.lemmas.Option.{slice_get_read}
use Rattle.ct_closure.proofs.GrowthLemmas.{IsSplitTerm-stays, step_none}
use Rattle.ct_closure.proofs.WayLemmas.{set_here, marks_same, marks_set}
use Rattle.ct_closure.proofs.steps.mark.Goals as goal

pub returns-then-index-clause-step : goal.returns-then-index-clause-step
returns-then-index-clause-step c = step_none c.args.sig.now c.args.table.now c.requires.sound

pub returns-then-index-clause-marks : goal.returns-then-index-clause-marks
returns-then-index-clause-marks c = marks_same c.args.sig.now c.args.table.now c.args.marks.now.items c.requires.marked

pub returns-then-index-clause-marked : goal.returns-then-index-clause-marked
returns-then-index-clause-marked c =
    let marks = c.args.marks.now.items in
    slice_get_read marks (length marks) c.args.t.0 true refl c.requires.long (subst (λ (b : Bool). b ≡ get_or marks c.args.t.0 b) c.if-index.true c.index.ensures)

pub returns-clause-marks : goal.returns-clause-marks
returns-clause-marks c =
    let old = c.args.table.now in
    let new = c.add_cases.new.table in
    let split = c.requires.split in
    marks_set c.args.sig.now old new c.args.marks.now.items c.args.t split.0 c.add_cases.ensures.step c.requires.marked
    (IsSplitTerm-stays old new c.add_cases.ensures.step.grown c.args.sig.now c.args.t split.0 split.1) (c.in_ok-add_cases.ensures.cases split.0 split.1)

pub returns-clause-marked : goal.returns-clause-marked
returns-clause-marked c = set_here c.args.marks.now.items c.args.t.0 c.requires.long
