use Rattle.std.proofs.Common.{subst, arith}
use Rattle.ct_generics.proofs.OccurrenceLemmas.{AreFieldMarks, ArePartMarks-start}
use Rattle.ct_generics.proofs.occurring.field_marks.Goals as goal

pub returns-clause-marks : goal.returns-clause-marks
returns-clause-marks c row stand =
    let marks = c.loop-field.marks.items in
    ArePartMarks-start c.args.template.now c.args.fields.now row marks stand (subst (AreFieldMarks c.args.fields.now marks) (omega (arith, c.loop-field-test.false, c.loop-field.auto.field-index-end)) c.loop-field.invariant.are)
