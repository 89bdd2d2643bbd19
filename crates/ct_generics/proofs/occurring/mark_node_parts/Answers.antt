use Rattle.std.proofs.Common.{true}
use Rattle.std.proofs.lemmas.List.{length-set}
use Rattle.ct_generics.proofs.OccurrenceLemmas.{ArePartMarks-apply, ArePartMarks-head, ArePartMarks-param, ArePartMarks-unmarked}
use Rattle.ct_generics.proofs.occurring.mark_node_parts.Goals as goal

pub returns-then-not-marks-k : goal.returns-then-not-marks-k
returns-then-not-marks-k c = record { marks = λ row are. ArePartMarks-unmarked c.args.template.now row c.args.k c.args.marks.now are c.if-not-marks-k.true }

pub returns-in-Param : goal.returns-in-Param
returns-in-Param c =
    record { marks = λ row are. ArePartMarks-param c.args.template.now row c.args.k c.args.marks.now are c.in-Param.field-0 c.in-Param.ensures.value c.if-not-marks-k.false }

pub returns-in-Head : goal.returns-in-Head
returns-in-Head c = record { marks = λ row are. ArePartMarks-head c.args.template.now row c.args.k c.args.marks.now are c.in-Head.field-0 c.in-Head.ensures.value }

pub returns-in-Apply : goal.returns-in-Apply
returns-in-Apply c =
    record {
      marks = λ row are.
          ArePartMarks-apply c.args.template.now row c.args.k c.args.marks.now are c.in-Apply.m c.in-Apply.l c.len-ordered.ensures.ordered c.in-Apply.ensures.value c.if-not-marks-k.false c.requires.long (length-set c.args.marks.now c.in-Apply.m.0 true);
    }
