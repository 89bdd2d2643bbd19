use Rattle.std.proofs.Common.{take}
use Rattle.ct_sat.specs.Analysis.{MarksClause}
use Rattle.ct_sat.proofs.marks.mark.Given as goal

abbrev pub invariant-loop-literal : goal.invariant-loop-literal
invariant-loop-literal l = MarksClause l.trail.literals (take l.literal-index l.clause) l.initial.marks.items l.marks.items
