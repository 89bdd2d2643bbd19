use Rattle.std.proofs.Common.{take}
use Rattle.ct_sat.specs.Analysis.{Lowers}
use Rattle.ct_sat.proofs.marks.lower.Given as goal

abbrev pub invariant-loop-literal : goal.invariant-loop-literal
invariant-loop-literal l = Lowers l.trail.literals (take l.literal-index l.clause) l.start l.index l.lowest
