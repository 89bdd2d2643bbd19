use Rattle.std.proofs.Common.{take}
use Rattle.ct_sat.specs.Analysis.{Raises}
use Rattle.ct_sat.proofs.marks.top.Given as goal

abbrev pub invariant-loop-literal : goal.invariant-loop-literal
invariant-loop-literal l = Raises l.trail.literals (take l.literal-index l.clause) 0 l.highest
