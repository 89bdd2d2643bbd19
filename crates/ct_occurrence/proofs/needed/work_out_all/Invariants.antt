use Rattle.std.proofs.Common.{length, map}
use Rattle.ct_formulas.specs.TreeFormula.{formula_of}
use Rattle.ct_occurrence.specs.Marks.{worked_in}
use Rattle.ct_occurrence.proofs.WorkingLemmas.{WorksOut}
use Rattle.ct_occurrence.proofs.needed.work_out_all.Given as goal

abbrev pub invariant-loop-rest : goal.invariant-loop-rest
invariant-loop-rest l = WorksOut l.sig (map formula_of l.bodies) l.below (worked_in l.initial.definitions) (worked_in l.definitions) l.names l.rest

abbrev pub decreases-loop-rest : goal.decreases-loop-rest
decreases-loop-rest l = length l.rest
