use Rattle.std.proofs.Common.{length, map}
use Rattle.ct_formulas.specs.TreeFormula.{formula_of}
use Rattle.ct_occurrence.specs.Marks.{worked_in}
use Rattle.ct_occurrence.specs.UnderWay.{left_to_do}
use Rattle.ct_occurrence.proofs.UnderWayLemmas.{IsOnTheWay}
use Rattle.ct_occurrence.proofs.under_way.work_out.Given as goal

abbrev pub invariant-loop-frame : goal.invariant-loop-frame
invariant-loop-frame l = IsOnTheWay l.sig (map formula_of l.bodies) (worked_in l.initial.definitions) l.fn.k (worked_in l.definitions) l.stack.items

abbrev pub decreases-loop-frame : goal.decreases-loop-frame
decreases-loop-frame l = left_to_do (length (map formula_of l.bodies)) (worked_in l.definitions) l.stack.items
