use Rattle.std.proofs.Common.{drop}
use Rattle.ct_sexpr.specs.View.{expressions_of}
use Rattle.ct_sorts.specs.Grown.{Begins}
use Rattle.ct_values.specs.WellFormed.{IsWellFormedGraph}
use Rattle.ct_readback.proofs.PartLemmas.{AreEquationsSoFar}
use Rattle.ct_readback.proofs.item.read_equations.Given as goal

abbrev pub invariant-loop-i : goal.invariant-loop-i
invariant-loop-i l =
    Begins l.fn.graph l.graph × IsWellFormedGraph l.sig l.graph
    × AreEquationsSoFar l.sig l.graph l.sorts (expressions_of l.equations) l.i (drop l.i l.sorts) (expressions_of (drop l.i l.equations)) l.cyclic l.nodes.items
