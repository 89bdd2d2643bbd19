use Rattle.std.proofs.Common.{List, length, drop}
use Rattle.ct_sexpr.specs.Expression.{Expression}
use Rattle.ct_sexpr.specs.View.{expression_of, expressions_of}
use Rattle.ct_sorts.specs.Grown.{Begins}
use Rattle.ct_values.specs.WellFormed.{IsWellFormedGraph}
use Rattle.ct_readback.specs.BodySoFar.{IsBodySoFar, StandsBefore}
use Rattle.ct_readback.proofs.item.add_rows.Given as goal

abbrev pub invariant-loop-index : goal.invariant-loop-index
invariant-loop-index l = record {
  grown : Begins l.fn.graph l.graph;
  well_formed : IsWellFormedGraph l.sig l.graph;
  so_far : (body left rest : Expression)
      → IsBodySoFar l.sig l.sorts l.s body l.fn.graph left l.fn.found.cyclic l.fn.found.rows.items
      → StandsBefore (length l.sorts) (expressions_of l.tests) (expression_of l.value) rest left
      → (at : Expression) × IsBodySoFar l.sig l.sorts l.s body l.graph at l.found.cyclic l.found.rows.items × StandsBefore (length l.sorts) (expressions_of (drop l.index l.tests)) (expression_of l.value) rest at;
}
