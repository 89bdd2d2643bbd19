use Rattle.ct_sexpr.specs.Expression.{nesting}
use Rattle.ct_sexpr.specs.View.{expression_of}
use Rattle.ct_sorts.specs.Grown.{Begins}
use Rattle.ct_values.specs.WellFormed.{IsWellFormedGraph}
use Rattle.ct_readback.specs.BodySoFar.{IsBodySoFar}
use Rattle.ct_readback.proofs.item.read_body.Given as goal

abbrev pub invariant-loop-test : goal.invariant-loop-test
invariant-loop-test l = Begins l.fn.graph l.graph × IsWellFormedGraph l.sig l.graph × IsBodySoFar l.sig l.args l.s (expression_of l.fn.body) l.graph (expression_of l.left) l.found.cyclic l.found.rows.items

abbrev pub decreases-loop-test : goal.decreases-loop-test
decreases-loop-test l = nesting (expression_of l.left)
