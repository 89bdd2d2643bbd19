use Rattle.std.proofs.Common.{◌≡◌, ◌+◌, ◌*◌, drop, length}
use Rattle.ct_sexpr.specs.Expression.{nesting, nesting_of_each}
use Rattle.ct_sexpr.specs.View.{expression_of, expressions_of}
use Rattle.ct_sorts.specs.Grown.{Begins}
use Rattle.ct_values.specs.WellFormed.{IsWellFormedGraph}
use Rattle.ct_readback.proofs.TreeSteps.{AreTreesSoFar}
use Rattle.ct_readback.proofs.trees.+push_tree.Given as goal

abbrev pub decreases-push_tree : goal.decreases-push_tree
decreases-push_tree l = 3 * nesting (expression_of l.expr.now)

abbrev pub decreases-push_application : goal.decreases-push_application
decreases-push_application l = 3 * nesting_of_each (expressions_of l.items.now) + 2

abbrev pub decreases-push_trees : goal.decreases-push_trees
decreases-push_trees l = 3 * nesting_of_each (expressions_of l.exprs.now) + 1

abbrev pub invariant-push_trees-loop-expr : goal.invariant-push_trees-loop-expr
invariant-push_trees-loop-expr l =
    (l.place ≡ l.expr-index) × (length l.fields ≡ length l.exprs) × Begins l.initial.graph l.graph × IsWellFormedGraph l.sig l.graph
    × AreTreesSoFar l.sig l.graph l.fields (expressions_of l.exprs) (drop l.expr-index l.fields) (expressions_of (drop l.expr-index l.exprs)) l.nodes.items
