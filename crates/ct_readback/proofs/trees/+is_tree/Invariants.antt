use Rattle.std.proofs.Common.{◌≡◌, ◌+◌, ◌*◌, drop}
use Rattle.ct_sexpr.specs.Expression.{nesting, nesting_of_each}
use Rattle.ct_sexpr.specs.View.{expression_of, expressions_of}
use Rattle.ct_readback.specs.Trees.{are_trees}
use Rattle.ct_readback.proofs.trees.+is_tree.Given as goal

-- what nests less comes last; of what nests alike, an application comes before its arguments, and these before each of them
abbrev pub decreases-is_tree : goal.decreases-is_tree
decreases-is_tree l = 3 * nesting (expression_of l.expr.now)

abbrev pub decreases-is_application : goal.decreases-is_application
decreases-is_application l = 3 * nesting_of_each (expressions_of l.items.now) + 2

abbrev pub decreases-are_trees : goal.decreases-are_trees
decreases-are_trees l = 3 * nesting_of_each (expressions_of l.exprs.now) + 1

abbrev pub invariant-are_trees-loop-expr : goal.invariant-are_trees-loop-expr
invariant-are_trees-loop-expr l = are_trees (expressions_of (drop l.expr-index l.exprs)) ≡ are_trees (expressions_of l.exprs)
