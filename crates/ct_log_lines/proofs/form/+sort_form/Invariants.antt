use Rattle.std.proofs.Common.{◌≡◌, ◌+◌, ◌*◌, drop}
use Rattle.ct_sexpr.specs.Expression.{nesting, nesting_of_each}
use Rattle.ct_sexpr.specs.View.{expression_of, expressions_of}
use Rattle.ct_log_lines.specs.Forms.{are_sort_forms}
use Rattle.ct_log_lines.proofs.form.+sort_form.Given as goal

-- what nests less comes last; of what nests alike, a list comes before its sorts, and these before each of them
abbrev pub decreases-is_sort_form : goal.decreases-is_sort_form
decreases-is_sort_form l = 3 * nesting (expression_of l.expr.now)

abbrev pub decreases-is_sort_list : goal.decreases-is_sort_list
decreases-is_sort_list l = 3 * nesting_of_each (expressions_of l.items.now) + 2

abbrev pub decreases-are_sort_forms : goal.decreases-are_sort_forms
decreases-are_sort_forms l = 3 * nesting_of_each (expressions_of l.exprs.now) + 1

abbrev pub invariant-are_sort_forms-loop-expr : goal.invariant-are_sort_forms-loop-expr
invariant-are_sort_forms-loop-expr l = are_sort_forms (expressions_of (drop l.expr-index l.exprs)) ≡ are_sort_forms (expressions_of l.exprs)
