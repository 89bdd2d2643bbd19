use Rattle.std.proofs.Common.{◌≡◌, ◌+◌, ◌*◌, drop, length, map}
use Rattle.ct_sexpr.specs.Expression.{nesting, nesting_of_each}
use Rattle.ct_sexpr.specs.View.{expression_of, expressions_of}
use Rattle.ct_instances.specs.Among.{origin_of}
use Rattle.ct_readback.specs.SortText.{says_each}
use Rattle.ct_readback.proofs.sort_text.+says_sort.Given as goal

-- what nests less comes last; of what nests alike, a list comes before its arguments, and these before each of them
abbrev pub decreases-says_sort : goal.decreases-says_sort
decreases-says_sort l = 3 * nesting (expression_of l.expr.now)

abbrev pub decreases-says_items : goal.decreases-says_items
decreases-says_items l = 3 * nesting_of_each (expressions_of l.items.now) + 2

abbrev pub decreases-says_each : goal.decreases-says_each
decreases-says_each l = 3 * nesting_of_each (expressions_of l.exprs.now) + 1

abbrev pub invariant-says_each-loop-index : goal.invariant-says_each-loop-index
invariant-says_each-loop-index l =
    (length l.sorts ≡ length l.exprs)
    × (says_each l.sig.declared.heads (map (origin_of l.sig) (drop l.index l.sorts)) (expressions_of (drop l.index l.exprs)) ≡ says_each l.sig.declared.heads (map (origin_of l.sig) l.sorts) (expressions_of l.exprs))
