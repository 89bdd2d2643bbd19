use Rattle.std.proofs.Common.{◌+◌, ◌*◌, ℕ, List, length, map, take}
use Rattle.std.specs.Borrow.{Bor}
use Rattle.ct_sexpr.specs.Expression.{nesting, nesting_of_each}
use Rattle.ct_sexpr.specs.View.{expression_of, expressions_of}
use Rattle.ct_names.specs.Sorts.{AreReadAs, declared_in, HaveBelow}
use Rattle.ct_names.proofs.sorts.+sorts.Given as goal

-- what nests less comes last; of what nests alike, a list comes before its items, and these before each of them
abbrev pub decreases-read_sort : goal.decreases-read_sort
decreases-read_sort l = 3 * nesting (expression_of l.expr.now)

abbrev pub decreases-applied_sort : goal.decreases-applied_sort
decreases-applied_sort l = 3 * nesting_of_each (expressions_of l.items.now) + 2

abbrev pub decreases-read_sorts : goal.decreases-read_sorts
decreases-read_sorts l = 3 * nesting_of_each (expressions_of l.exprs.now) + 1

abbrev pub invariant-read_sorts-loop-expr : goal.invariant-read_sorts-loop-expr
invariant-read_sorts-loop-expr l =
    record {
      read : AreReadAs (declared_in l.known) (map (λ (p : Bor (List ℕ)). p.now) l.params) (expressions_of (take l.expr-index l.exprs)) l.sorts.items;
      below : HaveBelow (length l.params) l.sorts.items;
    }
