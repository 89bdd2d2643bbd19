use Rattle.std.proofs.Common.{◌≡◌, ◌<◌, ℕ, Some, slice_get}
use Rattle.ct_generics.specs.declared.expr.SortExpr.{SortExpr}
use Rattle.ct_sorts.specs.Written.{AreParametersBelow}
use Rattle.ct_sorts.proofs.parameters.+parameters.Given as goal

abbrev pub invariant-are_all_below-loop-expr : goal.invariant-are_all_below-loop-expr
invariant-are_all_below-loop-expr l = (j : ℕ) (e : SortExpr) → j < l.expr-index → slice_get l.exprs j ≡ Some e → AreParametersBelow l.params e
