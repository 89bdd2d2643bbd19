-- Declarations after a call that adds to them or is refused.
use Rattle.std.proofs.Common.{◌≡◌, ◌<◌, Option, Some, None, Result, Ok, Err, OnErr, IfOk, IfSome, sym, subst}
use Rattle.std.specs.Option.{ok_or}
use Rattle.std.proofs.lemmas.Option.{slice_get_within}
use Rattle.ct_generics.specs.declared.expr.SortExpr.{SortExpr}
use Rattle.ct_generics.specs.Expression.{Expression}
use Rattle.ct_generics.specs.Resolved.{resolved}
use Rattle.ct_sorts.specs.declared.ids.SortId.{SortId}
use Rattle.ct_sorts.specs.Declarations.{Declarations, IsSort}
use Rattle.ct_sorts.specs.Consistent.{IsConsistent}
use Rattle.ct_sorts.specs.Instances.{IsOrigin}
use Rattle.ct_sorts.specs.Grown.{Extends}

-- what is equal to declarations that grew has grown
pub by_equal : (later more earlier : Declarations) → later ≡ more → Extends more earlier → Extends later earlier
by_equal later more earlier same grown = subst (λ (d : Declarations). Extends d earlier) (sym same) grown

-- where a call is refused the declarations are as they were, and else as it says of its result
pub by_result : {T E : Type 0} {P : T → Type 0} (result : Result T E) (later earlier : Declarations) → ((d : Declarations) → Extends d d)
    → IfOk result P → OnErr result (later ≡ earlier) → ((value : T) → P value → Extends later earlier) → Extends later earlier
by_result (Ok value) later earlier itself added kept grows = grows value added
by_result (Err error) later earlier itself added kept grows = by_equal later earlier earlier kept (itself earlier)

-- a written sort that is in the list is a sort
pub of_found : {E : Type 0} (d : Declarations) (expr : SortExpr) → IsConsistent d → (found : Option SortId) (error : E)
    → IfSome found (λ s. (e : Expression) × (resolved d.declared expr ≡ Ok e) × IsOrigin d s e) → IfOk (ok_or found error) (IsSort d)
of_found d expr consistent (Some s) error (e, is, at) = subst (λ n. s.0 < n) consistent.origins.one_each (slice_get_within d.origins s.0 e at)
of_found d expr consistent None error at = tt
