-- Written sorts whose parameters are below a bound, one after the other.
use Rattle.std.proofs.Common.{◌≡◌, ℕ, zero, suc, Bool, true, List, [], ◌∷◌, map, All, Some, slice_get, refl}
use Rattle.std.specs.List.{list_all}
use Rattle.ct_lemmas.proofs.Lists.{list_all-at, slice_get-map_at}
use Rattle.ct_generics.specs.declared.decl.CtorDecl.{CtorDecl}
use Rattle.ct_generics.specs.declared.decl.Field.{Field}
use Rattle.ct_generics.specs.declared.decl.SortDecl.{SortDecl}
use Rattle.ct_generics.specs.declared.expr.SortExpr.{SortExpr}
use Rattle.ct_generics.specs.declared.expr.SortExpr.TheFolds.{fold-SortExpr}
use Rattle.ct_generics.specs.WellFormed.{has_below}
use Rattle.ct_sorts.specs.Written.{AreParametersBelow}

pub all_below : (params : ℕ) (exprs : List SortExpr) → ((j : ℕ) (e : SortExpr) → slice_get exprs j ≡ Some e → AreParametersBelow params e) → list_all (λ below. below) (map (fold-SortExpr Bool (has_below params)) exprs) ≡ true
all_below params [] each = refl
all_below params (e ∷ exprs) each = rw (each 0 e refl, all_below params exprs (λ j x at. each (suc j) x at)) refl

pub one_below : (params : ℕ) (exprs : List SortExpr) (j : ℕ) (e : SortExpr) → list_all (λ below. below) (map (fold-SortExpr Bool (has_below params)) exprs) ≡ true → slice_get exprs j ≡ Some e → AreParametersBelow params e
one_below params exprs j e all at = list_all-at (λ (below : Bool). below) (map (fold-SortExpr Bool (has_below params)) exprs) j (fold-SortExpr Bool (has_below params) e) all (slice_get-map_at (fold-SortExpr Bool (has_below params)) exprs j e at)

-- so it is in a declaration
abbrev pub IsDeclBelow : SortDecl → Type 0
IsDeclBelow s = All (λ (c : CtorDecl). All (λ (f : Field). AreParametersBelow s.params f.sort) c.fields) s.ctors
