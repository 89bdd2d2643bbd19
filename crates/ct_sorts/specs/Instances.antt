-- Instances of generics: which sorts come with one, and with which error one is refused.
use Rattle.std.specs.Prelude.{◌≡◌, ℕ, ◌⊎◌, List, [], ◌∷◌, Some, Ok, Err, slice_get}
use Rattle.ct_sorts.specs.declared.ids.SortId.{SortId}
use Rattle.ct_generics.specs.declared.expr.SortExpr.{SortExpr}
use Rattle.ct_generics.specs.Expression.{Expression}
use Rattle.ct_generics.specs.Resolved.{resolved}
use Rattle.ct_generics.specs.Add.{IsAdded}
use Rattle.ct_sorts.specs.Declarations.{Declarations}
use Rattle.ct_sorts.specs.Limits.{room_in}
use Rattle.ct_sorts.specs.Made.{with_sorts}
use Rattle.ct_sorts.specs.Refusals.{too_many}

-- the sort with this number is this one
abbrev pub IsOrigin : Declarations → SortId → Expression → Type 0
IsOrigin d s e = slice_get d.origins s.0 ≡ Some e

-- the later declarations are the earlier ones with these sorts, and all that come with them, for which there is room
abbrev pub IsWithSorts : Declarations → List Expression → Declarations → Type 0
IsWithSorts d sorts later = (added : List Expression) × IsAdded d.declared.heads (room_in d) sorts d.origins added × (later ≡ with_sorts d added)

-- the later declarations are the earlier ones with the written sort, which has this number
abbrev pub IsWithInstance : Declarations → SortExpr → Declarations → SortId → Type 0
IsWithInstance d expr later s = (e : Expression) × (resolved d.declared expr ≡ Ok e) × IsWithSorts d (e ∷ []) later × IsOrigin later s e

-- there is no room for these sorts and all that come with them, or one of them has too long a text
abbrev pub HasNoRoom : Declarations → List Expression → Type 0
HasNoRoom d sorts = (added : List Expression) → IsAdded d.declared.heads (room_in d) sorts d.origins added → ⊥

-- the number with which the written sort is refused: unknown names and wrong numbers of arguments come first, by place
abbrev pub IsInstanceRefusal : Declarations → SortExpr → ℕ → Type 0
IsInstanceRefusal d expr n =
    (resolved d.declared expr ≡ Err n)
    ⊎ ((e : Expression) × (resolved d.declared expr ≡ Ok e) × HasNoRoom d (e ∷ []) × (n ≡ too_many))
