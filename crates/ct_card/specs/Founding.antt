-- The order in which sorts are well founded.
use Rattle.std.specs.Prelude.{◌≡◌, ℕ, ◌<◌, Bool, true, false, List, [], ◌∷◌, length, Some, slice_get, get_or, if◌then◌else◌}
use Rattle.ct_sorts.specs.declared.ids.CtorId.{CtorId}
use Rattle.ct_sorts.specs.declared.ids.Kind.{Kind}
use Rattle.ct_sorts.specs.declared.ids.Kind.TheVariants.{Bool as BoolKind, Free, Data, Codata}
use Rattle.ct_sorts.specs.Declarations.{Declarations, Sort}
use Rattle.ct_card.specs.declared.chain.Rule.{Rule}
use Rattle.ct_card.specs.Rules.{IsOrder}
use Rattle.ct_card.specs.Fields.{ctor_fields, ctors_of}
use Rattle.ct_card.specs.Ruled.{AreSortRules}

-- it is the kind of datatypes
abbrev pub is_data : Kind → Bool
is_data BoolKind = false
is_data Free = false
is_data Data = true
is_data Codata = false

-- one rule for each sort: it is well founded where it is no datatype
abbrev pub IsKindRule : Declarations → ℕ → Rule → Type 0
IsKindRule d k rule = (sort : Sort) → slice_get d.sorts k ≡ Some sort → (rule.head ≡ k) × (rule.body.items ≡ (if is_data sort.kind then k ∷ [] else []))

-- one rule for each constructor: its sort is well founded where the sorts of its fields are
abbrev pub IsCtorRule : Declarations → ℕ → CtorId → Rule → Type 0
IsCtorRule d s c rule = (rule.head ≡ s) × (rule.body.items ≡ ctor_fields d c)

-- the rules of sorts and of their constructors
abbrev pub AreFoundingRules : Declarations → ℕ → ℕ → List Rule → Type 0
AreFoundingRules d first bound rules = AreSortRules (IsKindRule d) (ctors_of d) (IsCtorRule d) first bound rules

-- the constructor's fields have lower ranks than the sort
abbrev pub HasLowerFields : Declarations → List ℕ → ℕ → CtorId → Type 0
HasLowerFields d ranks s c = (k t : ℕ) → slice_get (ctor_fields d c) k ≡ Some t → get_or ranks t 0 < get_or ranks s 0

-- each datatype has a constructor whose fields have lower ranks
abbrev pub HasFounding : Declarations → List ℕ → Type 0
HasFounding d ranks = (s : ℕ) (sort : Sort) → slice_get d.sorts s ≡ Some sort → sort.kind ≡ Data → (index : ℕ) × (c : CtorId) × (slice_get sort.ctors index ≡ Some c) × HasLowerFields d ranks s c

-- each sort has a rank and stands in the order, and each datatype has a constructor whose fields have lower ranks
pub record AreFounded (d : Declarations) (ranks order : List ℕ) : Type 0 where
  pub long : length ranks ≡ length d.sorts
  pub ordered : IsOrder ranks order
  pub all : (s : ℕ) → s < length d.sorts → 0 < get_or ranks s 0
  pub built : HasFounding d ranks
