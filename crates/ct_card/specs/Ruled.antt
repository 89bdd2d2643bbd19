-- The rules by which sorts get their ranks. A rule whose body is its head derives nothing.
use Rattle.std.specs.Prelude.{◌≡◌, ℕ, ◌+◌, ◌<◌, ◌≤◌, ◌⊎◌, List, [], ◌∷◌, length, Some, slice_get, get_or, if◌then◌else◌, ◌==◌}
use Rattle.ct_sorts.specs.Declarations.{Declarations}
use Rattle.ct_sorts.specs.Grown.{Begins}
use Rattle.ct_card.specs.declared.chain.Rule.{Rule}
use Rattle.ct_card.specs.Fields.{ctors_of, sort_fields}

-- one rule for each sort: it is of several values where it has not exactly one constructor
abbrev pub IsCountRule : Declarations → ℕ → Rule → Type 0
IsCountRule d k rule = (rule.head ≡ k) × (rule.body.items ≡ (if length (ctors_of d k) == 1 then k ∷ [] else []))

-- one rule for each field of a sort: the sort is so where that of the field is
abbrev pub IsFieldRule : ℕ → ℕ → Rule → Type 0
IsFieldRule s t rule = (rule.head ≡ s) × (rule.body.items ≡ t ∷ [])

-- there is such a rule among these
pub record HasRule (rules : List Rule) (Is : Rule → Type 0) : Type 0 where
  pub rule : Rule
  pub index : ℕ
  pub stated : slice_get rules index ≡ Some rule
  pub is : Is rule

-- a rule of one of the sorts from the first to below the bound: that of the sort itself, or that of one of its items
pub record IsOneOf {Item : Type 0} (Own : ℕ → Rule → Type 0) (items : ℕ → List Item) (Of : ℕ → Item → Rule → Type 0) (first bound : ℕ) (rule : Rule) : Type 0 where
  pub sort : ℕ
  pub from : first ≤ sort
  pub below : sort < bound
  pub is : Own sort rule ⊎ ((item : Item) × (index : ℕ) × (slice_get (items sort) index ≡ Some item) × Of sort item rule)

-- the rules of the sorts from the first to below the bound: one for each sort and one for each of its items, and no others
pub record AreSortRules {Item : Type 0} (Own : ℕ → Rule → Type 0) (items : ℕ → List Item) (Of : ℕ → Item → Rule → Type 0) (first bound : ℕ) (rules : List Rule) : Type 0 where
  pub own : (s : ℕ) → first ≤ s → s < bound → HasRule rules (Own s)
  pub each : (s i : ℕ) (item : Item) → first ≤ s → s < bound → slice_get (items s) i ≡ Some item → HasRule rules (Of s item)
  pub only : (k : ℕ) (rule : Rule) → slice_get rules k ≡ Some rule → IsOneOf Own items Of first bound rule

-- the rules of these items stand after those that were there
pub record AreItemRules {Item : Type 0} (Of : Item → Rule → Type 0) (items : List Item) (old new : List Rule) : Type 0 where
  pub grown : Begins old new
  pub long : length new ≡ length old + length items
  pub each : (i : ℕ) (rule : Rule) → slice_get new (length old + i) ≡ Some rule → (item : Item) × (slice_get items i ≡ Some item) × Of item rule

-- the rules of sorts, and of the sorts of their fields
abbrev pub AreSeveralRules : Declarations → ℕ → ℕ → List Rule → Type 0
AreSeveralRules d first bound rules = AreSortRules (IsCountRule d) (sort_fields d) IsFieldRule first bound rules

-- one rule for each sort: it is small where it is single, or where it has constructors and all its fields have small sorts
abbrev pub IsSmallRule : Declarations → List ℕ → ℕ → Rule → Type 0
IsSmallRule d several k rule =
    (rule.head ≡ k) × (rule.body.items ≡ (if get_or several k 0 == 0 then [] else (if length (ctors_of d k) == 0 then k ∷ [] else sort_fields d k)))

-- the rules of the sorts from the first on
pub record AreSmallRules (d : Declarations) (several : List ℕ) (first : ℕ) (rules : List Rule) : Type 0 where
  pub long : first + length rules ≡ length d.sorts
  pub each : (k : ℕ) (rule : Rule) → slice_get rules k ≡ Some rule → IsSmallRule d several (first + k) rule
