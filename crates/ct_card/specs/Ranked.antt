-- What the ranks of sorts say: which sorts have more than one value, which have finitely many, and which are well founded.
use Rattle.std.specs.Prelude.{◌≡◌, ℕ, ◌<◌, ◌⊎◌, List, length, Some, slice_get, get_or}
use Rattle.ct_sorts.specs.Declarations.{Declarations, Sort}
use Rattle.ct_card.specs.Dependence.{DependsOn}
use Rattle.ct_card.specs.Rules.{IsDerived}

-- the sort has no constructor or more than one
pub record HasOtherCount (d : Declarations) (s : ℕ) : Type 0 where
  pub sort : Sort
  pub of_sort : slice_get d.sorts s ≡ Some sort
  pub count : length sort.ctors ≡ 1 → ⊥

-- the sort has a field of this lower rank
pub record HasLower (d : Declarations) (ranks : List ℕ) (s : ℕ) : Type 0 where
  pub field : ℕ
  pub step : DependsOn d s field
  pub derived : IsDerived ranks field
  pub lower : get_or ranks field 0 < get_or ranks s 0

-- a sort has a rank where it has another number of constructors than one, or a field of a sort that has one
pub record AreSeveral (d : Declarations) (ranks : List ℕ) : Type 0 where
  pub long : length ranks ≡ length d.sorts
  pub counted : (s : ℕ) → HasOtherCount d s → IsDerived ranks s
  pub field : (s t : ℕ) → DependsOn d s t → IsDerived ranks t → IsDerived ranks s
  pub grounded : (s : ℕ) → IsDerived ranks s → HasOtherCount d s ⊎ HasLower d ranks s

-- a sort with constructors all of whose fields have lower ranks
pub record IsBuiltLower (d : Declarations) (ranks : List ℕ) (s : ℕ) : Type 0 where
  pub sort : Sort
  pub of_sort : slice_get d.sorts s ≡ Some sort
  pub some : 0 < length sort.ctors
  pub derived : (t : ℕ) → DependsOn d s t → IsDerived ranks t
  pub lower : (t : ℕ) → DependsOn d s t → get_or ranks t 0 < get_or ranks s 0

-- a sort has a rank where it is single, or has constructors all of whose fields have sorts with ranks
pub record AreSmall (d : Declarations) (several ranks : List ℕ) : Type 0 where
  pub long : length ranks ≡ length d.sorts
  pub single : (s : ℕ) → s < length d.sorts → (IsDerived several s → ⊥) → IsDerived ranks s
  pub built : (s : ℕ) (sort : Sort) → slice_get d.sorts s ≡ Some sort → 0 < length sort.ctors → ((t : ℕ) → DependsOn d s t → IsDerived ranks t) → IsDerived ranks s
  pub grounded : (s : ℕ) → IsDerived ranks s → (IsDerived several s → ⊥) ⊎ IsBuiltLower d ranks s
