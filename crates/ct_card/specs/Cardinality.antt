-- How many values sorts have: one, or infinitely many, or else more than one and finitely many (Reynolds and Blanchette
-- 2015, on codatatypes with one value and on finite sorts).
use Rattle.std.specs.Prelude.{◌≡◌, ℕ, ◌⊎◌, Bool, true, [], ◌∷◌, Some, slice_get}
use Rattle.ct_sorts.specs.declared.ids.CtorId.{CtorId}
use Rattle.ct_sorts.specs.declared.ids.Kind.TheVariants.{Free, Data, Codata}
use Rattle.ct_sorts.specs.Declarations.{Declarations, Sort, Constructor}
use Rattle.ct_sorts.specs.Founded.{HasFieldsIn}
use Rattle.ct_card.specs.declared.size.Size.{Size}
use Rattle.ct_card.specs.declared.size.Size.TheVariants.{One, Finite, Infinite}
use Rattle.ct_card.specs.Dependence.{DependsOn, DependsInSteps}

-- a datatype or codatatype that has one constructor, whose fields all have sorts of the set
pub record HasOneShape (d : Declarations) (set : ℕ → Bool) (s : ℕ) : Type 0 where
  pub sort : Sort
  pub id : CtorId
  pub ctor : Constructor
  pub of_sort : slice_get d.sorts s ≡ Some sort
  pub kind : (sort.kind ≡ Data) ⊎ (sort.kind ≡ Codata)
  pub only : sort.ctors ≡ id ∷ []
  pub declared : slice_get d.ctors id.0 ≡ Some ctor
  pub fields : HasFieldsIn d set ctor

-- each sort of the set is so
abbrev pub IsSingleSet : Declarations → (ℕ → Bool) → Type 0
IsSingleSet d set = (s : ℕ) → set s ≡ true → HasOneShape d set s

-- the sort is in some such set, and so in the greatest one
abbrev pub IsSingle : Declarations → ℕ → Type 0
IsSingle d s = (set : ℕ → Bool) × IsSingleSet d set × (set s ≡ true)

-- the set has every uninterpreted sort, every sort that is not single and depends on itself, and every sort with a field of a sort that it has
pub record IsInfiniteSet (d : Declarations) (set : ℕ → Bool) : Type 0 where
  pub free : (s : ℕ) (sort : Sort) → slice_get d.sorts s ≡ Some sort → sort.kind ≡ Free → set s ≡ true
  pub cyclic : (s : ℕ) → (IsSingle d s → ⊥) → DependsInSteps d s s → set s ≡ true
  pub field : (s t : ℕ) → DependsOn d s t → set t ≡ true → set s ≡ true

-- the sort is in each such set, and so in the least one
abbrev pub IsInfinite : Declarations → ℕ → Type 0
IsInfinite d s = (set : ℕ → Bool) → IsInfiniteSet d set → set s ≡ true

-- the sort has this size
abbrev pub HasSize : Declarations → ℕ → Size → Type 0
HasSize d s One = IsSingle d s
HasSize d s Finite = (IsSingle d s → ⊥) × (IsInfinite d s → ⊥)
HasSize d s Infinite = IsInfinite d s
