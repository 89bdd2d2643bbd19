-- Sizes of declarations that grow: what was told of the earlier sorts stays, and each new sort gets its own.
use Rattle.std.specs.Prelude.{◌≡◌, ℕ, suc, ◌<◌, ◌≤◌, ◌⊎◌, false, List, length, Some, slice_get, get_or}
use Rattle.ct_sorts.specs.declared.ids.CtorId.{CtorId}
use Rattle.ct_sorts.specs.Declarations.{Declarations, Sort}
use Rattle.ct_sorts.specs.Consistent.{AreFieldsOverSorts}
use Rattle.ct_sorts.specs.Grown.{Extends}
use Rattle.ct_sorts.specs.Structure.{HaveOwnConstructors, HaveOwnSelectors}
use Rattle.ct_card.specs.declared.departure.Departure.{Departure}
use Rattle.ct_card.specs.declared.departure.Departure.TheVariants.{Nowhere}
use Rattle.ct_card.specs.declared.departure.Layer.{Layer}
use Rattle.ct_card.specs.Cardinality.{IsInfinite}
use Rattle.ct_card.specs.Defaults.{IsChoice, is_free_sort}
use Rattle.ct_card.specs.Departures.{IsDeparture, IsLayer}
use Rattle.ct_card.specs.Rules.{IsDerived}

-- the declarations are later ones, and the earlier ones lack nothing that they name: constructors, selectors, sorts of fields
pub record IsLater (later earlier : Declarations) : Type 0 where
  pub extends : Extends later earlier
  pub own_ctors : HaveOwnConstructors earlier
  pub own_sels : HaveOwnSelectors earlier
  pub fields : AreFieldsOverSorts earlier

-- what stands in the longer list stood there, or has come after it and is so
abbrev pub AreGrownBy : {X : Type 0} → (ℕ → X → Type 0) → List X → List X → Type 0
AreGrownBy {X} Is old new = (s : ℕ) (x : X) → slice_get new s ≡ Some x → (slice_get old s ≡ Some x) ⊎ ((length old ≤ s) × Is s x)

-- the constructor may stand at the top of the sort's default value, if the sort has constructors
abbrev pub IsChosen : Declarations → List ℕ → ℕ → CtorId → Type 0
IsChosen d ranks s c = (sort : Sort) → slice_get d.sorts s ≡ Some sort → 0 < length sort.ctors → IsChoice d ranks s sort c

-- so the second value of the sort departs from its default value, and it does where the sort has several values
pub record IsSecond (d : Declarations) (several : List ℕ) (ctors : List CtorId) (s : ℕ) (departure : Departure) : Type 0 where
  pub departs : (c : CtorId) → slice_get ctors s ≡ Some c → is_free_sort d s ≡ false → IsDeparture d several s c departure
  pub some : is_free_sort d s ≡ false → IsDerived several s → departure ≡ Nowhere → ⊥

-- it is a layer of the sort's values, if that is infinite and has constructors
abbrev pub IsLayerOf : Declarations → List ℕ → ℕ → Layer → Type 0
IsLayerOf d several s layer = IsInfinite d s → is_free_sort d s ≡ false → IsLayer d several s layer

-- the ranks of the first numbers, as many as the count, where the others have gone: the same have one, in the same order
pub record AreCut (ranks cut : List ℕ) (count : ℕ) : Type 0 where
  pub long : length cut ≡ count
  pub still : (n : ℕ) → n < count → IsDerived ranks n → IsDerived cut n
  pub was : (n : ℕ) → n < count → IsDerived cut n → IsDerived ranks n
  pub lower : (m n : ℕ) → m < count → n < count → get_or ranks m 0 < get_or ranks n 0 → get_or cut m 0 < get_or cut n 0

-- The first `index` of the order were looked at: those below the count stand at its beginning, as many as were kept, and have
-- the ranks by that; all else below the count is as it was.
pub record AreKept (count : ℕ) (all whole : List ℕ) (ranks order : List ℕ) (index kept : ℕ) : Type 0 where
  pub long : length ranks ≡ count
  pub whole_long : length order ≡ length whole
  pub rest : (j : ℕ) → index ≤ j → slice_get order j ≡ slice_get whole j
  pub at : (k n : ℕ) → k < kept → slice_get order k ≡ Some n → (n < count) × (get_or ranks n 0 ≡ suc k) × (0 < get_or all n 0) × (get_or all n 0 ≤ index)
  pub of : (n : ℕ) → n < count → 0 < get_or all n 0 → get_or all n 0 ≤ index → (k : ℕ) × (k < kept) × (slice_get order k ≡ Some n)
  pub later : (n : ℕ) → n < count → index < get_or all n 0 → get_or ranks n 0 ≡ get_or all n 0
  pub lower : (m n : ℕ) → m < count → n < count → 0 < get_or all m 0 → get_or all m 0 < get_or all n 0 → get_or all n 0 ≤ index → get_or ranks m 0 < get_or ranks n 0
  pub none : (n : ℕ) → n < count → get_or all n 0 ≡ 0 → get_or ranks n 0 ≡ 0
