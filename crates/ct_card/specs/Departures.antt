-- How values of a sort may depart from default values, and the layers by which values of infinite sorts are built.
use Rattle.std.specs.Prelude.{◌≡◌, ℕ, ◌<◌, false, List, length, Some, slice_get, get_or}
use Rattle.ct_sorts.specs.declared.ids.CtorId.{CtorId}
use Rattle.ct_sorts.specs.Declarations.{Declarations}
use Rattle.ct_card.specs.declared.departure.Step.{Step}
use Rattle.ct_card.specs.declared.departure.Departure.{Departure}
use Rattle.ct_card.specs.declared.departure.Departure.TheVariants.{Nowhere, Constructor, Field}
use Rattle.ct_card.specs.declared.departure.Layer.{Layer}
use Rattle.ct_card.specs.Cardinality.{IsInfinite}
use Rattle.ct_card.specs.Rules.{IsDerived}
use Rattle.ct_card.specs.Fields.{ctor_fields, ctors_of}
use Rattle.ct_card.specs.Defaults.{is_free_sort}

-- the first sort has several values, and a lower rank among those sorts than the second
abbrev pub IsLower : List ℕ → ℕ → ℕ → Type 0
IsLower several t s = IsDerived several t × (get_or several t 0 < get_or several s 0)

-- the step goes by a field of the constructor to a sort of several values, whose rank among those is lower
pub record IsLowerField (d : Declarations) (several : List ℕ) (s : ℕ) (c : CtorId) (step : Step) : Type 0 where
  pub ctor : step.ctor ≡ c
  pub field : slice_get (ctor_fields d c) step.place ≡ Some step.next
  pub lower : IsLower several step.next s

-- another constructor of the sort
pub record IsOther (d : Declarations) (s : ℕ) (c other : CtorId) : Type 0 where
  pub index : ℕ
  pub listed : slice_get (ctors_of d s) index ≡ Some other
  pub differ : other ≡ c → ⊥

-- values of the sort may depart so from default values under the constructor: by another constructor, or by a field
abbrev pub IsDeparture : Declarations → List ℕ → ℕ → CtorId → Departure → Type 0
IsDeparture d several s c Nowhere = Unit {0}
IsDeparture d several s c (Constructor other) = IsOther d s c other
IsDeparture d several s c (Field step) = IsLowerField d several s c step

-- the constructor is the only one of its sort, and no field but the skipped one has a sort of several values of a lower rank
pub record HasNoDeparture (d : Declarations) (several : List ℕ) (s : ℕ) (c : CtorId) (skip : ℕ) : Type 0 where
  pub only : length (ctors_of d s) ≡ 1
  pub fields : (k t : ℕ) → slice_get (ctor_fields d c) k ≡ Some t → (k ≡ skip → ⊥) → IsLower several t s → ⊥

-- for each sort of several values with constructors: how its second value departs from its default value
pub record AreSeconds (d : Declarations) (several : List ℕ) (ctors : List CtorId) (seconds : List Departure) : Type 0 where
  pub long : length seconds ≡ length d.sorts
  pub chosen : length ctors ≡ length d.sorts
  pub each : (s : ℕ) (c : CtorId) (departure : Departure) → slice_get ctors s ≡ Some c → slice_get seconds s ≡ Some departure → is_free_sort d s ≡ false → IsDeparture d several s c departure
  pub some : (s : ℕ) → slice_get seconds s ≡ Some Nowhere → is_free_sort d s ≡ false → IsDerived several s → ⊥

-- the digit goes by another field of the step's constructor to a sort of several values
pub record IsDigitField (d : Declarations) (several : List ℕ) (step digit : Step) : Type 0 where
  pub ctor : digit.ctor ≡ step.ctor
  pub field : slice_get (ctor_fields d step.ctor) digit.place ≡ Some digit.next
  pub derived : IsDerived several digit.next
  pub apart : digit.place ≡ step.place → ⊥

-- values of the sort are built in layers of a constructor around the values of an infinite field; a value may depart there
-- from default values at the other fields, and where none can the rank among the sorts of several values falls; another field
-- may hold a digit
pub record IsLayer (d : Declarations) (several : List ℕ) (s : ℕ) (layer : Layer) : Type 0 where
  pub index : ℕ
  pub listed : slice_get (ctors_of d s) index ≡ Some layer.step.ctor
  pub field : slice_get (ctor_fields d layer.step.ctor) layer.step.place ≡ Some layer.step.next
  pub infinite : IsInfinite d layer.step.next
  pub departs : IsDeparture d several s layer.step.ctor layer.departure
  pub apart : (step : Step) → layer.departure ≡ Field step → step.place ≡ layer.step.place → ⊥
  pub falls : layer.departure ≡ Nowhere → get_or several layer.step.next 0 < get_or several s 0
  pub digit : (step : Step) → layer.digit ≡ Some step → IsDigitField d several layer.step step

-- for each infinite sort with constructors such a layer
pub record AreLayers (d : Declarations) (several : List ℕ) (layers : List Layer) : Type 0 where
  pub long : length layers ≡ length d.sorts
  pub each : (s : ℕ) (layer : Layer) → slice_get layers s ≡ Some layer → IsInfinite d s → is_free_sort d s ≡ false → IsLayer d several s layer

-- a step to a sort that is not small, by a field of a constructor of the sort
pub record IsLargeStep (d : Declarations) (small : List ℕ) (s : ℕ) (step : Step) : Type 0 where
  pub index : ℕ
  pub listed : slice_get (ctors_of d s) index ≡ Some step.ctor
  pub field : slice_get (ctor_fields d step.ctor) step.place ≡ Some step.next
  pub large : IsDerived small step.next → ⊥

-- all fields of the sort have small sorts
abbrev pub HasSmallFields : Declarations → List ℕ → ℕ → Type 0
HasSmallFields d small s = (index k t : ℕ) (c : CtorId) → slice_get (ctors_of d s) index ≡ Some c → slice_get (ctor_fields d c) k ≡ Some t → IsDerived small t
