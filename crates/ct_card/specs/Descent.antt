-- Ways down through layers.
use Rattle.std.specs.Prelude.{◌≡◌, ℕ, zero, suc, ◌+◌, ◌*◌, ◌<◌, ◌⊎◌, Bool, true, false, List, [], ◌∷◌, ◌++◌, length, get_or, Option, None, Some, slice_get, if◌then◌else◌}
use Rattle.ct_sorts.specs.declared.ids.CtorId.{CtorId}
use Rattle.ct_sorts.specs.Declarations.{Declarations}
use Rattle.ct_values.specs.Agreement.{Point}
use Rattle.ct_card.specs.declared.departure.Step.{Step}
use Rattle.ct_card.specs.declared.departure.Layer.{Layer}
use Rattle.ct_card.specs.declared.departure.Departure.{Departure}
use Rattle.ct_card.specs.declared.departure.Departure.TheVariants.{Nowhere, Constructor, Field}
use Rattle.ct_card.specs.declared.descent.Wanted.{Wanted}
use Rattle.ct_card.specs.declared.descent.Passed.{Passed}
use Rattle.ct_card.specs.Cardinality.{IsInfinite}
use Rattle.ct_card.specs.Defaults.{is_free_sort}
use Rattle.ct_card.specs.Nth.{IsNthAfter, reads_digit, turn_below}

-- the value is the one that is wanted
abbrev pub IsWanted : Declarations → List CtorId → List Departure → List Layer → Wanted → Point → Type 0
IsWanted d ctors seconds layers wanted p = (count : ℕ) × IsNthAfter d ctors seconds layers count wanted.turn wanted.sort wanted.number p

-- the field of the step is set for the digit 1, and none for 0
abbrev pub IsSetFor : Step → ℕ → Option Step → Type 0
IsSetFor step zero set = set ≡ None
IsSetFor step (suc zero) set = set ≡ Some step
IsSetFor step (suc (suc n)) set = ⊥

-- the field is set for the last digit of n, and m is what is left
abbrev pub LeavesDigit : Step → ℕ → ℕ → Option Step → Type 0
LeavesDigit step n m set = (b : ℕ) × IsSetFor step b set × (n ≡ b + 2 * m)

-- where a value could have ended: m is one less, or what is left of that where a field holds a digit
abbrev pub LeavesLess : Option Step → ℕ → ℕ → Option Step → Type 0
LeavesLess None n m set = (n ≡ suc m) × (set ≡ None)
LeavesLess (Some step) n m set = (k : ℕ) × (n ≡ suc k) × LeavesDigit step k m set

-- the layer leaves m of the number n, with this field set
abbrev pub Leaves : Layer → Departure → Bool → ℕ → ℕ → Option Step → Type 0
Leaves layer Nowhere turn n m set = (n ≡ m) × (set ≡ None)
Leaves layer (Constructor other) turn n m set = LeavesLess layer.digit n m set
Leaves layer (Field step) true n m set = LeavesDigit step n m set
Leaves layer (Field step) false n m set = LeavesLess None n m set

-- where this value is wanted, that one is below the layer, with this field set
pub record LeadsTo (layer : Layer) (wanted below : Wanted) (set : Option Step) : Type 0 where
  pub next : layer.step.next ≡ below.sort
  pub turned : turn_below wanted.turn layer.departure ≡ below.turn
  pub leaves : Leaves layer layer.departure wanted.turn wanted.number below.number set

-- the wanted value is the one that departs at the layer
pub record EndsAt (layer : Layer) (wanted : Wanted) : Type 0 where
  pub none : wanted.number ≡ 0
  pub reads : reads_digit wanted.turn layer.departure ≡ false
  pub departs : layer.departure ≡ Nowhere → ⊥

-- one layer further down, at a sort with constructors
pub record IsPassed (d : Declarations) (layers : List Layer) (wanted below : Wanted) (layer : Layer) (set : Option Step) : Type 0 where
  pub other : is_free_sort d wanted.sort ≡ false
  pub stored : slice_get layers wanted.sort ≡ Some layer
  pub leads : LeadsTo layer wanted below set

-- the way, through layers of infinite sorts, leads from one wanted value to another
abbrev pub LeadsDown : Declarations → List Layer → Wanted → List Passed → Wanted → Type 0
LeadsDown d layers wanted [] end = wanted ≡ end
LeadsDown d layers wanted (x ∷ way) end =
    (x.sort ≡ wanted.sort) × IsInfinite d wanted.sort × (layer : Layer) × (below : Wanted) × IsPassed d layers wanted below layer x.set × LeadsDown d layers below way end

-- the end is reached: an uninterpreted sort, or a layer at which the value departs
abbrev pub HasComeDown : Declarations → List Layer → Wanted → Type 0
HasComeDown d layers wanted =
    (is_free_sort d wanted.sort ≡ true) ⊎ ((is_free_sort d wanted.sort ≡ false) × (layer : Layer) × (slice_get layers wanted.sort ≡ Some layer) × EndsAt layer wanted)

-- what falls on the way down: the number, and where that stays the turn
abbrev pub weight : Wanted → ℕ
weight wanted = (if wanted.turn then 1 else 0) + 2 * wanted.number

-- one layer further down: the weight is less, or the same with a lower rank among the sorts of several values
pub record IsStepDown (d : Declarations) (several : List ℕ) (layers : List Layer) (way : List Passed) (wanted : Wanted) (longer : List Passed) (below : Wanted) : Type 0 where
  pub layer : Layer
  pub set : Option Step
  pub way_is : longer ≡ way ++ record { sort = wanted.sort; set = set } ∷ []
  pub passed : IsPassed d layers wanted below layer set
  pub inside : below.sort < length d.sorts
  pub infinite : IsInfinite d below.sort
  pub less : (weight below < weight wanted) ⊎ ((weight below ≡ weight wanted) × (get_or several below.sort 0 < get_or several wanted.sort 0))

-- the sum of the ranks
abbrev pub total : List ℕ → ℕ
total [] = 0
total (rank ∷ ranks) = rank + total ranks
