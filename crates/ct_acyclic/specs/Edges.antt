-- The graph of classes of datatypes: its points are the terms, and only the representative of a class that has a constructor
-- term has kids, which are the representatives of the arguments, at their places.
use Rattle.std.specs.Prelude.{◌≡◌, ℕ, ◌+◌, ◌<◌, ◌≤◌, List, ◌++◌, length, Some, slice_get, slice_index}
use Rattle.std.specs.List.{slice_range, AllZip}
use Rattle.ct_terms.specs.declared.ids.TermId.{TermId}
use Rattle.ct_ordering.specs.declared.hop.Hop.{Hop}
use Rattle.ct_congr.specs.State.{State, AreEqual}
use Rattle.ct_acyclic.specs.Order.{IsDataClass, Leads}

-- the term with this number
abbrev pub term : ℕ → TermId
term n = record { 0 = n }

-- the number is that of the term's representative
pub record IsRepNumber (reps : List TermId) (t : TermId) (n : ℕ) : Type 0 where
  pub of_term : slice_get reps t.0 ≡ Some (term n)
  pub own : slice_get reps n ≡ Some (term n)

-- the list gets the numbers of the representatives of the terms
pub record AddsReps (reps : List TermId) (terms : List TermId) (old new : List ℕ) : Type 0 where
  pub row : List ℕ
  pub added : new ≡ old ++ row
  pub each : AllZip (IsRepNumber reps) terms row

-- the constructor term that is stored for this number leads, at this place, to this term
pub record StoredLeads (state : State) (point place : ℕ) (next : TermId) : Type 0 where
  pub con : TermId
  pub own : slice_get state.reps point ≡ Some (term point)
  pub stored : slice_get state.cons point ≡ Some (Some con)
  pub leads : Leads state con place next

-- the kids of the term: the stored constructor term leads to each, and they are all that constructor terms of the class of a
-- representative lead to; and the representative of the term is its own
pub record IsRow (state : State) (t : ℕ) (row : List ℕ) : Type 0 where
  pub down : (place kid : ℕ) → slice_get row place ≡ Some kid → StoredLeads state t place (term kid)
  pub own : (r : TermId) → slice_get state.reps t ≡ Some r → slice_get state.reps r.0 ≡ Some r
  pub all : (con next : TermId) (place : ℕ) → slice_get state.reps t ≡ Some (term t) → slice_get state.reps next.0 ≡ Some next → AreEqual state con (term t) → Leads state con place next → slice_get row place ≡ Some next.0

-- the list gets the kids of the term
pub record AddsRow (state : State) (t : ℕ) (old new : List ℕ) : Type 0 where
  pub row : List ℕ
  pub added : new ≡ old ++ row
  pub is : IsRow state t row

-- rows one after the other, so many, each as the relation wants it, of numbers below a bound
pub record AreRows (bound : ℕ) (R : ℕ → List ℕ → Type 0) (count : ℕ) (starts kids : List ℕ) : Type 0 where
  pub long : length starts ≡ count + 1
  pub last : slice_index starts count ≡ length kids
  pub rising : (i : ℕ) → i < count → slice_index starts i ≤ slice_index starts (i + 1)
  pub below : (i : ℕ) → i < count + 1 → slice_index starts i ≤ length kids
  pub within : (place kid : ℕ) → slice_get kids place ≡ Some kid → kid < bound
  pub rows : (i : ℕ) → i < count → R i (slice_range kids (slice_index starts i) (slice_index starts (i + 1)))

-- a hop as it is answered: the stored constructor term and the place
pub record IsEntry (state : State) (hop : Hop) (entry : TermId × ℕ) : Type 0 where
  pub stored : slice_get state.cons hop.point ≡ Some (Some entry.0)
  pub equal : AreEqual state (term hop.point) entry.0
  pub place : entry.1 ≡ hop.place

-- of the points before an index, those that represent classes of datatypes, in order
pub record AreKept (state : State) (points : List ℕ) (count : ℕ) (list : List TermId) : Type 0 where
  pub only : (k : ℕ) (t : TermId) → slice_get list k ≡ Some t → IsDataClass state t × ((j : ℕ) × (j < count) × (slice_get points j ≡ Some t.0))
  pub each : (j : ℕ) (t : TermId) → j < count → slice_get points j ≡ Some t.0 → IsDataClass state t → (k : ℕ) × (slice_get list k ≡ Some t)
  pub ordered : (k l : ℕ) (s t : TermId) → k < l → slice_get list k ≡ Some s → slice_get list l ≡ Some t → (i j : ℕ) × (i < j) × (j < count) × (slice_get points i ≡ Some s.0) × (slice_get points j ≡ Some t.0)
