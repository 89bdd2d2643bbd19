-- Orders of the classes of datatypes, and cycles through their constructor terms (Reynolds and Blanchette 2015, section 4, on
-- acyclicity).
use Rattle.std.specs.Prelude.{◌≡◌, ℕ, ◌<◌, List, Some, slice_get}
use Rattle.ct_terms.specs.declared.ids.TermId.{TermId}
use Rattle.ct_rules.specs.Cycle.{IsOfDatatype, LeadsTo, IsCycle}
use Rattle.ct_congr.specs.State.{State, AreEqual}
use Rattle.ct_acyclic.specs.declared.answer.OrderError.{OrderError}
use Rattle.ct_acyclic.specs.declared.answer.OrderError.TheVariants.{Cycle, NoMemory}

-- the term represents a class of a datatype
pub record IsDataClass (state : State) (t : TermId) : Type 0 where
  pub own : slice_get state.reps t.0 ≡ Some t
  pub datatype : IsOfDatatype state.declarations state.terms t

-- the constructor term leads, at this place, to the next term, where what is of one class is equal
abbrev pub Leads : State → TermId → ℕ → TermId → Type 0
Leads state con place next = LeadsTo state.declarations state.terms (AreEqual state) con place next

-- exactly the representatives of the classes of datatypes, each once, and each after those that constructor terms of its
-- class lead to
pub record IsClassOrder (state : State) (list : List TermId) : Type 0 where
  pub only : (index : ℕ) (t : TermId) → slice_get list index ≡ Some t → IsDataClass state t
  pub each : (t : TermId) → IsDataClass state t → (index : ℕ) × (slice_get list index ≡ Some t)
  pub once : (first second : ℕ) (t : TermId) → slice_get list first ≡ Some t → slice_get list second ≡ Some t → first ≡ second
  pub after : (t next con : TermId) (place earlier later : ℕ) → AreEqual state con t → Leads state con place next → slice_get list earlier ≡ Some next → slice_get list later ≡ Some t → earlier < later

-- what an error says: there is this cycle, or memory ran out
abbrev pub IsFailure : State → OrderError → Type 0
IsFailure state (Cycle hops) = IsCycle state.declarations state.terms (AreEqual state) hops.items
IsFailure state NoMemory = Unit {0}
