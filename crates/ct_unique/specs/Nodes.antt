-- The classes as labelled points with children: the points are the terms. The representative of a class that has a constructor
-- term has twice that constructor as label, and the representatives of the arguments as children; any other term has an odd
-- label of its own.
use Rattle.std.specs.Prelude.{◌≡◌, ℕ, ◌+◌, ◌*◌, ◌<◌, ◌≤◌, ◌⊎◌, List, ◌++◌, length, Some, slice_get, slice_index}
use Rattle.std.specs.List.{slice_range, AllZip}
use Rattle.ct_sorts.specs.declared.ids.CtorId.{CtorId}
use Rattle.ct_terms.specs.declared.ids.TermId.{TermId}
use Rattle.ct_terms.specs.declared.term.Core.TheVariants.{Con}
use Rattle.ct_terms.specs.Terms.{Has}
use Rattle.ct_congr.specs.State.{State, AreEqual, IsConstructorTerm}

-- the term with this number
abbrev pub term : ℕ → TermId
term n = record { 0 = n }

-- the term represents its class, for which this constructor term is stored
pub record IsOwnCon (state : State) (t con : TermId) : Type 0 where
  pub own : slice_get state.reps t.0 ≡ Some t
  pub stored : slice_get state.cons t.0 ≡ Some (Some con)
  pub equal : AreEqual state t con
  pub built : IsConstructorTerm state.terms con

-- where the term represents its class, that has no constructor term
abbrev pub IsBare : State → ℕ → Type 0
IsBare state t = slice_get state.reps t ≡ Some (term t) → (c : TermId) → IsConstructorTerm state.terms c → AreEqual state (term t) c → ⊥

-- the term represents its class, and the constructor term that is stored for it is this constructor of these arguments
pub record IsBuilt (state : State) (t : ℕ) (ctor : CtorId) (args : List TermId) : Type 0 where
  pub con : TermId
  pub own : slice_get state.reps t ≡ Some (term t)
  pub stored : slice_get state.cons t ≡ Some (Some con)
  pub equal : AreEqual state (term t) con
  pub stands : Has state.terms (Con ctor args) con.0

-- the label of the term
abbrev pub IsLabel : State → ℕ → ℕ → Type 0
IsLabel state t label = ((ctor : CtorId) × (args : List TermId) × IsBuilt state t ctor args × (label ≡ 2 * ctor.0)) ⊎ (IsBare state t × (label ≡ 2 * t + 1))

-- so many labels
pub record AreLabels (state : State) (count : ℕ) (labels : List ℕ) : Type 0 where
  pub long : length labels ≡ count
  pub each : (t : ℕ) → t < count → IsLabel state t (slice_index labels t)

-- the number is that of the term's representative
pub record IsRepNumber (reps : List TermId) (t : TermId) (n : ℕ) : Type 0 where
  pub of_term : slice_get reps t.0 ≡ Some (term n)
  pub own : slice_get reps n ≡ Some (term n)

-- the list gets the numbers of the representatives of the terms
pub record AddsReps (reps : List TermId) (terms : List TermId) (old new : List ℕ) : Type 0 where
  pub row : List ℕ
  pub added : new ≡ old ++ row
  pub each : AllZip (IsRepNumber reps) terms row

-- the children of the term
pub record IsRow (state : State) (t : ℕ) (row : List ℕ) : Type 0 where
  pub each : (ctor : CtorId) (args : List TermId) → IsBuilt state t ctor args → AllZip (IsRepNumber state.reps) args row
  pub own : (place child : ℕ) → slice_get row place ≡ Some child → slice_get state.reps child ≡ Some (term child)

-- the list gets the children of the term
pub record AddsRow (state : State) (t : ℕ) (old new : List ℕ) : Type 0 where
  pub row : List ℕ
  pub added : new ≡ old ++ row
  pub is : IsRow state t row

-- rows one after the other, so many, each as the relation wants it, of numbers below a bound
pub record AreRows (bound : ℕ) (R : ℕ → List ℕ → Type 0) (count : ℕ) (starts children : List ℕ) : Type 0 where
  pub long : length starts ≡ count + 1
  pub last : slice_index starts count ≡ length children
  pub rising : (i : ℕ) → i < count → slice_index starts i ≤ slice_index starts (i + 1)
  pub below : (i : ℕ) → i < count + 1 → slice_index starts i ≤ length children
  pub within : (place child : ℕ) → slice_get children place ≡ Some child → child < bound
  pub rows : (i : ℕ) → i < count → R i (slice_range children (slice_index starts i) (slice_index starts (i + 1)))

-- the number is the block of the representative among the points
pub record IsBlock (state : State) (points : List ℕ) (t : ℕ) (number : ℕ) : Type 0 where
  pub rep : TermId
  pub of_term : slice_get state.reps t ≡ Some rep
  pub own : slice_get state.reps rep.0 ≡ Some rep
  pub is : number ≡ slice_index points rep.0

-- so many blocks
pub record AreBlocks (state : State) (points : List ℕ) (count : ℕ) (blocks : List ℕ) : Type 0 where
  pub long : length blocks ≡ count
  pub each : (t : ℕ) → t < count → IsBlock state points t (slice_index blocks t)
