-- Open classes, those whose values are chosen, and nodes of which other classes have copies.
use Rattle.std.specs.Prelude.{◌≡◌, ℕ, ◌==◌, ◌<◌, Bool, false, List, length, take, count_by, Option, None, Some, slice_get}
use Rattle.ct_sorts.specs.declared.ids.SortId.{SortId}
use Rattle.ct_sorts.specs.Declarations.{Declarations, IsSort}
use Rattle.ct_card.specs.declared.size.Size.TheVariants.{Infinite}
use Rattle.ct_card.specs.Cardinality.{HasSize}
use Rattle.ct_values.specs.declared.node.NodeId.{NodeId}
use Rattle.ct_values.specs.Graph.{Nodes}
use Rattle.ct_values.specs.Fitting.{HasNodeSort}
use Rattle.ct_terms.specs.declared.ids.TermId.{TermId}
use Rattle.ct_terms.specs.declared.term.Core.{Core}
use Rattle.ct_terms.specs.Terms.{Terms, IsOfSort}
use Rattle.ct_congr.specs.State.{State}
use Rattle.ct_build.specs.declared.open_classes.OpenClass.{OpenClass}
use Rattle.ct_build.specs.ClassValues.{IsUnbuilt}

-- the term represents a class that has no constructor term and whose sort is infinite: an open class
pub record IsOpenClass (state : State) (class : OpenClass) : Type 0 where
  pub own : slice_get state.reps class.rep.0 ≡ Some class.rep
  pub sort : SortId
  pub sorted : IsOfSort state.terms class.rep sort
  pub declared : IsSort state.declarations sort
  pub infinite : HasSize state.declarations sort.0 Infinite
  pub unbuilt : IsUnbuilt state class.rep

-- the entry of a table is of this sort
abbrev pub has_sort : SortId → Option (Core × SortId) → Bool
has_sort s None = false
has_sort s (Some entry) = entry.1.0 == s.0

-- how many of the classes are of this sort
abbrev pub count_of : Terms → SortId → List OpenClass → ℕ
count_of terms s list = count_by (λ (class : OpenClass). has_sort s (slice_get terms class.rep.0)) list

-- the rank of each class is how many of those before it are of its sort
abbrev pub AreRanked : State → List OpenClass → Type 0
AreRanked state list = (i : ℕ) (class : OpenClass) (s : SortId) → slice_get list i ≡ Some class → IsOfSort state.terms class.rep s
    → class.rank ≡ count_of state.terms s (take i list)

-- a number for each sort: how many of the classes are of it
abbrev pub AreCounts : State → List OpenClass → List ℕ → Type 0
AreCounts state list counts = (s : SortId) (count : ℕ) → slice_get counts s.0 ≡ Some count → count ≡ count_of state.terms s list

-- all open classes, each once and with its rank
pub record AreOpenClasses (state : State) (list : List OpenClass) : Type 0 where
  pub only : (i : ℕ) (class : OpenClass) → slice_get list i ≡ Some class → IsOpenClass state class
  pub each : (class : OpenClass) → IsOpenClass state class → (i : ℕ) × (other : OpenClass) × (slice_get list i ≡ Some other) × (other.rep ≡ class.rep)
  pub once : (i j : ℕ) (first second : OpenClass) → slice_get list i ≡ Some first → slice_get list j ≡ Some second → first.rep ≡ second.rep → i ≡ j
  pub ranked : AreRanked state list

-- all open classes of terms below the count, each once and with its rank; and the representatives of these terms are their own
pub record AreFirstOpen (state : State) (count : ℕ) (list : List OpenClass) : Type 0 where
  pub only : (i : ℕ) (class : OpenClass) → slice_get list i ≡ Some class → IsOpenClass state class × (class.rep.0 < count)
  pub each : (class : OpenClass) → IsOpenClass state class → class.rep.0 < count → (i : ℕ) × (other : OpenClass) × (slice_get list i ≡ Some other) × (other.rep ≡ class.rep)
  pub once : (i j : ℕ) (first second : OpenClass) → slice_get list i ≡ Some first → slice_get list j ≡ Some second → first.rep ≡ second.rep → i ≡ j
  pub ranked : AreRanked state list
  pub own : (t r : TermId) → t.0 < count → slice_get state.reps t.0 ≡ Some r → slice_get state.reps r.0 ≡ Some r

-- each representative is its own
abbrev pub HaveOwnRepresentatives : State → Type 0
HaveOwnRepresentatives state = (t r : TermId) → slice_get state.reps t.0 ≡ Some r → slice_get state.reps r.0 ≡ Some r

-- a node for each sort, of this sort
pub record AreOfAllSorts (d : Declarations) (g : Nodes) (list : List NodeId) : Type 0 where
  pub long : length list ≡ length d.sorts
  pub sorted : (s : ℕ) (n : NodeId) → slice_get list s ≡ Some n → HasNodeSort d g n (record { 0 = s })
