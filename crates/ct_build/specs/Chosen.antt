-- Values that were chosen for open classes, a node each, and the nodes of terms that have no value of their class yet.
use Rattle.std.specs.Prelude.{◌≡◌, ℕ, ◌+◌, ◌*◌, ◌/◌, ◌^◌, ◌<◌, ◌≤◌, ◌⊎◌, List, [], ◌∷◌, ◌++◌, length, Some, slice_get}
use Rattle.ct_sorts.specs.declared.ids.SortId.{SortId}
use Rattle.ct_sorts.specs.Grown.{Begins}
use Rattle.ct_values.specs.declared.node.NodeId.{NodeId}
use Rattle.ct_values.specs.declared.node.Node.TheVariants as nodes
use Rattle.ct_values.specs.Graph.{Nodes}
use Rattle.ct_values.specs.Agreement.{Point, node_point}
use Rattle.ct_values.specs.Fitting.{HasNodeSort}
use Rattle.ct_values.specs.WellFormed.{IsWellFormedGraph}
use Rattle.ct_terms.specs.declared.ids.TermId.{TermId}
use Rattle.ct_terms.specs.Terms.{IsOfSort}
use Rattle.ct_congr.specs.State.{State}
use Rattle.ct_build.specs.declared.open_classes.OpenClass.{OpenClass}
use Rattle.ct_build.specs.OpenClasses.{AreOfAllSorts}

-- nodes of a well-formed graph for all sorts and for the first open classes, of their sorts
pub record AreChosen (state : State) (g : Nodes) (defaults : List NodeId) (unbuilt : List OpenClass) (chosen : List NodeId) : Type 0 where
  pub formed : IsWellFormedGraph state.declarations g
  pub of_sorts : AreOfAllSorts state.declarations g defaults
  pub few : length chosen ≤ length unbuilt
  pub sorted : (i : ℕ) (class : OpenClass) (n : NodeId) (s : SortId) → slice_get unbuilt i ≡ Some class → slice_get chosen i ≡ Some n → IsOfSort state.terms class.rep s → HasNodeSort state.declarations g n s

-- the next open class got a node, which has this number among the values of its sort
pub record IsPushed (state : State) (IsNumbered : SortId → ℕ → Point → Type 0) (unbuilt : List OpenClass) (old : Nodes) (before : List NodeId) (number : ℕ) (new : Nodes) (after : List NodeId) : Type 0 where
  pub node : NodeId
  pub grown : Begins old new
  pub nodes_are : after ≡ before ++ node ∷ []
  pub numbered : (class : OpenClass) (s : SortId) → slice_get unbuilt (length before) ≡ Some class → IsOfSort state.terms class.rep s → IsNumbered s number (node_point new node)

-- the open classes from this index on have the values whose numbers are their ranks times the gap, and half of the gap
abbrev pub AreSpread : State → (SortId → ℕ → Point → Type 0) → ℕ → List OpenClass → ℕ → Nodes → List NodeId → Type 0
AreSpread state IsNumbered gap unbuilt from g chosen = (i : ℕ) (class : OpenClass) (n : NodeId) (s : SortId) → from ≤ i
    → slice_get unbuilt i ≡ Some class → slice_get chosen i ≡ Some n → IsOfSort state.terms class.rep s
    → class.rank * gap + gap / 2 < 2 ^ 64 → IsNumbered s (class.rank * gap + gap / 2) (node_point g n)

-- the node for the open class at this index: the chosen one, or its mark where none is chosen yet
pub record IsGivenAt (state : State) (g : Nodes) (unbuilt : List OpenClass) (chosen : List NodeId) (i : ℕ) (n : NodeId) : Type 0 where
  pub within : n.0 < length g
  pub chosen_is : (m : NodeId) → slice_get chosen i ≡ Some m → m ≡ n
  pub marked : (class : OpenClass) → slice_get unbuilt i ≡ Some class → length chosen ≤ i → slice_get g n.0 ≡ Some (nodes.Elem (record { 0 = length state.declarations.sorts }) class.rep.0)

-- the term represents the open class at this index below the count, and the node is the one for it
pub record IsGiven (state : State) (g : Nodes) (unbuilt : List OpenClass) (chosen : List NodeId) (count : ℕ) (t : TermId) (n : NodeId) : Type 0 where
  pub index : ℕ
  pub class : OpenClass
  pub below : index < count
  pub listed : slice_get unbuilt index ≡ Some class
  pub rep : class.rep ≡ t
  pub given : IsGivenAt state g unbuilt chosen index n

-- the node is that of the term's sort
abbrev pub IsDefault : State → List NodeId → TermId → NodeId → Type 0
IsDefault state defaults t n = (s : SortId) × IsOfSort state.terms t s × (slice_get defaults s.0 ≡ Some n)

-- so many terms have the nodes of their sorts
pub record AreDefaults (state : State) (defaults : List NodeId) (count : ℕ) (list : List NodeId) : Type 0 where
  pub long : length list ≡ count
  pub each : (t : TermId) (n : NodeId) → slice_get list t.0 ≡ Some n → IsDefault state defaults t n

-- a node for each term: the one that its open class below the count has, or that of its sort
pub record AreGivenBelow (state : State) (g : Nodes) (defaults : List NodeId) (unbuilt : List OpenClass) (chosen : List NodeId) (count : ℕ) (values : List NodeId) : Type 0 where
  pub long : length values ≡ length state.terms
  pub each : (i : ℕ) (class : OpenClass) → i < count → slice_get unbuilt i ≡ Some class → (n : NodeId) × (slice_get values class.rep.0 ≡ Some n) × IsGivenAt state g unbuilt chosen i n
  pub only : (t : TermId) (n : NodeId) → slice_get values t.0 ≡ Some n → IsGiven state g unbuilt chosen count t n ⊎ IsDefault state defaults t n

-- a node for each term: the one that its open class has, or that of its sort
abbrev pub AreGiven : State → Nodes → List NodeId → List OpenClass → List NodeId → List NodeId → Type 0
AreGiven state g defaults unbuilt chosen values = AreGivenBelow state g defaults unbuilt chosen (length unbuilt) values
