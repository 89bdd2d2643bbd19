-- Trials of values for an open class: which are refused, and why.
use Rattle.std.specs.Prelude.{◌≡◌, ℕ, ◌+◌, ◌⊎◌, List, [], ◌∷◌, ◌++◌, length, Some, slice_get}
use Rattle.ct_sorts.specs.declared.ids.SortId.{SortId}
use Rattle.ct_sorts.specs.Grown.{Begins}
use Rattle.ct_values.specs.declared.node.NodeId.{NodeId}
use Rattle.ct_values.specs.Graph.{Nodes}
use Rattle.ct_values.specs.Agreement.{Point, node_point}
use Rattle.ct_terms.specs.declared.ids.TermId.{TermId}
use Rattle.ct_terms.specs.Terms.{IsOfSort}
use Rattle.ct_congr.specs.State.{State}
use Rattle.ct_build.specs.declared.open_classes.OpenClass.{OpenClass}
use Rattle.ct_build.specs.ClassValues.{AreApartWith, CollideWith}
use Rattle.ct_build.specs.Chosen.{AreChosen}

-- the value with this number, in a longer graph, was tried for the next open class, and with it these two classes have one value
pub record IsRefused (state : State) (IsNumbered : ℕ → Point → Type 0) (g : Nodes) (defaults : List NodeId) (unbuilt : List OpenClass) (chosen : List NodeId) (number : ℕ) (x y : TermId) : Type 0 where
  pub longer : Nodes
  pub node : NodeId
  pub grown : Begins g longer
  pub numbered : IsNumbered number (node_point longer node)
  pub collide : CollideWith state longer defaults unbuilt (chosen ++ node ∷ []) x y

-- so many numbers from this one on were refused, each for two classes
pub record AreRefused (state : State) (IsNumbered : ℕ → Point → Type 0) (g : Nodes) (defaults : List NodeId) (unbuilt : List OpenClass) (chosen : List NodeId) (from tried : ℕ) : Type 0 where
  pub pairs : List (TermId × TermId)
  pub long : length pairs ≡ tried
  pub each : (i : ℕ) (pair : TermId × TermId) → slice_get pairs i ≡ Some pair → IsRefused state IsNumbered g defaults unbuilt chosen (from + i) pair.0 pair.1

-- whatever the next open class and its sort are, the value with this number was refused for two classes
abbrev pub IsRefusedNext : State → (SortId → ℕ → Point → Type 0) → Nodes → List NodeId → List OpenClass → List NodeId → ℕ → Type 0
IsRefusedNext state IsNumbered g defaults unbuilt chosen number =
    (class : OpenClass) (s : SortId) → slice_get unbuilt (length chosen) ≡ Some class → IsOfSort state.terms class.rep s
    → (pair : TermId × TermId) × IsRefused state (IsNumbered s) g defaults unbuilt chosen number pair.0 pair.1

-- one more open class has a value, and no two classes have one value
pub record IsNext (state : State) (defaults : List NodeId) (unbuilt : List OpenClass) (before : List NodeId) (g : Nodes) (chosen : List NodeId) : Type 0 where
  pub are_chosen : AreChosen state g defaults unbuilt chosen
  pub apart : AreApartWith state g defaults unbuilt chosen
  pub more : length chosen ≡ length before + 1

-- each open class has a value; and where there are open classes, no two classes have one value
pub record AreAllChosen (state : State) (defaults : List NodeId) (unbuilt : List OpenClass) (g : Nodes) (chosen : List NodeId) : Type 0 where
  pub are_chosen : AreChosen state g defaults unbuilt chosen
  pub apart : (chosen ≡ []) ⊎ AreApartWith state g defaults unbuilt chosen
  pub all : length chosen ≡ length unbuilt
