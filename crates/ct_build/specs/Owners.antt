-- Which class has a node of a graph as the representative of its node.
use Rattle.std.specs.Prelude.{◌≡◌, ℕ, ◌<◌, ◌⊎◌, List, Option, Some, None, slice_get, slice_set}
use Rattle.ct_values.specs.declared.node.NodeId.{NodeId}
use Rattle.ct_values.specs.Graph.{Nodes}
use Rattle.ct_values.specs.Sharing.{IsRepresentative}
use Rattle.ct_terms.specs.declared.ids.TermId.{TermId}
use Rattle.ct_congr.specs.State.{State}
use Rattle.ct_build.specs.Nodes.{term_point}

-- the term represents a class whose node has this representative
pub record IsOwner (state : State) (g : Nodes) (nodes : List NodeId) (t : TermId) (n : ℕ) : Type 0 where
  pub own : slice_get state.reps t.0 ≡ Some t
  pub first : IsRepresentative g (term_point g nodes t) (record { 0 = n })

-- the classes of terms below the count have the representatives of their nodes, and no node has two classes
pub record AreOwners (state : State) (g : Nodes) (nodes : List NodeId) (count : ℕ) (owners : List (Option TermId)) : Type 0 where
  pub only : (n : ℕ) (t : TermId) → slice_get owners n ≡ Some (Some t) → IsOwner state g nodes t n × (t.0 < count)
  pub each : (t : TermId) → slice_get state.reps t.0 ≡ Some t → t.0 < count → (n : ℕ) × (slice_get owners n ≡ Some (Some t)) × IsOwner state g nodes t n

-- what comes of a claim: the term represents no class, or it gets a node that had no owner, or another has its node
abbrev pub IsClaim : State → Nodes → List NodeId → TermId → List (Option TermId) → List (Option TermId) → Option TermId → Type 0
IsClaim state g nodes t old new None =
    ((new ≡ old) × (slice_get state.reps t.0 ≡ Some t → ⊥))
    ⊎ ((n : ℕ) × IsOwner state g nodes t n × (slice_get old n ≡ Some None) × (new ≡ slice_set old n (Some t)))
IsClaim state g nodes t old new (Some other) = (n : ℕ) × IsOwner state g nodes t n × (slice_get old n ≡ Some (Some other))
