-- The sorts that are found for the nodes of a graph: of those that the root reaches from it down, and of each other node by itself.
use Rattle.std.specs.Prelude.{◌≡◌, ◌<◌, ◌≤◌, ◌⊎◌, ℕ, List, [], ◌∷◌, Bool, true, length, All, Contains, Option, Some, None, is_some, unwrap_or, slice_get}
use Rattle.std.specs.List.{AllZip}
use Rattle.ct_sorts.specs.declared.ids.SortId.{SortId}
use Rattle.ct_sorts.specs.Declarations.{Declarations, IsSort}
use Rattle.ct_sexpr.specs.Expression.{Expressions}
use Rattle.ct_values.specs.declared.node.NodeId.{NodeId}
use Rattle.ct_values.specs.declared.node.Node.{Node}
use Rattle.ct_values.specs.Graph.{Nodes, node_children}
use Rattle.ct_values.specs.Fitting.{FitsNode}
use Rattle.ct_sorts.specs.Grown.{Begins}
use Rattle.ct_readback.specs.declared.descent.Descent.{Descent}
use Rattle.ct_readback.specs.declared.descent.Pair.{Pair}
use Rattle.ct_readback.specs.Parts.{count}
use Rattle.ct_readback.specs.Nodes.{said_at, field_sorts, AreFit, CanHave}

-- the node with this number has the sort
abbrev pub HasSort : List (Option SortId) → ℕ → SortId → Type 0
HasSort sorts i s = slice_get sorts i ≡ Some (Some s)

-- as many nodes as before, and those that had a sort have it
pub record Keeps (old new : List (Option SortId)) : Type 0 where
  pub long : length new ≡ length old
  pub kept : (i : ℕ) (s : SortId) → HasSort old i s → HasSort new i s

-- each node that has a sort is in the list, and each in the list has one
pub record AreListed (sorts : List (Option SortId)) (met : List ℕ) : Type 0 where
  pub listed : (i : ℕ) (s : SortId) → HasSort sorts i s → (k : ℕ) × (slice_get met k ≡ Some i)
  pub sorted : (k i : ℕ) → slice_get met k ≡ Some i → (s : SortId) × HasSort sorts i s

-- only these nodes got these sorts
pub record Extends (old new : Descent) (asked : List (ℕ × SortId)) : Type 0 where
  pub keeps : Keeps old.sorts.items new.sorts.items
  pub begins : Begins old.met.items new.met.items
  pub only : (i : ℕ) (s : SortId) → HasSort new.sorts.items i s → HasSort old.sorts.items i s ⊎ Contains asked (i, s)
  pub listed : AreListed old.sorts.items old.met.items → AreListed new.sorts.items new.met.items

-- a node is none of these, or has another sort
abbrev pub IsOther : List (Option SortId) → ℕ × SortId → Type 0
IsOther sorts pair = (length sorts ≤ pair.0) ⊎ ((t : SortId) × HasSort sorts pair.0 t × (t ≡ pair.1 → ⊥))

-- nodes with sorts, one for one
abbrev pub pairs_of : List NodeId → List SortId → List (ℕ × SortId)
pairs_of [] sorts = []
pairs_of (n ∷ ns) [] = []
pairs_of (n ∷ ns) (s ∷ sorts) = (n.0, s) ∷ pairs_of ns sorts

-- there are not as many nodes as sorts, or one of them cannot have its sort
abbrev pub AreOthers : List (Option SortId) → List NodeId → List SortId → Type 0
AreOthers sorts nodes wanted = (length nodes ≡ length wanted → ⊥) ⊎ ((pair : ℕ × SortId) × Contains (pairs_of nodes wanted) pair × IsOther sorts pair)

-- each node has the sort, one for one
abbrev pub HaveSorts : List (Option SortId) → List NodeId → List SortId → Type 0
HaveSorts sorts nodes wanted = AllZip (λ child t. HasSort sorts child.0 t) nodes wanted

-- a node that has a sort is said with it, and its children have the sorts of its fields
pub record IsDescended (d : Declarations) (rows : Expressions) (sorts : List (Option SortId)) (i : ℕ) (s : SortId) : Type 0 where
  pub declared : IsSort d s
  pub node : Node
  pub said : said_at d rows i s ≡ Some node
  pub children : HaveSorts sorts (node_children node) (field_sorts d node)

-- the row says no node of the sort, or one whose children cannot have the sorts of its fields
abbrev pub IsStopped : Declarations → Expressions → List (Option SortId) → ℕ → SortId → Type 0
IsStopped d rows sorts i s = (said_at d rows i s ≡ None) ⊎ ((node : Node) × (said_at d rows i s ≡ Some node) × AreOthers sorts (node_children node) (field_sorts d node))

-- the pairs of nodes and sorts that a node of a sort asks for
abbrev pub asked_by : Declarations → Option Node → List (ℕ × SortId)
asked_by d None = []
asked_by d (Some node) = pairs_of (node_children node) (field_sorts d node)

-- node 0 has the sort, and so all that it reaches have theirs
pub record AreReached (d : Declarations) (s : SortId) (rows : Expressions) (sorts : List (Option SortId)) : Type 0 where
  pub long : length sorts ≡ count rows
  pub root : HasSort sorts 0 s
  pub each : (i : ℕ) (t : SortId) → HasSort sorts i t → IsDescended d rows sorts i t

-- some node can have no sort
abbrev pub HasUnsorted : Declarations → Expressions → Type 0
HasUnsorted d rows = (i : ℕ) × (i < count rows) × ((t : SortId) → CanHave d rows i t → ⊥)

-- the sorts that are known of nodes are sorts that these can have
pub record AreKnown (d : Declarations) (rows : Expressions) (known : List (Option SortId)) : Type 0 where
  pub long : length known ≡ count rows
  pub declared : (i : ℕ) (s : SortId) → HasSort known i s → IsSort d s
  pub fits : ℕ → SortId → Bool
  pub are_fit : AreFit d rows fits
  pub each : (i : ℕ) (s : SortId) → HasSort known i s → fits i s ≡ true

-- the pair is in the list
abbrev pub HasPair : List Pair → ℕ × SortId → Type 0
HasPair pairs pair = Contains pairs (record { node = pair.0; sort = pair.1.0 })

-- nothing but these was added to the list
pub record Adds (old new : List Pair) (asked : List (ℕ × SortId)) : Type 0 where
  pub begins : Begins old new
  pub only : (i : ℕ) (s : SortId) → HasPair new (i, s) → HasPair old (i, s) ⊎ Contains asked (i, s)

-- each of the nodes has the sort for known, or with it is in the list
abbrev pub AreAsked : List (Option SortId) → List Pair → List NodeId → List SortId → Type 0
AreAsked known pairs nodes wanted = AllZip (λ child t. (child.0 < length known) × (HasSort known child.0 t ⊎ HasPair pairs (child.0, t))) nodes wanted

-- there are not as many nodes as sorts, or one of them is none
abbrev pub AreMissing : ℕ → List NodeId → List SortId → Type 0
AreMissing bound nodes wanted = (length nodes ≡ length wanted → ⊥) ⊎ ((k : ℕ) × (child : NodeId) × (slice_get nodes k ≡ Some child) × (bound ≤ child.0))

-- the row says a node of the sort, whose children have theirs for known or are asked for them
pub record IsAsked (d : Declarations) (rows : Expressions) (known : List (Option SortId)) (pairs : List Pair) (i : ℕ) (s : SortId) : Type 0 where
  pub node : Node
  pub said : said_at d rows i s ≡ Some node
  pub children : AreAsked known pairs (node_children node) (field_sorts d node)

-- the pairs ask for nothing but one another and what is known
pub record AreClosed (d : Declarations) (rows : Expressions) (known : List (Option SortId)) (i : ℕ) (s : SortId) (pairs : List Pair) : Type 0 where
  pub first : HasPair pairs (i, s)
  pub declared : (j : ℕ) (t : SortId) → HasPair pairs (j, t) → IsSort d t
  pub asked : (j : ℕ) (t : SortId) → HasPair pairs (j, t) → IsAsked d rows known pairs j t

-- it says none, or one whose children are no nodes, or not as many as fields
abbrev pub IsUnfit : Declarations → Expressions → ℕ → ℕ → SortId → Type 0
IsUnfit d rows bound i s = (said_at d rows i s ≡ None) ⊎ ((node : Node) × (said_at d rows i s ≡ Some node) × AreMissing bound (node_children node) (field_sorts d node))

-- a sort for each node, by which its row says a node over nodes of the graph
pub record IsSaidNode (d : Declarations) (rows : Expressions) (i : ℕ) (s : SortId) : Type 0 where
  pub declared : IsSort d s
  pub can_have : CanHave d rows i s
  pub node : Node
  pub said : said_at d rows i s ≡ Some node
  pub within : All (λ child. child.0 < count rows) (node_children node)

-- one for each node: the one that it has, if it has one
pub record AreSorts (d : Declarations) (rows : Expressions) (reached : List (Option SortId)) (sorts : List SortId) : Type 0 where
  pub long : length sorts ≡ count rows
  pub kept : (i : ℕ) (s : SortId) → HasSort reached i s → slice_get sorts i ≡ Some s
  pub each : (i : ℕ) (s : SortId) → slice_get sorts i ≡ Some s → IsSaidNode d rows i s

-- the nodes are those that the rows say with these sorts
pub record AreNodesSaid (d : Declarations) (rows : Expressions) (sorts : List SortId) (h : Nodes) : Type 0 where
  pub long : length h ≡ length sorts
  pub each : (i : ℕ) (s : SortId) → slice_get sorts i ≡ Some s → said_at d rows i s ≡ slice_get h i

-- the node with this number has some sort
abbrev pub has_some : List (Option SortId) → ℕ → Bool
has_some sorts i = is_some (unwrap_or (slice_get sorts i) None)

-- the nodes that have a sort are the root and all that they lead to, and these fit the declarations
pub record IsUpperPart (d : Declarations) (h : Nodes) (sorts : List (Option SortId)) : Type 0 where
  pub long : length sorts ≡ length h
  pub root : (s : SortId) × HasSort sorts 0 s
  pub children : (n k : ℕ) (s : SortId) (node : Node) (child : NodeId) → HasSort sorts n s → slice_get h n ≡ Some node → slice_get (node_children node) k ≡ Some child → (t : SortId) × HasSort sorts child.0 t
  pub fits : (n : ℕ) (s : SortId) (node : Node) → HasSort sorts n s → slice_get h n ≡ Some node → FitsNode d h node
