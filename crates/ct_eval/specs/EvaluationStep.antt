-- One step of evaluation: from the nodes of the terms under a term to its own.
use Rattle.std.specs.Prelude.{◌≡◌, ◌↔◌, ◌⊎◌, ℕ, ◌<◌, IsTrue, List, [], ◌∷◌, ◌++◌, length, get_or, Some, slice_get}
use Rattle.std.specs.List.{AllZip}
use Rattle.ct_sorts.specs.declared.ids.SortId.{SortId}
use Rattle.ct_sorts.specs.Declarations.{Declarations}
use Rattle.ct_values.specs.declared.node.NodeId.{NodeId}
use Rattle.ct_values.specs.declared.node.Node.{Node}
use Rattle.ct_values.specs.Graph.{Nodes, IsClosed}
use Rattle.ct_values.specs.Value.{Value, IsOver}
use Rattle.ct_values.specs.Agreement.{Point, point, head, children, agree, same, AgreeAlways}
use Rattle.ct_values.specs.Fitting.{HasNodeSort, FitsGraph}
use Rattle.ct_values.specs.Sharing.{IsRepresentative}
use Rattle.ct_terms.specs.declared.ids.TermId.{TermId}
use Rattle.ct_terms.specs.declared.term.Core.{Core}
use Rattle.ct_terms.specs.Terms.{Terms, IsOfSort, HasSort, HasArgumentsBelow}
use Rattle.ct_eval.specs.declared.interp.Interp.{Interp}
use Rattle.ct_eval.specs.Evaluation.{core_value, value_of}
use Rattle.ct_eval.specs.Valued.{IsLonger, AreNewAmong}

-- the theorems on values and representatives that a step rests on
pub record Theorems : Type 0 where
  pub itself : (p : Point) → AgreeAlways p p
  pub turned : (p q : Point) → AgreeAlways p q → AgreeAlways q p
  pub chained : (p q r : Point) → AgreeAlways p q → AgreeAlways q r → AgreeAlways p r
  pub always : (p q : Point) → AgreeAlways p q ↔ ((head p ≡ head q) × AllZip AgreeAlways (children p) (children q))
  pub every_depth : (p q : Point) → IsClosed p.graph → IsClosed q.graph → IsTrue (same p q) ↔ AgreeAlways p q
  pub grown : (k : ℕ) (g more : Nodes) (v : Value) (q : Point) → IsClosed g → IsOver g v → agree k (point (g ++ more) v) q ≡ agree k (point g v) q
  pub one : (g : Nodes) (p q : Point) (m n : NodeId) → IsRepresentative g p m → IsRepresentative g q n → (m ≡ n) ↔ AgreeAlways p q
  pub same_first : (g : Nodes) (p q : Point) (n : NodeId) → AgreeAlways p q → IsRepresentative g p n → IsRepresentative g q n
  pub lasting : (g more : Nodes) (p : Point) (n : NodeId) → IsClosed g → IsRepresentative g p n → IsRepresentative (g ++ more) p n

-- the node is the representative in the graph of this value over the interpretation's graph, and has this sort
pub record HasValue (d : Declarations) (i : Interp) (g : Nodes) (v : Value) (sort : SortId) (n : NodeId) : Type 0 where
  pub first : IsRepresentative g (point i.graph v) n
  pub sorted : HasNodeSort d g n sort

-- each term that has a node here has its value
abbrev pub AreValued : Declarations → Interp → Terms → Nodes → List NodeId → (TermId → Value) → Type 0
AreValued d i terms g nodes value = (t : TermId) (sort : SortId) (n : NodeId) → IsOfSort terms t sort → slice_get nodes t.0 ≡ Some n → HasValue d i g (value t) sort n

-- the graph goes on from that of the interpretation by some of these nodes, and each term that has a node here has its value
pub record HaveNodes (d : Declarations) (i : Interp) (terms : Terms) (g : Nodes) (nodes : List NodeId) : Type 0 where
  pub longer : IsLonger i.graph g
  pub made : AreNewAmong i.graph g nodes
  pub fits : FitsGraph d g
  pub valued : AreValued d i terms g nodes (value_of d i terms)

-- nothing was added to the graph, or one node at its end, which is this one
abbrev pub IsGrown : Nodes → Nodes → NodeId → Type 0
IsGrown old new n = (new ≡ old) ⊎ ((node : Node) × (new ≡ old ++ node ∷ []) × (n.0 ≡ length old))

-- the node of a term under it
abbrev pub node_under : List NodeId → TermId → NodeId
node_under nodes t = get_or nodes t.0 (record { 0 = 0 })

-- the term has a node, which is one of the graph
abbrev pub HasNode : Nodes → List NodeId → TermId → Type 0
HasNode g nodes t = (t.0 < length nodes) × ((node_under nodes t).0 < length g)

-- the terms under the term have nodes that are their values, and the term has a sort
pub record IsEvaluable (d : Declarations) (i : Interp) (g : Nodes) (nodes : List NodeId) (core : Core) : Type 0 where
  pub terms : Terms
  pub value : TermId → Value
  pub sort : SortId
  pub valued : AreValued d i terms g nodes value
  pub sorted : HasSort d terms core sort
  pub below : HasArgumentsBelow (length nodes) core

-- the node is the value, of this sort, and the graph fits
abbrev pub IsResult : Declarations → Interp → Nodes → Value → SortId → NodeId → Type 0
IsResult d i g v sort n = FitsGraph d g × HasValue d i g v sort n

-- whatever the terms under it mean of which the old graph has nodes, the node of the new graph is the value of the term
abbrev pub IsNodeFor : Declarations → Interp → Nodes → Nodes → List NodeId → Core → NodeId → Type 0
IsNodeFor d i old new nodes core n = (terms : Terms) (value : TermId → Value) (sort : SortId) → AreValued d i terms old nodes value → HasSort d terms core sort → IsResult d i new (core_value d i value core) sort n
