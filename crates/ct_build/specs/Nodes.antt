-- Nodes for sorts, for terms and for the classes of terms.
use Rattle.std.specs.Prelude.{◌≡◌, ℕ, ◌+◌, ◌<◌, ◌⊎◌, List, ◌++◌, length, map, Some, Option, slice_get}
use Rattle.ct_sorts.specs.declared.ids.CtorId.{CtorId}
use Rattle.ct_sorts.specs.declared.ids.SortId.{SortId}
use Rattle.ct_sorts.specs.Declarations.{Declarations}
use Rattle.ct_values.specs.declared.node.NodeId.{NodeId}
use Rattle.ct_values.specs.declared.node.Node.{Node}
use Rattle.ct_values.specs.declared.node.Node.TheVariants as nodes
use Rattle.ct_values.specs.Graph.{Nodes}
use Rattle.ct_values.specs.Agreement.{Point, node_point, AgreeAlways}
use Rattle.ct_values.specs.Fitting.{HasNodeSort}
use Rattle.ct_terms.specs.declared.ids.TermId.{TermId}
use Rattle.ct_terms.specs.declared.term.Core.TheVariants.{Con}
use Rattle.ct_terms.specs.Terms.{Terms, IsOfSort, Has}
use Rattle.ct_rules.specs.Cycle.{IsOfDatatype}
use Rattle.ct_congr.specs.State.{State, AreEqual}
use Rattle.ct_build.specs.ClassValues.{IsUnbuilt, AreClassValues, AreApart}
use Rattle.ct_eval.specs.EvaluationStep.{node_under}

-- the stored nodes are of the sorts at their indices
abbrev pub AreStored : Declarations → Nodes → List (Option NodeId) → Type 0
AreStored d g found = (s : ℕ) (n : NodeId) → slice_get found s ≡ Some (Some n) → HasNodeSort d g n (record { 0 = s })

-- a node for each term, of the term's sort
pub record HaveSortedNodes (d : Declarations) (terms : Terms) (g : Nodes) (list : List NodeId) : Type 0 where
  pub long : length list ≡ length terms
  pub sorted : (t : TermId) (s : SortId) (n : NodeId) → IsOfSort terms t s → slice_get list t.0 ≡ Some n → HasNodeSort d g n s

-- the term represents a class that is of no datatype
pub record IsOtherClass (state : State) (t : TermId) : Type 0 where
  pub own : slice_get state.reps t.0 ≡ Some t
  pub other : IsOfDatatype state.declarations state.terms t → ⊥

-- the representatives of the classes of datatypes, in this order, and then those of other classes: all below the count
pub record IsClassListBelow (state : State) (count : ℕ) (order list : List TermId) : Type 0 where
  pub rest : List TermId
  pub is : list ≡ order ++ rest
  pub others : (i : ℕ) (t : TermId) → slice_get rest i ≡ Some t → IsOtherClass state t
  pub all : (t : TermId) → IsOtherClass state t → t.0 < count → (i : ℕ) × (slice_get rest i ≡ Some t)

-- and then those of all other classes
abbrev pub IsClassList : State → List TermId → List TermId → Type 0
IsClassList state order list = IsClassListBelow state (length state.terms) order list

-- the node is that of the index of the representative in the list, counted from the base
pub record IsReserved (list : List TermId) (base : ℕ) (r : TermId) (n : NodeId) : Type 0 where
  pub index : ℕ
  pub listed : slice_get list index ≡ Some r
  pub number : n.0 ≡ base + index

-- a node for each term: the one that is reserved for its representative
pub record AreNumbered (state : State) (list : List TermId) (base : ℕ) (nodes : List NodeId) : Type 0 where
  pub long : length nodes ≡ length state.terms
  pub of_reps : List NodeId
  pub each : (t r : TermId) → slice_get state.reps t.0 ≡ Some r → slice_get nodes t.0 ≡ slice_get of_reps r.0
  pub reserved : (i : ℕ) (r : TermId) → slice_get list i ≡ Some r → (n : NodeId) × (slice_get of_reps r.0 ≡ Some n) × IsReserved list base r n

-- the node is a constructor term of the class over the nodes of its arguments
pub record IsOfTerm (state : State) (list : List NodeId) (r : TermId) (node : Node) : Type 0 where
  pub con : TermId
  pub ctor : CtorId
  pub args : List TermId
  pub equal : AreEqual state r con
  pub stands : Has state.terms (Con ctor args) con.0
  pub is : node ≡ nodes.Con ctor (map (node_under list) args)

-- the class has no constructor term, and the node is a copy of its value's
pub record IsCopied (state : State) (g : Nodes) (values : List NodeId) (r : TermId) (node : Node) : Type 0 where
  pub copied : NodeId
  pub value : slice_get values r.0 ≡ Some copied
  pub at : slice_get g copied.0 ≡ Some node
  pub unbuilt : IsUnbuilt state r

-- for each representative of the list a node of its class
pub record AreClassNodes (state : State) (g : Nodes) (values : List NodeId) (list : List TermId) (nodes : List NodeId) (added : List Node) : Type 0 where
  pub long : length added ≡ length list
  pub each : (i : ℕ) (r : TermId) (node : Node) → slice_get list i ≡ Some r → slice_get added i ≡ Some node → IsOfTerm state nodes r node ⊎ IsCopied state g values r node

-- the value of a term that its node stands for
abbrev pub term_point : Nodes → List NodeId → TermId → Point
term_point g nodes t = node_point g (node_under nodes t)

-- terms have nodes of the longer graph that are values of classes, and classes without constructor terms have these values
pub record AreAssigned (state : State) (g : Nodes) (values : List NodeId) (longer : Nodes) (nodes : List NodeId) : Type 0 where
  pub long : length nodes ≡ length state.terms
  pub within : (t : ℕ) (n : NodeId) → slice_get nodes t ≡ Some n → n.0 < length longer
  pub classes : AreClassValues state (term_point longer nodes)
  pub one_node : (t u : TermId) → AreEqual state t u → node_under nodes t ≡ node_under nodes u
  pub unbuilt : (t r : TermId) → IsUnbuilt state t → slice_get state.reps t.0 ≡ Some r → AgreeAlways (term_point longer nodes t) (term_point g values r)

-- the nodes of terms are values of classes, and terms of one value are of one class
pub record AreValued (state : State) (g : Nodes) (nodes : List NodeId) : Type 0 where
  pub within : (t : ℕ) (n : NodeId) → slice_get nodes t ≡ Some n → n.0 < length g
  pub classes : AreClassValues state (term_point g nodes)
  pub one_node : (t u : TermId) → AreEqual state t u → node_under nodes t ≡ node_under nodes u
  pub apart : AreApart state (term_point g nodes)
