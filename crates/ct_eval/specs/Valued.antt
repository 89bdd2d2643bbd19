-- Terms with a node for each: the representative of the term's value, of its sort.
use Rattle.std.specs.Prelude.{◌≡◌, ◌<◌, ◌≤◌, List, ◌++◌, length, Contains, Some, slice_get}
use Rattle.ct_sorts.specs.declared.ids.SortId.{SortId}
use Rattle.ct_sorts.specs.Declarations.{Declarations}
use Rattle.ct_values.specs.declared.node.NodeId.{NodeId}
use Rattle.ct_values.specs.Graph.{Nodes}
use Rattle.ct_values.specs.Agreement.{point}
use Rattle.ct_values.specs.Fitting.{HasNodeSort, FitsGraph}
use Rattle.ct_values.specs.Sharing.{IsRepresentative}
use Rattle.ct_terms.specs.declared.ids.TermId.{TermId}
use Rattle.ct_terms.specs.Terms.{Terms, IsOfSort}
use Rattle.ct_eval.specs.declared.interp.Interp.{Interp}
use Rattle.ct_eval.specs.declared.interp.Valuation.{Valuation}
use Rattle.ct_eval.specs.Evaluation.{value_of}

-- the second graph is the first with nodes after it
abbrev pub IsLonger : Nodes → Nodes → Type 0
IsLonger g longer = (more : Nodes) × (longer ≡ g ++ more)

-- each node of the longer graph that is not one of the first is among these
abbrev pub AreNewAmong : Nodes → Nodes → List NodeId → Type 0
AreNewAmong g longer nodes = (n : NodeId) → length g ≤ n.0 → n.0 < length longer → Contains nodes n

-- the graph goes on from that of the interpretation, each term has the representative of its value in it, and each new
-- node is that of a term
pub record IsValuation (d : Declarations) (i : Interp) (terms : Terms) (v : Valuation) : Type 0 where
  pub longer : IsLonger i.graph v.graph
  pub made : AreNewAmong i.graph v.graph v.nodes
  pub fits : FitsGraph d v.graph
  pub all : length v.nodes ≡ length terms
  pub sorts : (t : TermId) (sort : SortId) (n : NodeId) → IsOfSort terms t sort → slice_get v.nodes t.0 ≡ Some n → HasNodeSort d v.graph n sort
  pub values : (t : TermId) (n : NodeId) → slice_get v.nodes t.0 ≡ Some n → IsRepresentative v.graph (point i.graph (value_of d i terms t)) n
