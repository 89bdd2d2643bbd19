-- Representatives of values: what stays where the graph grows, and what a representative tells of its value.
use Rattle.std.proofs.Common.{◌≡◌, ℕ, ◌<◌, List, [], ◌++◌, length, Some, slice_get, sym, ap, subst, ◌∙◌, append_assoc}
use Rattle.std.specs.List.{AllZip}
use Rattle.std.proofs.lemmas.List.{append-nil}
use Rattle.ct_lemmas.proofs.Lists.{slice_get-append_left}
use Rattle.ct_sorts.specs.declared.ids.CtorId.{CtorId}
use Rattle.ct_sorts.specs.declared.ids.SortId.{SortId}
use Rattle.ct_sorts.specs.Declarations.{Declarations}
use Rattle.ct_values.specs.declared.node.NodeId.{NodeId}
use Rattle.ct_values.specs.Graph.{Nodes, IsClosed}
use Rattle.ct_values.specs.Value.{Value, reference}
use Rattle.ct_values.specs.Agreement.{Point, point, node_point, head, head_of, children, AgreeAlways}
use Rattle.ct_values.specs.Fitting.{HasNodeSort}
use Rattle.ct_values.specs.Sharing.{IsRepresentative}
use Rattle.ct_terms.specs.declared.ids.TermId.{TermId}
use Rattle.ct_terms.specs.Terms.{Terms}
use Rattle.ct_eval.specs.declared.interp.Interp.{Interp}
use Rattle.ct_values.specs.TruthValue.{is_head, is_built}
use Rattle.ct_eval.specs.Valued.{IsLonger}
use Rattle.ct_eval.specs.EvaluationStep.{HasValue, AreValued, Theorems}

-- a graph goes on from itself, and what goes on from a longer graph goes on from the graph
pub IsLonger-itself : (g : Nodes) → IsLonger g g
IsLonger-itself g = ([], sym (append-nil g))

pub IsLonger-further : (g mid last : Nodes) → IsLonger g mid → IsLonger mid last → IsLonger g last
IsLonger-further g mid last h k = (h.0 ++ k.0, k.1 ∙ ap (λ (m : Nodes). m ++ k.0) h.1 ∙ append_assoc g h.0 k.0)

-- a node of a graph is there in a longer one
pub node_stays : (g longer : Nodes) (n : ℕ) → IsLonger g longer → (node : _) → slice_get g n ≡ Some node → slice_get longer n ≡ Some node
node_stays g longer n l node e = subst (λ (h : Nodes). slice_get h n ≡ Some node) (sym l.1) (slice_get-append_left g l.0 n node e)

-- a representative stays one
pub IsRepresentative-longer : Theorems → (g longer : Nodes) (p : Point) (n : NodeId) → IsClosed g → IsLonger g longer → IsRepresentative g p n → IsRepresentative longer p n
IsRepresentative-longer theorems g longer p n closed l f = subst (λ (h : Nodes). IsRepresentative h p n) (sym l.1) (theorems.lasting g l.0 p n closed f)

-- a node keeps its sort
pub HasNodeSort-longer : (d : Declarations) (g longer : Nodes) (n : NodeId) (s : SortId) → IsLonger g longer → HasNodeSort d g n s → HasNodeSort d longer n s
HasNodeSort-longer d g longer n s l h = (h.0, node_stays g longer n.0 l h.0 h.1, h.2)

-- a node of a value stays its node
pub HasValue-longer : Theorems → (d : Declarations) (i : Interp) (g longer : Nodes) (v : Value) (s : SortId) (n : NodeId) → IsClosed g → IsLonger g longer → HasValue d i g v s n → HasValue d i longer v s n
HasValue-longer theorems d i g longer v s n closed l h = record {
  first = IsRepresentative-longer theorems g longer (point i.graph v) n closed l h.first;
  sorted = HasNodeSort-longer d g longer n s l h.sorted;
}

-- and so do the nodes of terms
pub AreValued-longer : Theorems → (d : Declarations) (i : Interp) (terms : Terms) (g longer : Nodes) (nodes : List NodeId) (value : TermId → Value) → IsClosed g → IsLonger g longer → AreValued d i terms g nodes value → AreValued d i terms longer nodes value
AreValued-longer theorems d i terms g longer nodes value closed l valued t s n sorted at = HasValue-longer theorems d i g longer (value t) s n closed l (valued t s n sorted at)

-- a representative has the head of its value, and children that are those of its value
pub head_of_representative : Theorems → (g : Nodes) (p : Point) (n : NodeId) → IsRepresentative g p n → head_of g (reference n) ≡ head p
head_of_representative theorems g p n f = ((theorems.always (node_point g n) p).0 f.same).0

pub children_of_representative : Theorems → (g : Nodes) (p : Point) (n : NodeId) → IsRepresentative g p n → AllZip AgreeAlways (children (node_point g n)) (children p)
children_of_representative theorems g p n f = ((theorems.always (node_point g n) p).0 f.same).1

-- so it is built by the constructor that builds its value
pub built_alike : Theorems → (g h : Nodes) (c : CtorId) (v : Value) (n : NodeId) → IsRepresentative g (point h v) n → is_built g c (reference n) ≡ is_built h c v
built_alike theorems g h c v n f = ap (is_head c) (head_of_representative theorems g (point h v) n f)

-- a node of a closed graph means the same in a longer one
pub node_lasts : Theorems → (g longer : Nodes) (n : NodeId) → IsClosed g → IsLonger g longer → n.0 < length g → AgreeAlways (node_point longer n) (node_point g n)
node_lasts theorems g longer n closed l within =
    subst (λ (h : Nodes). AgreeAlways (node_point h n) (node_point g n)) (sym l.1) (λ k. theorems.grown k g l.0 (reference n) (node_point g n) closed within ∙ theorems.itself (node_point g n) k)
