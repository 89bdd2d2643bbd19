-- Agreement of two nodes, by what stands at their numbers.
use Rattle.std.proofs.Common.{◌≡◌, ℕ, suc, IsTrue, List, [], map, Some, option_map, unwrap_or, slice_get, sym, ap, subst, ◌∙◌, Option}
use Rattle.std.specs.List.{AllZip}
use Rattle.std.proofs.lemmas.Option.{same_Some}
use Rattle.ct_values.specs.declared.node.NodeId.{NodeId}
use Rattle.ct_values.specs.declared.node.Node.{Node}
use Rattle.ct_values.specs.Graph.{Nodes, node_head, node_children}
use Rattle.ct_values.specs.Value.{reference}
use Rattle.ct_values.specs.Agreement.{Point, point, node_point, head, children, agree, AgreeAlways}
use Rattle.ct_values.proofs.AgreeLemmas.{agree-suc, AgreeAlways-parts}

-- the number as a number of a node
abbrev pub id : ℕ → NodeId
id i = record { 0 = i }

-- these nodes, as points
abbrev pub node_points : Nodes → List NodeId → List Point
node_points g ids = map (point g) (map reference ids)

-- the head of a node of a graph, and its children
pub head_at : (g : Nodes) (n : NodeId) (x : Node) → slice_get g n.0 ≡ Some x → head (node_point g n) ≡ Some (node_head x)
head_at g n x e = ap (option_map node_head) e

pub children_are : (g : Nodes) (n : NodeId) (ns : List NodeId) → option_map node_children (slice_get g n.0) ≡ Some ns → children (node_point g n) ≡ node_points g ns
children_are g n ns e = ap (λ (found : Option (List NodeId)). map (point g) (map reference (unwrap_or found []))) e

pub children_at : (g : Nodes) (n : NodeId) (x : Node) → slice_get g n.0 ≡ Some x → children (node_point g n) ≡ node_points g (node_children x)
children_at g n x e = children_are g n (node_children x) (ap (option_map node_children) e)

-- two nodes agree to a greater depth where their heads are equal and their children agree
pub agree-nodes : (k : ℕ) (g h : Nodes) (m n : NodeId) (x y : Node) → slice_get g m.0 ≡ Some x → slice_get h n.0 ≡ Some y → node_head x ≡ node_head y → AllZip (λ p q. IsTrue (agree k p q)) (node_points g (node_children x)) (node_points h (node_children y)) → IsTrue (agree (suc k) (node_point g m) (node_point h n))
agree-nodes k g h m n x y at_m at_n heads each =
    let R : Point → Point → Type 0 = λ p q. IsTrue (agree k p q) in
    let lefts : AllZip R (children (node_point g m)) (node_points h (node_children y)) = subst (λ (ps : List Point). AllZip R ps (node_points h (node_children y))) (sym (children_at g m x at_m)) each in
    let both_sides : AllZip R (children (node_point g m)) (children (node_point h n)) = subst (λ (ps : List Point). AllZip R (children (node_point g m)) ps) (sym (children_at h n y at_n)) lefts in
    (agree-suc k (node_point g m) (node_point h n)).1 (head_at g m x at_m ∙ ap Some heads ∙ sym (head_at h n y at_n), both_sides)

-- two nodes that agree at every depth have equal heads, and children that do
pub AgreeAlways-nodes : (g h : Nodes) (m n : NodeId) (x y : Node) → slice_get g m.0 ≡ Some x → slice_get h n.0 ≡ Some y → AgreeAlways (node_point g m) (node_point h n) → (node_head x ≡ node_head y) × AllZip AgreeAlways (node_points g (node_children x)) (node_points h (node_children y))
AgreeAlways-nodes g h m n x y at_m at_n always =
    let parts = (AgreeAlways-parts (node_point g m) (node_point h n)).0 always in
    let heads : Some (node_head x) ≡ Some (node_head y) = sym (head_at g m x at_m) ∙ parts.0 ∙ head_at h n y at_n in
    let lefts : AllZip AgreeAlways (node_points g (node_children x)) (children (node_point h n)) = subst (λ (ps : List Point). AllZip AgreeAlways ps (children (node_point h n))) (children_at g m x at_m) parts.1 in (
      same_Some (node_head x) (node_head y) heads,
      subst (λ (ps : List Point). AllZip AgreeAlways (node_points g (node_children x)) ps) (children_at h n y at_n) lefts,
    )
