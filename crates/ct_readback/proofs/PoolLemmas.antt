-- A constructor over the same nodes stands in a graph.
use Rattle.std.proofs.Common.{◌≡◌, ℕ, Bool, true, false, List, Some, option_map, slice_get, Decides, sym, ap, ap₂, ◌∙◌}
use Rattle.std.specs.Bool.{OnTrue}
use Rattle.std.proofs.lemmas.Bool.Decides.{Decides-eqb}
use lib.Pointwise.{pointwise_decides}
use Rattle.ct_sorts.specs.declared.ids.CtorId.{CtorId}
use Rattle.ct_values.specs.declared.node.NodeId.{NodeId}
use Rattle.ct_values.specs.declared.node.Node.TheVariants.{Con}
use Rattle.ct_values.specs.declared.node.Head.TheVariants as heads
use Rattle.ct_values.specs.Graph.{Nodes, node_head, node_children}
use Rattle.ct_values.specs.NodeIdTest.{same_node, same_nodes}
use Rattle.ct_values.proofs.PackedLemmas.{node_of-found}

Decides-same_node : (m n : NodeId) → Decides (same_node m n) (m ≡ n)
Decides-same_node m n =
    let d = Decides-eqb m.0 n.0 in
    (λ h i. record { 0 = d.0 h i }, λ e. d.1 (ap (λ k. k.0) e))

pub built_there : (g : Nodes) (n : ℕ) (own c : CtorId) (ns children : List NodeId) (b : Bool) → option_map node_head (slice_get g n) ≡ Some (heads.Con own) → option_map node_children (slice_get g n) ≡ Some ns
    → own.0 ≡ c.0 → b ≡ same_nodes ns children → OnTrue b (slice_get g n ≡ Some (Con c children))
built_there g n own c ns children true head kids same is =
    let ctor : own ≡ c = ap (λ m. record { 0 = m }) same in
    let all : ns ≡ children = (pointwise_decides Decides-same_node ns children).0 (sym is) in
    node_of-found g n (heads.Con own) ns head kids ∙ ap₂ (λ (k : CtorId) (ms : List NodeId). Some (Con k ms)) ctor all
built_there g n own c ns children false head kids same is = tt
