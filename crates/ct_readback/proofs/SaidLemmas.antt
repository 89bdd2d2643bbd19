-- What a value text says, found as a node, a cycle or nothing.
use Rattle.std.proofs.Common.{◌≡◌, ◌<◌, Bool, true, false, [], ◌∷◌, length, Option, None, Some, MatchBool, MatchOption, refl, sym, ◌∙◌, subst}
use Rattle.std.proofs.lemmas.Option.{none-some, slice_get_within}
use Rattle.ct_sorts.specs.declared.ids.SortId.{SortId}
use Rattle.ct_sorts.specs.Declarations.{Declarations}
use Rattle.ct_sexpr.specs.Expression.{Expression}
use Rattle.ct_values.specs.declared.node.NodeId.{NodeId}
use Rattle.ct_values.specs.Graph.{Nodes}
use Rattle.ct_values.specs.Value.{Value}
use Rattle.ct_values.specs.Agreement.{Point, point, node_point}
use Rattle.ct_readback.specs.declared.value.Said.{Said}
use Rattle.ct_readback.specs.declared.value.Said.TheVariants as said
use Rattle.ct_readback.specs.Cycles.{HasDataCycle}
use Rattle.ct_readback.specs.Trees.{tree_at}
use Rattle.ct_readback.specs.TreeNode.{IsNodeOf}
use Rattle.ct_readback.specs.declared.graph_text.ReadGraph.{ReadGraph}
use Rattle.ct_readback.specs.Nodes.{IsGraphAt}
use Rattle.ct_readback.specs.Descent.{IsUpperPart}
use Rattle.ct_readback.specs.ValueAt.{begins_graph, IsTreeValue, IsGraphValue, IsValueAt}
use Rattle.ct_readback.specs.Placed.{numbered_node, IsPlacedRoot}
use Rattle.ct_readback.specs.Said.{IsSaid}

-- a tree over no graph has no cycle
pub no_nodes_acyclic : (d : Declarations) → HasDataCycle d [] → ⊥
no_nodes_acyclic d (n, [], step) = none-some step.node step.stands
no_nodes_acyclic d (n, (m ∷ way), (step, rest)) = none-some step.node step.stands

-- what is said in other words
pub IsSaid-map : (d : Declarations) (g : Nodes) (P Q : Point → Type 0) (s : SortId) (found : Said) → ((p : Point) → P p → Q p) → ((p : Point) → Q p → P p) → IsSaid d g P s found → IsSaid d g Q s found
IsSaid-map d g P Q s said.Nothing to from h = λ p q. h p (from p q)
IsSaid-map d g P Q s said.Cycle to from (p, h, cycle) = (p, to p h, cycle)
IsSaid-map d g P Q s (said.Value n) to from (p, h, acyclic, node) = (p, to p h, acyclic, node)

-- a constructor term
tree_by : (d : Declarations) (g : Nodes) (s : SortId) (e : Expression) (o : Option Value) → tree_at d s e ≡ o → (found : Option NodeId) → IsNodeOf d s o g found
    → IsSaid d g (IsTreeValue d s e) s (elim found [ None ↦ said.Nothing | Some n ↦ said.Value n ])
tree_by d g s e None is None h = λ p (v, says, same). none-some v (sym is ∙ says)
tree_by d g s e None is (Some n) h = absurd (none-some n (sym h))
tree_by d g s e (Some v) is None h = absurd h
tree_by d g s e (Some v) is (Some n) h = (point [] v, (v, is, refl), no_nodes_acyclic d, record { sorted = h.sorted; value = h.agrees })

pub tree_unsaid : (d : Declarations) (g : Nodes) (s : SortId) (e : Expression) → IsNodeOf d s (tree_at d s e) g None → IsSaid d g (IsTreeValue d s e) s said.Nothing
tree_unsaid d g s e h = tree_by d g s e (tree_at d s e) refl None h

pub tree_said : (d : Declarations) (g : Nodes) (s : SortId) (e : Expression) (n : NodeId) → IsNodeOf d s (tree_at d s e) g (Some n) → IsSaid d g (IsTreeValue d s e) s (said.Value n)
tree_said d g s e n h = tree_by d g s e (tree_at d s e) refl (Some n) h

-- a graph
pub graph_unsaid : (d : Declarations) (g : Nodes) (s : SortId) (e : Expression) → ((h : Nodes) → IsGraphAt d s e h → ⊥) → IsSaid d g (IsGraphValue d s e) s said.Nothing
graph_unsaid d g s e never = λ p (h, is, same). never h is

pub graph_cyclic : (d : Declarations) (g : Nodes) (s : SortId) (e : Expression) (h : Nodes) → IsGraphAt d s e h → HasDataCycle d h → IsSaid d g (IsGraphValue d s e) s said.Cycle
graph_cyclic d g s e h is cycle = (node_point h (numbered_node 0), (h, is, refl), cycle)

pub graph_said : (d : Declarations) (g : Nodes) (s : SortId) (e : Expression) (h : Nodes) (n : NodeId) → IsGraphAt d s e h → (HasDataCycle d h → ⊥) → IsPlacedRoot d h g n → IsSaid d g (IsGraphValue d s e) s (said.Value n)
graph_said d g s e h n is acyclic placed =
    (node_point h (numbered_node 0), (h, is, refl), acyclic, record { sorted = placed.sorted s is.2.root; value = placed.agrees })

-- a value in either form
pub value_of_graph : (d : Declarations) (g : Nodes) (s : SortId) (e : Expression) (found : Said) → begins_graph e ≡ true → IsSaid d g (IsGraphValue d s e) s found → IsSaid d g (IsValueAt d s e) s found
value_of_graph d g s e found is h = subst (λ (b : Bool). IsSaid d g (λ p. MatchBool b (IsGraphValue d s e p) (IsTreeValue d s e p)) s found) (sym is) h

pub value_of_tree : (d : Declarations) (g : Nodes) (s : SortId) (e : Expression) (found : Said) → begins_graph e ≡ false → IsSaid d g (IsTreeValue d s e) s found → IsSaid d g (IsValueAt d s e) s found
value_of_tree d g s e found is h = subst (λ (b : Bool). IsSaid d g (λ p. MatchBool b (IsGraphValue d s e p) (IsTreeValue d s e p)) s found) (sym is) h

-- a graph that was looked for
abbrev pub IsFoundGraph : Declarations → SortId → Expression → Option ReadGraph → Type 0
IsFoundGraph d s e o = MatchOption o ((h : Nodes) → IsGraphAt d s e h → ⊥) (λ read. IsGraphAt d s e read.graph × IsUpperPart d read.graph read.reached.items)

pub graph_found : (d : Declarations) (s : SortId) (e : Expression) (o : Option ReadGraph) (read : ReadGraph) → o ≡ Some read → IsFoundGraph d s e o → IsGraphAt d s e read.graph × IsUpperPart d read.graph read.reached.items
graph_found d s e o read is found = subst (λ (x : Option ReadGraph). IsFoundGraph d s e x) is found

pub graph_missing : (d : Declarations) (s : SortId) (e : Expression) (o : Option ReadGraph) → o ≡ None → IsFoundGraph d s e o → (h : Nodes) → IsGraphAt d s e h → ⊥
graph_missing d s e o is found = subst (λ (x : Option ReadGraph). IsFoundGraph d s e x) is found

-- whether it was placed
abbrev pub IsPlaced : Declarations → Nodes → Nodes → Option NodeId → Type 0
IsPlaced d h g o = MatchOption o (HasDataCycle d h) (λ n. (HasDataCycle d h → ⊥) × IsPlacedRoot d h g n)

pub graph_unplaced : (d : Declarations) (g : Nodes) (s : SortId) (e : Expression) (h : Nodes) (o : Option NodeId) → o ≡ None → IsPlaced d h g o → IsGraphAt d s e h → IsSaid d g (IsGraphValue d s e) s said.Cycle
graph_unplaced d g s e h o is placed at = graph_cyclic d g s e h at (subst (λ (x : Option NodeId). IsPlaced d h g x) is placed)

pub graph_placed : (d : Declarations) (g : Nodes) (s : SortId) (e : Expression) (h : Nodes) (o : Option NodeId) (n : NodeId) → o ≡ Some n → IsPlaced d h g o → IsGraphAt d s e h → IsSaid d g (IsGraphValue d s e) s (said.Value n)
graph_placed d g s e h o n is placed at =
    let both : IsPlaced d h g (Some n) = subst (λ (x : Option NodeId). IsPlaced d h g x) is placed in
    graph_said d g s e h n at both.0 both.1
