use Rattle.std.proofs.Common.{◌≡◌, ℕ, ◌+◌, [], ◌∷◌, ◌++◌, take, Some, slice_get, ap, sym, ◌∙◌}
use Rattle.ct_lemmas.proofs.Prefixes.{take-slice_get_next}
use Rattle.ct_values.specs.declared.node.Node.{Node}
use Rattle.ct_values.specs.Graph.{Nodes}
use Rattle.ct_values.proofs.packed.unpacked.Goals as goal

-- one more node, where the nodes before it are those of the graph
one_more : (g nodes more : Nodes) (n : ℕ) (node : Node) → more ≡ nodes ++ node ∷ [] → nodes ≡ take n g → slice_get g n ≡ Some node → more ≡ take (n + 1) g
one_more g nodes more n node more_are nodes_are at = more_are ∙ ap (λ (xs : Nodes). xs ++ node ∷ []) nodes_are ∙ sym (take-slice_get_next g n node at)

pub loop-n-preserved : goal.loop-n-preserved
loop-n-preserved c =
    one_more c.args.g.now c.loop-n.nodes.items c.push.new.self.items c.loop-n.n c.in_ok-unpacked_node.field-0 c.in_ok-push.ensures.items c.loop-n.invariant c.in_ok-unpacked_node.ensures.value
