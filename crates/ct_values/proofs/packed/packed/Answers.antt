use Rattle.std.proofs.Common.{[], ◌∷◌, ◌++◌, ap, sym, ◌∙◌}
use Rattle.ct_lemmas.proofs.Prefixes.{take-slice_get_next}
use Rattle.ct_values.specs.Graph.{Nodes}
use Rattle.ct_values.specs.Packed.{node_of}
use Rattle.ct_values.proofs.PackedLemmas.{node_of-found}
use Rattle.ct_values.proofs.packed.packed.Goals as goal

pub loop-n-preserved : goal.loop-n-preserved
loop-n-preserved c =
    let g = c.args.g.now in
    let n = c.loop-n.n in
    let node = node_of c.head.result c.children.result.now in
    let at = node_of-found g n c.head.result c.children.result.now c.head.ensures.value c.children.ensures.value in
    c.in_ok-push.ensures.ok ∙ ap (λ (nodes : Nodes). nodes ++ node ∷ []) c.loop-n.invariant ∙ sym (take-slice_get_next g n node at)
