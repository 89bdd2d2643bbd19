use Rattle.std.proofs.Common.{◌≡◌, ◌+◌, List, [], ◌∷◌, ◌++◌, length, sym, ap, subst, ◌∙◌, arith}
use Rattle.ct_lemmas.proofs.Lists.{slice_get-there}
use Rattle.ct_values.specs.declared.node.NodeId.{NodeId}
use Rattle.ct_values.specs.declared.node.Node.{Node}
use Rattle.ct_values.specs.Graph.{Nodes}
use Rattle.ct_values.specs.Packed.{node_of}
use Rattle.ct_values.specs.Partition.{class_at}
use Rattle.ct_values.specs.Quotient.{numbered_node}
use Rattle.ct_values.proofs.QuotientLemmas.{IsStored, IsStored-new, IsStored-old, numbered_at}
use Rattle.ct_values.proofs.minimising.stored.Goals as goal
use Rattle.ct_values.proofs.minimising.stored.Goals.{then-numbers-index+in_ok-children+in_ok-push, else-numbers-index}

pub loop-index-preserved : goal.loop-index-preserved
loop-index-preserved c =
    let g = c.args.part.now in
    let numbers = c.args.numbers.now in
    let index = c.loop-index.index in
    let nodes = c.loop-index.nodes in
    let x = slice_get-there g index (omega (arith, c.requires.long)) in
    elim c.if-numbers-index.branch [
      | then-numbers-index+in_ok-children+in_ok-push w ↦
          let new : class_at numbers index ≡ length nodes = w.if-numbers-index.true ∙ c.len.ensures.count in
          let made = numbered_at numbers g index x.0 w.head.result w.children.result.now x.1 w.head.ensures.value w.children.ensures.value in
          let children = w.deref.ensures.value ∙ w.in_ok-children.ensures.value in
          let node : node_of w.head.result w.deref.result.now ≡ numbered_node numbers x.0 = ap (λ (ns : List NodeId). node_of w.head.result ns) children ∙ made in
          let more : c.if-numbers-index.nodes ≡ nodes ++ numbered_node numbers x.0 ∷ [] = w.nodes-is ∙ w.in_ok-push.ensures.ok ∙ ap (λ (y : Node). nodes ++ y ∷ []) node in
          subst (λ (stored : Nodes). IsStored numbers g (index + 1) stored) (sym more) (IsStored-new numbers g index nodes x.0 c.requires.long x.1 new c.loop-index.invariant)
      | else-numbers-index w ↦
          let other : class_at numbers index ≡ length nodes → ⊥ = λ e. w.if-numbers-index.false (e ∙ sym c.len.ensures.count) in
          subst (λ (stored : Nodes). IsStored numbers g (index + 1) stored) (sym w.nodes-is) (IsStored-old numbers g index nodes x.0 c.requires.long x.1 other c.loop-index.invariant)
    ]
