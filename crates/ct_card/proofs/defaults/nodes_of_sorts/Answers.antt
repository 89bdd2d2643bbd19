use Rattle.std.proofs.Common.{◌≡◌, ◌∷◌, [], ◌++◌, List, slice_get, sym, ◌∙◌, ap, inl, inr, arith}
use Rattle.ct_values.specs.declared.node.NodeId.{NodeId}
use Rattle.ct_card.specs.Defaults.{node_of_sort}
use Rattle.ct_card.proofs.ListLemmas.{pushed_at}
use Rattle.ct_card.proofs.defaults.nodes_of_sorts.Goals as goal

pub loop-s-preserved : goal.loop-s-preserved
loop-s-preserved c =
    let nodes = c.loop-s.nodes.items in
    let new = c.node_of_sort.result in
    let grown : c.push.new.self.items ≡ nodes ++ new ∷ [] = c.in_ok-push.ensures.items in
    record {
      long = omega (arith, c.in_ok-push.ensures.len, c.loop-s.invariant.long);
      each = λ k n at. elim (pushed_at nodes new n k (ap (λ (l : List NodeId). slice_get l k) (sym grown) ∙ at)) [
        | inl h ↦ c.loop-s.invariant.each k n h
        | inr (e, same) ↦ same ∙ c.node_of_sort.ensures.value ∙ ap (node_of_sort c.args.base c.args.ranks.now) (sym (e ∙ c.loop-s.invariant.long))
      ];
    }
