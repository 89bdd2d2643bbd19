use Rattle.std.proofs.Common.{◌≡◌, ◌∷◌, [], ◌++◌, List, get_or, slice_get, Some, sym, ◌∙◌, ap, inl, inr, arith}
use Rattle.std.proofs.lemmas.Option.{same_Some, slice_get-get_or}
use Rattle.ct_values.specs.declared.node.Node.{Node}
use Rattle.ct_card.specs.Defaults.{default_node}
use Rattle.ct_card.proofs.ListLemmas.{pushed_at}
use Rattle.ct_card.proofs.DefaultLemmas.{order_within}
use Rattle.ct_card.proofs.defaults.default_nodes.Goals as goal

pub default_node-requires-clause-inside : goal.default_node-requires-clause-inside
default_node-requires-clause-inside c =
    order_within c.args.sig.now c.args.ranks.now c.args.order.now c.requires.plan.founded c.loop-s.s-index (get_or c.args.order.now c.loop-s.s-index 0) (slice_get-get_or c.args.order.now c.loop-s.s-index 0 c.loop-s-test.true)

pub loop-s-preserved : goal.loop-s-preserved
loop-s-preserved c =
    let d = c.args.sig.now in
    let nodes = c.loop-s.nodes.items in
    let new = c.in_ok-default_node.field-0 in
    let grown : c.push.new.self.items ≡ nodes ++ new ∷ [] = c.in_ok-push.ensures.items in
    let here : slice_get c.args.order.now c.loop-s.s-index ≡ Some (get_or c.args.order.now c.loop-s.s-index 0) = slice_get-get_or c.args.order.now c.loop-s.s-index 0 c.loop-s-test.true in
    record {
      long = omega (arith, c.in_ok-push.ensures.len, c.loop-s.invariant.long);
      each = λ i s k node at at_s at_k. elim (pushed_at nodes new node i (ap (λ (l : List Node). slice_get l i) (sym grown) ∙ at)) [
        | inl h ↦ c.loop-s.invariant.each i s k node h at_s at_k
        | inr (e, same) ↦
            let index : i ≡ c.loop-s.s-index = e ∙ c.loop-s.invariant.long in
            let sort : get_or c.args.order.now c.loop-s.s-index 0 ≡ s = same_Some _ _ (sym here ∙ ap (slice_get c.args.order.now) (sym index) ∙ at_s) in
            same ∙ c.in_ok-default_node.ensures.node k (ap (slice_get c.args.ctors.now) sort ∙ at_k) ∙ ap (λ n. default_node d c.args.ranks.now c.args.base n k) sort
      ];
    }
