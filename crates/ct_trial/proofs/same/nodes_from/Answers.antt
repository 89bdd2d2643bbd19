use Rattle.std.proofs.Common.{◌∙◌, List, [], ◌∷◌, ◌++◌, take, append_assoc, sym, ap, arith}
use Rattle.ct_lemmas.proofs.Prefixes.{take-slice_get_next}
use Rattle.ct_values.specs.declared.node.Node.{Node}
use Rattle.ct_trial.proofs.same.nodes_from.Goals as goal

pub loop-n-preserved : goal.loop-n-preserved
loop-n-preserved c = record {
  within = omega (arith, c.loop-n-test.true, c.len.ensures.count);
  rest =
      let g = c.args.graph.now in
      let node = c.in_ok-node.node in
      take-slice_get_next g c.loop-n.n node c.in_ok-node.ensures.value
      ∙ ap (λ (ns : List Node). ns ++ node ∷ []) c.loop-n.invariant.rest
      ∙ append_assoc (take c.args.first g) c.loop-n.nodes.items (node ∷ [])
      ∙ ap (λ (ns : List Node). take c.args.first g ++ ns) (sym c.in_ok-push.ensures.items);
}
