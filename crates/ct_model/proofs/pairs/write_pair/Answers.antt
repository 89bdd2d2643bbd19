use Rattle.std.proofs.Common.{ap, ◌++◌, ◌∙◌}
use Rattle.ct_model.proofs.PairLemmas.{pair-parts}
use Rattle.ct_model.proofs.pairs.write_pair.Goals as goal

pub returns : goal.returns
returns c = record {
  ok = pair-parts c.args.sig.now c.args.graph.now c.args.expr.now c.args.n c.args.out.now.items c.push.new.self.items c.extend_from_slice.new.self.items c.push-2.new.self.items c.write_value.new.out.items c.push-3.new.self.items
      c.in_ok-push.ensures.items
      (c.in_ok-extend_from_slice.ensures.items ∙ ap (λ w. c.push.new.self.items ++ w) (c.as_slice.ensures.value ∙ c.in_ok-term.ensures.text))
      c.in_ok-push-2.ensures.items c.in_ok-write_value.ensures.ok c.in_ok-push-3.ensures.items;
}
