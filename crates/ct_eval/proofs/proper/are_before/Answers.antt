use Rattle.std.proofs.Common.{refl, subst, ◌<◌}
use Rattle.std.proofs.lemmas.List.{take_all}
use Rattle.std.proofs.lemmas.List.Elements.{All-more}
use Rattle.ct_values.specs.WellFormed.{IsData, AreBefore}
use Rattle.ct_eval.proofs.proper.are_before.Goals as goal

pub loop-n-preserved : goal.loop-n-preserved
loop-n-preserved c =
    All-more (λ n. IsData c.args.sig.now c.args.graph.now n → n.0 < c.args.bound) c.args.nodes.now c.loop-n.n-index (record { 0 = 0 }) c.loop-n-test.true c.loop-n.invariant (c.is_before.ensures.before.0 c.if-not-is_before.false)

pub returns : goal.returns
returns c = record {
  before = (
    λ e. subst (AreBefore c.args.sig.now c.args.graph.now c.args.bound) (take_all c.loop-n.n-index c.args.nodes.now c.loop-n-test.false) c.loop-n.invariant,
    λ all. refl,
  );
}
