use Rattle.std.proofs.Common.{◌≡◌, refl, length, arith}
use Rattle.ct_model.specs.Listed.{joined}
use Rattle.ct_model.specs.PairsText.{IsPairAt}
use Rattle.ct_model.proofs.ListLemmas.{none_written}
use Rattle.ct_model.proofs.PairLemmas.{pairs-more, pairs-all}
use Rattle.ct_model.proofs.pairs.value_pairs_text.Goals as goal

pub loop-index-init : goal.loop-index-init
loop-index-init c = none_written (IsPairAt c.args.sig.now c.args.graph.now c.args.exprs.now c.args.nodes.now) joined c.push.new.self.items refl

pub loop-index-preserved : goal.loop-index-preserved
loop-index-preserved c =
    pairs-more c.args.sig.now c.args.graph.now c.args.exprs.now c.args.nodes.now c.requires.one_each c.loop-index.index c.index-exprs-index.result (record { 0 = 0 }) c.push.new.self.items c.loop-index.out.items c.write_gap.new.out.items c.write_pair.new.out.items
    c.loop-index-test.true c.index-exprs-index.is c.loop-index.invariant c.in_ok-write_gap.ensures.ok c.in_ok-write_pair.ensures.ok

pub returns : goal.returns
returns c =
    let all : c.loop-index.index ≡ length c.args.exprs.now = omega (arith, c.loop-index-test.false) in
    record {
      text = pairs-all c.args.sig.now c.args.graph.now c.args.exprs.now c.args.nodes.now c.requires.one_each c.loop-index.index c.new-out.result.items c.push.new.self.items c.loop-index.out.items c.push-2.new.self.items
          all c.new-out.ensures.items c.in_ok-push.ensures.items c.loop-index.invariant c.in_ok-push-2.ensures.items;
    }
