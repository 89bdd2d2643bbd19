use Rattle.ct_model.proofs.TextLemmas.{parameters-more, parameters-all}
use Rattle.ct_model.proofs.words.write_parameters.Goals as goal

pub loop-index-preserved : goal.loop-index-preserved
loop-index-preserved c =
    let loop = c.loop-index in
    parameters-more c.args.sig.now c.args.sorts.now loop.index (record { 0 = 0 }) c.args.out.now.items loop.out.items c.write_gap.new.out.items c.write_sorted_parameter.new.out.items
    c.loop-index-test.true loop.invariant c.in_ok-write_gap.ensures.ok c.in_ok-write_sorted_parameter.ensures.ok

pub returns : goal.returns
returns c = record {
  ok = parameters-all c.args.sig.now c.args.sorts.now c.loop-index.index c.args.out.now.items c.loop-index.out.items c.push-2.new.self.items c.loop-index-test.false c.loop-index.invariant c.in_ok-push-2.ensures.items;
}
