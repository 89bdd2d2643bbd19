use Rattle.std.proofs.lemmas.Result.{on_ok_weaker}
use Rattle.ct_model.proofs.BodyLemmas.{choice-parts}
use Rattle.ct_model.proofs.body.write_choice.Goals as goal

pub returns : goal.returns
returns c = record {
  ok = on_ok_weaker c.write_closings.result
      (λ is. choice-parts c.args.sig.now c.args.graph.now c.args.table.now c.as_slice-rows.result.now c.in_ok-count.count c.args.out.now.items c.write_openings.new.out.items c.write_value.new.out.items c.write_closings.new.out.items
      c.as_slice-rows.ensures.value c.in_ok-count.ensures.ok c.in_ok-write_value.ensures.ok is)
      c.write_closings.ensures.ok;
}
