use Rattle.std.proofs.lemmas.Result.{on_ok_weaker}
use Rattle.ct_model.proofs.BodyLemmas.{test-one, test-many}
use Rattle.ct_model.proofs.body.write_test.Goals as goal

pub returns-then-nodes-eq1 : goal.returns-then-nodes-eq1
returns-then-nodes-eq1 c = record {
  ok = on_ok_weaker c.write_equation.result (λ is. test-one c.args.sig.now c.args.graph.now c.args.nodes.now (record { 0 = 0 }) c.args.out.now.items c.write_equation.new.out.items c.if-nodes-eq1.true is) c.write_equation.ensures.ok;
}

pub returns : goal.returns
returns c =
    let written = c.in_ok-write_equations.ensures.ok in
    record {
      ok = (written.0, written.1, test-many c.args.sig.now c.args.graph.now c.args.nodes.now written.0 c.args.out.now.items c.extend_from_slice.new.self.items c.write_equations.new.out.items c.push.new.self.items c.if-nodes-eq1.false written.1 c.in_ok-extend_from_slice.ensures.items written.2 c.in_ok-push.ensures.items);
    }
