use Rattle.std.proofs.Common.{true, false, arith}
use Rattle.std.proofs.lemmas.Result.{on_ok_weaker}
use Rattle.ct_values.proofs.PostorderLemmas.{read-is, meeting-met, meeting-pushed}
use Rattle.ct_values.proofs.postorder.meet.Goals as goal

pub returns-then-index : goal.returns-then-index
returns-then-index c = record {
  meeting = meeting-met c.args.graph.now c.args.n c.args.met.now.items c.args.stack.now.items
      (read-is c.args.met.now.items c.args.n.0 c.index.result.now true (omega (arith, c.requires.within, c.requires.long)) c.index.ensures c.if-index.true);
}

pub returns : goal.returns
returns c = record {
  meeting = on_ok_weaker c.push_unmet.result (λ added. meeting-pushed c.args.graph.now c.args.n c.args.met.now.items c.deref.result.now c.args.stack.now.items c.push.new.self.items c.push_unmet.new.stack.items c.children.result.now
      c.children.ensures.value
      (read-is c.args.met.now.items c.args.n.0 c.index.result.now false (omega (arith, c.requires.within, c.requires.long)) c.index.ensures c.if-index.false)
      c.requires.long c.deref.ensures.value c.in_ok-push.ensures.items added) c.push_unmet.ensures.added;
}
