use Rattle.std.proofs.Common.{List, ◌<◌, length, subst, sym}
use Rattle.std.proofs.lemmas.Result.{on_ok_weaker}
use Rattle.ct_values.specs.declared.node.NodeId.{NodeId}
use Rattle.ct_values.specs.declared.postorder.Visit.{Visit}
use Rattle.ct_values.specs.declared.postorder.Visit.TheVariants.{Turn}
use Rattle.ct_values.specs.Postorder.{IsStep, visited}
use Rattle.ct_values.proofs.PostorderLemmas.{step-meet, step-turn}
use Rattle.ct_values.proofs.postorder.step.Goals as goal

pub returns-in-Meet : goal.returns-in-Meet
returns-in-Meet c =
    let order = c.args.order.now.items in
    record {
      step = on_ok_weaker c.meet.result (λ meeting.
          subst (λ (visit : Visit). IsStep c.args.graph.now visit c.args.met.now.items c.meet.new.met.items order order c.args.stack.now.items c.meet.new.stack.items) (sym c.in-Meet.is)
          (step-meet c.args.graph.now c.in-Meet.n c.args.met.now.items c.meet.new.met.items order c.args.stack.now.items c.meet.new.stack.items meeting)) c.meet.ensures.meeting;
    }

pub returns-in_ok-push-in-Turn : goal.returns-in_ok-push-in-Turn
returns-in_ok-push-in-Turn c =
    let g = c.args.graph.now in
    let met = c.args.met.now.items in
    let order = c.args.order.now.items in
    let stack = c.args.stack.now.items in
    let below = subst (λ (visit : Visit). (visited visit).0 < length g) c.in-Turn.is c.requires.within in
    record {
      step = subst (λ (visit : Visit). IsStep g visit met met order c.push.new.self.items stack stack) (sym c.in-Turn.is)
          (subst (λ (new : List NodeId). IsStep g (Turn c.in-Turn.n) met met order new stack stack) (sym c.in_ok-push-in-Turn.ensures.items) (step-turn g c.in-Turn.n met order stack below));
    }
