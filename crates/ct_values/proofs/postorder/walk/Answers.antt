use Rattle.std.proofs.Common.{◌≡◌, [], arith}
use Rattle.std.proofs.lemmas.List.{nil_from_length}
use Rattle.ct_values.proofs.PostorderLemmas.{walk-start, walk-within, walk-step, walk-less, walk-each, walk-from}
use Rattle.ct_values.proofs.postorder.walk.Goals as goal

pub loop-visit-init : goal.loop-visit-init
loop-visit-init c = walk-start c.args.graph.now c.args.from c.args.met.now.items c.args.order.now.items c.new-stack.result.items c.push.new.self.items
    c.requires.within c.requires.long c.requires.order_within c.requires.each c.new-stack.ensures.items c.in_ok-push.ensures.items

pub step-requires : goal.step-requires
step-requires c = record {
  within = walk-within c.args.graph.now c.args.from c.args.met.now.items c.loop-visit.met.items c.loop-visit.order.items c.loop-visit.stack.items c.pop.new.self.items c.in-Some.visit c.in-Some.ensures.items c.loop-visit.invariant;
  long = c.loop-visit.invariant.0;
}

pub loop-visit-preserved : goal.loop-visit-preserved
loop-visit-preserved c = walk-step c.args.graph.now c.args.from c.args.met.now.items c.loop-visit.met.items c.step.new.met.items c.loop-visit.order.items c.step.new.order.items c.loop-visit.stack.items c.pop.new.self.items c.step.new.stack.items c.in-Some.visit
    c.in-Some.ensures.items c.in_ok-step.ensures.step c.loop-visit.invariant

pub loop-visit-smaller : goal.loop-visit-smaller
loop-visit-smaller c = walk-less c.args.graph.now c.loop-visit.met.items c.step.new.met.items c.loop-visit.order.items c.step.new.order.items c.loop-visit.stack.items c.pop.new.self.items c.step.new.stack.items c.in-Some.visit
    c.in-Some.ensures.items c.in_ok-step.ensures.step

pub returns : goal.returns
returns c =
    let left = c.loop-visit.stack.items in
    let none_left : left ≡ [] = nil_from_length left (omega (arith, c.in_default.ensures.cases, c.loop-visit.stack.ok.0)) in
    let g = c.args.graph.now in
    let start = c.args.met.now.items in
    let met = c.loop-visit.met.items in
    let order = c.loop-visit.order.items in
    record {
      long = omega (arith, c.loop-visit.invariant.0, c.requires.long);
      order_within = c.loop-visit.invariant.1.within;
      each = walk-each g c.args.from start met order left none_left c.loop-visit.invariant;
      stay = c.loop-visit.invariant.3;
      from = walk-from g c.args.from start met order left none_left c.loop-visit.invariant;
    }
