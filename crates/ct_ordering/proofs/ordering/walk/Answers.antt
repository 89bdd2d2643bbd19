use Rattle.ct_ordering.specs.Graph.{graph}
use Rattle.ct_ordering.proofs.StepLemmas.{walk-start}
use Rattle.ct_ordering.proofs.ordering.walk.Goals as goal

pub loop-top-init : goal.loop-top-init
loop-top-init c = walk-start (graph c.args.starts.now c.args.kids.now) c.args.from c.args.search.now.colours.items c.enter.new.search.colours.items c.args.search.now.order.items c.enter.new.search.order.items c.new-stack.result.items c.enter.new.stack.items
    c.requires.white c.requires.under_way c.new-stack.ensures.items c.in_ok-enter.ensures.colours c.in_ok-enter.ensures.order c.in_ok-enter.ensures.stack
