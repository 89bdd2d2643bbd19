use Rattle.ct_ordering.specs.Graph.{graph}
use Rattle.ct_ordering.specs.Search.{IsWalk, steps_left}
use Rattle.ct_ordering.proofs.ordering.walk.Given as goal

abbrev pub invariant-loop-top : goal.invariant-loop-top
invariant-loop-top l = IsWalk (graph l.starts l.kids) l.fn.from l.fn.search.colours.items l.search.colours.items l.search.order.items l.stack.items

abbrev pub decreases-loop-top : goal.decreases-loop-top
decreases-loop-top l = steps_left (graph l.starts l.kids) l.search.colours.items l.stack.items
