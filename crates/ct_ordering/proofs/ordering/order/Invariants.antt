use Rattle.ct_ordering.specs.Graph.{graph}
use Rattle.ct_ordering.proofs.OrderLemmas.{AreMet}
use Rattle.ct_ordering.proofs.ordering.order.Given as goal

abbrev pub invariant-loop-point : goal.invariant-loop-point
invariant-loop-point l = AreMet (graph l.starts l.kids) l.search.colours.items l.search.order.items l.point
