use Rattle.std.proofs.Common.{length}
use Rattle.ct_stack.proofs.ValueLemmas.{HaveNodes}
use Rattle.ct_stack.proofs.value.nodes_of.Given as goal

abbrev pub invariant-loop-left : goal.invariant-loop-left
invariant-loop-left l = HaveNodes l.all l.numbers l.left l.nodes.items

abbrev pub decreases-loop-left : goal.decreases-loop-left
decreases-loop-left l = length l.left
