use Rattle.std.proofs.Common.{◌+◌, length}
use Rattle.ct_values.specs.Postorder.{room}
use Rattle.ct_values.proofs.PostorderLemmas.{IsWalking}
use Rattle.ct_values.proofs.postorder.walk.Given as goal

abbrev pub invariant-loop-visit : goal.invariant-loop-visit
invariant-loop-visit l = IsWalking l.graph l.fn.from l.fn.met.items l.met.items l.order.items l.stack.items

abbrev pub decreases-loop-visit : goal.decreases-loop-visit
decreases-loop-visit l = room l.graph l.met.items + length l.stack.items
