use Rattle.ct_values.proofs.PostorderLemmas.{AreWalked}
use Rattle.ct_values.proofs.postorder.postorder.Given as goal

abbrev pub invariant-loop-n : goal.invariant-loop-n
invariant-loop-n l = AreWalked l.graph l.n l.met.items l.order.items
