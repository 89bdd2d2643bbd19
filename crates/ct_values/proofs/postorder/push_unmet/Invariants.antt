use Rattle.std.proofs.Common.{length}
use Rattle.ct_values.proofs.PostorderLemmas.{IsPushedUpTo}
use Rattle.ct_values.proofs.postorder.push_unmet.Given as goal

abbrev pub invariant-loop-n : goal.invariant-loop-n
invariant-loop-n l = IsPushedUpTo (length l.met) (length l.nodes) l.n-iterator.iter.rest.now l.initial.stack.items l.stack.items
