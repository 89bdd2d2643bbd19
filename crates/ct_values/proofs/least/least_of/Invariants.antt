use Rattle.ct_values.proofs.LeastLemmas.{AreLeastUpTo}
use Rattle.ct_values.proofs.least.least_of.Given as goal

abbrev pub invariant-loop-i : goal.invariant-loop-i
invariant-loop-i l = AreLeastUpTo l.numbers l.places.items l.i
