use Rattle.ct_values.proofs.QuotientLemmas.{AreNumberedTo}
use Rattle.ct_values.proofs.minimising.numbered.Given as goal

abbrev pub invariant-loop-index : goal.invariant-loop-index
invariant-loop-index l = AreNumberedTo l.classes l.numbers.items l.index l.count
