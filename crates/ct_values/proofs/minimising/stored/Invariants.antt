use Rattle.ct_values.proofs.QuotientLemmas.{IsStored}
use Rattle.ct_values.proofs.minimising.stored.Given as goal

abbrev pub invariant-loop-index : goal.invariant-loop-index
invariant-loop-index l = IsStored l.numbers l.part l.index l.nodes
