use Rattle.ct_sat.proofs.VariableLemmas.{AreVariablesBelow}
use Rattle.ct_sat.proofs.search.variables_of.Given as goal

abbrev pub invariant-loop-number : goal.invariant-loop-number
invariant-loop-number l = AreVariablesBelow l.table l.number l.variables.items
