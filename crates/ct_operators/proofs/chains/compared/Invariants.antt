use Rattle.std.proofs.Common.{length}
use Rattle.ct_sorts.specs.declared.ids.SortId.{SortId}
use Rattle.ct_operators.proofs.ChainLemmas.{Comparing}
use Rattle.ct_operators.proofs.chains.compared.Given as goal

abbrev pub invariant-loop-rest : goal.invariant-loop-rest
invariant-loop-rest l = (side : SortId) × Comparing l.sig l.different l.initial.table l.table side l.pairs l.args l.rest

abbrev pub decreases-loop-rest : goal.decreases-loop-rest
decreases-loop-rest l = length l.rest
