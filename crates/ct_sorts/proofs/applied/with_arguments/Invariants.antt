use Rattle.ct_sorts.proofs.AppliedLemmas.{IsUnderWay}
use Rattle.ct_sorts.proofs.applied.with_arguments.Given as goal

abbrev pub invariant-loop-arg : goal.invariant-loop-arg
invariant-loop-arg l = IsUnderWay l.fn.table l.table l.fn.g.0 l.args l.id l.arg-index
