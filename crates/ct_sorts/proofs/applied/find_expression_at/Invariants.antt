use Rattle.std.proofs.Common.{take}
use Rattle.ct_generics.specs.Denoted.{sorts_of}
use Rattle.ct_sorts.proofs.AppliedLemmas.{StandsAt}
use Rattle.ct_sorts.proofs.applied.find_expression_at.Given as goal

abbrev pub invariant-loop-arg : goal.invariant-loop-arg
invariant-loop-arg l = StandsAt (sorts_of l.table) l.table.expressions l.fn.g.0 (take l.arg-index l.args) l.id
