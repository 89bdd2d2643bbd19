use Rattle.std.proofs.Common.{◌≡◌, ℕ, ◌<◌, Some, slice_get}
use Rattle.ct_log.specs.declared.rules.Pair.{Pair}
use Rattle.ct_log.specs.Equations.{IsPairBy}
use Rattle.ct_log.proofs.unique.are_pairs.Given as goal

abbrev pub invariant-loop-pair : goal.invariant-loop-pair
invariant-loop-pair l = (index : ℕ) (pair : Pair) → index < l.pair-index → slice_get l.pairs index ≡ Some pair → IsPairBy l.table l.given l.pairs pair
