use Rattle.std.proofs.Common.{◌≡◌, ◌+◌, ℕ, length, slice_get, Some}
use Rattle.ct_card.specs.declared.chain.Rule.{Rule}
use Rattle.ct_card.specs.Ruled.{IsSmallRule}
use Rattle.ct_card.proofs.small.small_rules.Given as goal

abbrev pub invariant-loop-s : goal.invariant-loop-s
invariant-loop-s l = record {
  long : l.first + length l.rules.items ≡ l.s;
  each : (k : ℕ) (rule : Rule) → slice_get l.rules.items k ≡ Some rule → IsSmallRule l.sig l.several (l.first + k) rule;
}
