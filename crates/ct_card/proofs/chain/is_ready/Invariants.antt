use Rattle.std.proofs.Common.{◌≡◌, ℕ, ◌<◌, slice_get, Some}
use Rattle.ct_card.specs.Rules.{IsDerived}
use Rattle.ct_card.proofs.chain.is_ready.Given as goal

abbrev pub invariant-loop-b : goal.invariant-loop-b
invariant-loop-b l = (i n : ℕ) → i < l.b-index → slice_get l.rule.body.items i ≡ Some n → IsDerived l.ranks n
