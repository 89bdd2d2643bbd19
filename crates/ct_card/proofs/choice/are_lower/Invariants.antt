use Rattle.std.proofs.Common.{◌≡◌, ℕ, ◌<◌, slice_get, Some, get_or}
use Rattle.ct_card.proofs.choice.are_lower.Given as goal

abbrev pub invariant-loop-t : goal.invariant-loop-t
invariant-loop-t l = (k t : ℕ) → k < l.t-index → slice_get l.fields k ≡ Some t → get_or l.ranks t 0 < l.bound
