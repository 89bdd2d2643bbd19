use Rattle.std.proofs.Common.{◌≡◌, ℕ, ◌<◌, slice_get, Some}
use Rattle.ct_card.specs.Rules.{IsDerived}
use Rattle.ct_card.proofs.layers.first_large.Given as goal

abbrev pub invariant-loop-place : goal.invariant-loop-place
invariant-loop-place l = (k t : ℕ) → k < l.place → slice_get l.fields k ≡ Some t → IsDerived l.small t
