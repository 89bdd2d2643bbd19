use Rattle.std.proofs.Common.{◌≡◌, ℕ, ◌<◌, slice_get, Some}
use Rattle.ct_card.specs.Departures.{IsLower}
use Rattle.ct_card.proofs.departure.lower_field.Given as goal

abbrev pub invariant-loop-k : goal.invariant-loop-k
invariant-loop-k l = (j t : ℕ) → j < l.k → slice_get l.fields j ≡ Some t → (j ≡ l.skip → ⊥) → IsLower l.several t l.s → ⊥
