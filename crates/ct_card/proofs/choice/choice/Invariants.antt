use Rattle.std.proofs.Common.{◌≡◌, ℕ, ◌<◌, slice_get, Some}
use Rattle.ct_sorts.specs.declared.ids.CtorId.{CtorId}
use Rattle.ct_card.specs.Founding.{HasLowerFields}
use Rattle.ct_card.proofs.choice.choice.Given as goal

abbrev pub invariant-loop-c : goal.invariant-loop-c
invariant-loop-c l = (k : ℕ) (c : CtorId) → k < l.c-index → slice_get l.ctors k ≡ Some c → HasLowerFields l.sig l.ranks l.s.0 c → ⊥
