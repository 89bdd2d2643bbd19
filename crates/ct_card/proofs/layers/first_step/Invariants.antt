use Rattle.std.proofs.Common.{◌≡◌, ℕ, ◌<◌, slice_get, Some}
use Rattle.ct_sorts.specs.declared.ids.CtorId.{CtorId}
use Rattle.ct_card.specs.Fields.{ctor_fields}
use Rattle.ct_card.specs.Rules.{IsDerived}
use Rattle.ct_card.proofs.layers.first_step.Given as goal

abbrev pub invariant-loop-c : goal.invariant-loop-c
invariant-loop-c l = (index k t : ℕ) (c : CtorId) → index < l.c-index → slice_get l.own index ≡ Some c → slice_get (ctor_fields l.sig c) k ≡ Some t → IsDerived l.small t
