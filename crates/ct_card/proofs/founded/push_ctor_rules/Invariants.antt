use Rattle.std.proofs.Common.{◌≡◌, ℕ, ◌+◌, length, slice_get, Some}
use Rattle.ct_sorts.specs.Grown.{Begins}
use Rattle.ct_sorts.specs.declared.ids.CtorId.{CtorId}
use Rattle.ct_card.specs.declared.chain.Rule.{Rule}
use Rattle.ct_card.specs.Founding.{IsCtorRule}
use Rattle.ct_card.proofs.founded.push_ctor_rules.Given as goal

abbrev pub invariant-loop-i : goal.invariant-loop-i
invariant-loop-i l = record {
  grown : Begins l.fn.rules.items l.rules.items;
  long : length l.rules.items ≡ length l.fn.rules.items + l.i;
  each : (i : ℕ) (rule : Rule) → slice_get l.rules.items (length l.fn.rules.items + i) ≡ Some rule → (item : CtorId) × (slice_get l.own i ≡ Some item) × IsCtorRule l.sig l.s.0 item rule;
}
