use Rattle.std.proofs.Common.{◌≡◌, ℕ, ◌<◌, List, length, slice_get, Some}
use Rattle.ct_terms.specs.declared.ids.Lit.{Lit}
use Rattle.ct_rules.specs.declared.equation.Equation.{Equation}
use Rattle.ct_rules.specs.Rules.{truth_term}
use Rattle.ct_congr.specs.Partition.{InOneClass}
use Rattle.ct_congr.specs.Sound.{IsSound}
use Rattle.ct_congr.specs.Kept.{IsKept}
use Rattle.ct_congr.proofs.holding.assume.Given as goal

abbrev pub invariant-loop-l : goal.invariant-loop-l
invariant-loop-l l = record {
  kept : IsKept l.sig l.table l.progress.store.parts l.progress.keys l.progress.waiting.items l.progress.covered;
  sound : (given : List Equation) → IsSound l.sig l.table l.hyps given l.initial.progress.store.parts.now.reps l.initial.progress.store.parts.now.cons l.initial.progress.store.merges.items → IsSound l.sig l.table l.hyps given l.progress.store.parts.now.reps l.progress.store.parts.now.cons l.progress.store.merges.items;
  long : length l.initial.progress.store.parts.past ≡ length l.initial.progress.store.merges.items → length l.progress.store.parts.past ≡ length l.progress.store.merges.items;
  states : (k : ℕ) (h : Lit) → k < l.l-index → slice_get l.hyps k ≡ Some h → InOneClass l.progress.store.parts.now.reps h.term (truth_term h.positive);
}
