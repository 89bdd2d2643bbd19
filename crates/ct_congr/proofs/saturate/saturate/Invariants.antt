use Rattle.std.proofs.Common.{◌≡◌, [], List, length}
use Rattle.ct_terms.specs.declared.ids.Lit.{Lit}
use Rattle.ct_rules.specs.declared.equation.Equation.{Equation}
use Rattle.ct_equivalence.specs.Over.{AreGroupingsOf}
use Rattle.ct_congr.specs.History.{IsExtended}
use Rattle.ct_congr.specs.Needed.{AreNeeded}
use Rattle.ct_congr.specs.Partition.{InOneClass}
use Rattle.ct_congr.specs.Rules.{AreRulesClosed}
use Rattle.ct_congr.specs.Sound.{roots, IsSound}
use Rattle.ct_congr.specs.Grown.{IsLater}
use Rattle.ct_congr.proofs.saturate.saturate.Given as goal

abbrev pub invariant-loop-alloc : goal.invariant-loop-alloc
invariant-loop-alloc l = record {
  later : IsLater l.initial.store.parts.now.reps l.store.parts.now.reps l.initial.store.merges.items l.store.merges.items;
  extended : IsExtended l.initial.store.parts l.store.parts l.initial.store.merges.items l.store.merges.items;
  of : AreGroupingsOf l.table l.initial.store.parts → AreGroupingsOf l.table l.store.parts;
  cons_long : length l.store.parts.now.cons ≡ length l.initial.store.parts.now.cons;
  sound : (hyps : List Lit) (given : List Equation) → IsSound l.sig l.table hyps given l.initial.store.parts.now.reps l.initial.store.parts.now.cons l.initial.store.merges.items → IsSound l.sig l.table hyps given l.store.parts.now.reps l.store.parts.now.cons l.store.merges.items;
  needed : (hyps : List Lit) → AreNeeded l.sig l.table hyps l.store.parts.now.reps l.found.items;
  closed : l.found.items ≡ [] → AreRulesClosed l.sig l.table (InOneClass l.store.parts.now.reps);
}

abbrev pub decreases-loop-alloc : goal.decreases-loop-alloc
decreases-loop-alloc l = roots l.store.parts.now.reps
