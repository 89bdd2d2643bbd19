use Rattle.std.proofs.Common.{◌≡◌, List}
use Rattle.ct_terms.specs.declared.ids.Lit.{Lit}
use Rattle.ct_rules.specs.declared.equation.Equation.{Equation}
use Rattle.ct_congr.specs.Sound.{roots, IsSound}
use Rattle.ct_congr.specs.Joined.{AreJoined, AreWaiting}
use Rattle.ct_congr.specs.Covered.{IsCovered}
use Rattle.ct_congr.specs.History.{IsFurther}
use Rattle.ct_congr.proofs.running.run.Given as goal

abbrev pub invariant-loop-merge : goal.invariant-loop-merge
invariant-loop-merge l = record {
  flag : l.progress.covered ≡ l.initial.progress.covered;
  further : IsFurther l.table l.initial.progress.store.parts l.progress.store.parts l.initial.progress.store.merges.items l.progress.store.merges.items l.initial.progress.keys l.progress.keys;
  sound : (hyps : List Lit) (given : List Equation) → IsSound l.sig l.table hyps given l.initial.progress.store.parts.now.reps l.initial.progress.store.parts.now.cons l.initial.progress.store.merges.items → IsSound l.sig l.table hyps given l.progress.store.parts.now.reps l.progress.store.parts.now.cons l.progress.store.merges.items;
  waits : AreWaiting l.sig l.table l.progress.store.parts.now.reps l.progress.waiting.items;
  covered : IsCovered l.sig l.table l.initial.progress.store.parts.now.reps l.initial.progress.store.parts.now.cons l.initial.progress.keys (AreJoined l.initial.progress.store.parts.now.reps l.initial.progress.waiting.items) → IsCovered l.sig l.table l.progress.store.parts.now.reps l.progress.store.parts.now.cons l.progress.keys (AreJoined l.progress.store.parts.now.reps l.progress.waiting.items);
}

abbrev pub decreases-loop-merge : goal.decreases-loop-merge
decreases-loop-merge l = roots l.progress.store.parts.now.reps
