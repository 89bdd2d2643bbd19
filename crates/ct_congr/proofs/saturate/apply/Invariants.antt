use Rattle.std.proofs.Common.{◌≡◌, List, length, vec_len}
use Rattle.ct_sorts.specs.Declarations.{Declarations}
use Rattle.ct_terms.specs.declared.ids.Lit.{Lit}
use Rattle.ct_terms.specs.Terms.{Terms}
use Rattle.ct_rules.specs.declared.equation.Equation.{Equation}
use Rattle.ct_equivalence.specs.Over.{AreGroupingsOf}
use Rattle.ct_congr.specs.History.{IsExtended}
use Rattle.ct_congr.specs.Needed.{AreNeeded}
use Rattle.ct_congr.specs.Sound.{IsSound}
use Rattle.ct_congr.proofs.ApplyLemmas.{IsAdding}
use Rattle.ct_congr.proofs.saturate.apply.Given as goal

abbrev pub invariant-loop-merge : goal.invariant-loop-merge
invariant-loop-merge l = record {
  adding : IsAdding l.initial.store.parts.now.reps l.store.parts.now.reps l.initial.store.merges.items l.store.merges.items l.fn.found.items l.found.items;
  extended : IsExtended l.initial.store.parts l.store.parts l.initial.store.merges.items l.store.merges.items;
  of : (terms : Terms) → AreGroupingsOf terms l.initial.store.parts → AreGroupingsOf terms l.store.parts;
  cons_long : length l.store.parts.now.cons ≡ length l.initial.store.parts.now.cons;
  sound : (d : Declarations) (terms : Terms) (hyps : List Lit) (given : List Equation) → IsSound d terms hyps given l.initial.store.parts.now.reps l.initial.store.parts.now.cons l.initial.store.merges.items → AreNeeded d terms hyps l.initial.store.parts.now.reps l.fn.found.items → IsSound d terms hyps given l.store.parts.now.reps l.store.parts.now.cons l.store.merges.items;
}

abbrev pub decreases-loop-merge : goal.decreases-loop-merge
decreases-loop-merge l = vec_len l.found
