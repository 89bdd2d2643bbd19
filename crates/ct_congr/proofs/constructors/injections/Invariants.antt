use Rattle.std.proofs.Common.{◌≡◌, ◌<◌, [], List}
use Rattle.ct_terms.specs.declared.ids.TermId.{TermId}
use Rattle.ct_terms.specs.declared.ids.Lit.{Lit}
use Rattle.ct_congr.specs.Needed.{AreNeeded}
use Rattle.ct_congr.specs.Index.{IsInjectedAt}
use Rattle.ct_congr.proofs.constructors.injections.Given as goal

abbrev pub invariant-loop-t : goal.invariant-loop-t
invariant-loop-t l = record {
  all : l.found.items ≡ [] → (t : TermId) → t.0 < l.t → IsInjectedAt l.table l.reps l.index t;
  before : l.found.items ≡ [] → l.initial.found.items ≡ [];
  needed : (hyps : List Lit) → AreNeeded l.sig l.table hyps l.reps l.initial.found.items → AreNeeded l.sig l.table hyps l.reps l.found.items;
}
