use Rattle.std.proofs.Common.{◌≡◌, [], List}
use Rattle.ct_terms.specs.declared.ids.Lit.{Lit}
use Rattle.ct_congr.specs.Needed.{AreNeeded}
use Rattle.ct_congr.specs.Partition.{InOneClass}
use Rattle.ct_congr.specs.Rules.{IsInjective, AreClosedBelow}
use Rattle.ct_congr.proofs.saturate.at_terms.Given as goal

abbrev pub invariant-loop-t : goal.invariant-loop-t
invariant-loop-t l = record {
  closed : l.found.items ≡ [] → IsInjective l.table (InOneClass l.reps) → AreClosedBelow l.sig l.table (InOneClass l.reps) l.t;
  before : l.found.items ≡ [] → l.initial.found.items ≡ [];
  needed : (hyps : List Lit) → AreNeeded l.sig l.table hyps l.reps l.initial.found.items → AreNeeded l.sig l.table hyps l.reps l.found.items;
}
