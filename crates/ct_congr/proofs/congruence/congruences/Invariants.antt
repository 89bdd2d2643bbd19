use Rattle.std.proofs.Common.{◌≡◌, [], List}
use Rattle.ct_sorts.specs.Declarations.{Declarations}
use Rattle.ct_terms.specs.declared.ids.Lit.{Lit}
use Rattle.ct_congr.specs.Needed.{AreNeeded}
use Rattle.ct_congr.proofs.CongruenceLemmas.{AreKeys, AreListed}
use Rattle.ct_congr.proofs.congruence.congruences.Given as goal

abbrev pub invariant-loop-t : goal.invariant-loop-t
invariant-loop-t l = record {
  keys : AreKeys l.table l.reps l.index;
  listed : l.found.items ≡ [] → AreListed l.table l.reps l.index l.t;
  before : l.found.items ≡ [] → l.initial.found.items ≡ [];
  needed : (d : Declarations) (hyps : List Lit) → AreNeeded d l.table hyps l.reps l.initial.found.items → AreNeeded d l.table hyps l.reps l.found.items;
}
