use Rattle.std.proofs.Common.{◌≡◌, [], List, length}
use Rattle.ct_sorts.specs.Declarations.{Declarations}
use Rattle.ct_terms.specs.declared.ids.Lit.{Lit}
use Rattle.ct_congr.specs.Needed.{AreNeeded}
use Rattle.ct_congr.specs.Partition.{InOneClass}
use Rattle.ct_congr.specs.Rules.{AreSingleSorts}
use Rattle.ct_congr.proofs.SingleLemmas.{AreFirsts, AreSingled}
use Rattle.ct_congr.proofs.singles.singles.Given as goal

abbrev pub invariant-loop-t : goal.invariant-loop-t
invariant-loop-t l = record {
  long : length l.firsts.items ≡ length l.single;
  firsts : AreFirsts l.table l.single l.firsts.items;
  singled : l.found.items ≡ [] → AreSingled l.table l.single (InOneClass l.reps) l.firsts.items l.t;
  before : l.found.items ≡ [] → l.initial.found.items ≡ [];
  needed : (d : Declarations) (hyps : List Lit) → AreSingleSorts d l.single → AreNeeded d l.table hyps l.reps l.initial.found.items → AreNeeded d l.table hyps l.reps l.found.items;
}
