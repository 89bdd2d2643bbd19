use Rattle.std.proofs.Common.{◌≡◌, length}
use Rattle.ct_sorts.specs.Grown.{Begins}
use Rattle.ct_terms.specs.Terms.{AreSorted}
use Rattle.ct_restriction.specs.Renumbered.{AreMade}
use Rattle.ct_restriction.proofs.renumbering.Renumbering.copying.Given as goal

abbrev pub invariant-loop-t : goal.invariant-loop-t
invariant-loop-t l = record {
  made : AreMade l.initial.to l.from l.marks.items l.to l.made;
  grown : Begins l.initial.to l.to;
  sorted : AreSorted l.sig l.to;
  long : length l.made.numbers ≡ l.t;
}
