use Rattle.std.proofs.Common.{◌≡◌, [], List}
use Rattle.ct_terms.specs.declared.ids.Lit.{Lit}
use Rattle.ct_terms.specs.declared.term.Core.TheVariants.{Con}
use Rattle.ct_terms.specs.Terms.{Terms, Has}
use Rattle.ct_congr.specs.Partition.{InOneClass}
use Rattle.ct_congr.specs.Needed.{AreNeeded}
use Rattle.ct_congr.specs.Index.{ArePairsEqual}
use Rattle.ct_congr.proofs.constructors.inject_arguments.Given as goal

abbrev pub invariant-loop-s : goal.invariant-loop-s
invariant-loop-s l = record {
  pairs : l.found.items ≡ [] → ArePairsEqual l.reps l.s-index l.xs l.ys;
  before : l.found.items ≡ [] → l.initial.found.items ≡ [];
  needed : (terms : Terms) (hyps : List Lit) → InOneClass l.reps l.sides.0 l.sides.1 → Has terms (Con l.fn.c l.xs) l.sides.0.0 → Has terms (Con l.fn.c l.ys) l.sides.1.0 → AreNeeded l.sig terms hyps l.reps l.initial.found.items → AreNeeded l.sig terms hyps l.reps l.found.items;
}
