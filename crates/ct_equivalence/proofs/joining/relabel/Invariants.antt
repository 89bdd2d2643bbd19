use Rattle.std.proofs.Common.{◌≡◌, take}
use Rattle.ct_terms.specs.Terms.{Terms}
use Rattle.ct_equivalence.specs.Digests.{AreDigests, ArePlaces}
use Rattle.ct_equivalence.specs.Undoing.{relabelled}
use Rattle.ct_equivalence.proofs.joining.relabel.Given as goal

abbrev pub invariant-loop-t : goal.invariant-loop-t
invariant-loop-t l = record {
  reps : l.reps.items ≡ relabelled l.initial.reps.items (take l.t-index l.terms) l.rep;
  digests : (table : Terms) → ArePlaces table l.places → AreDigests table l.initial.reps.items l.initial.digests.items → AreDigests table l.reps.items l.digests.items;
}
