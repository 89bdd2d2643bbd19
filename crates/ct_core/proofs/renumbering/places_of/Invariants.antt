use Rattle.std.proofs.Common.{◌≡◌, ◌<◌, ◌≤◌, ◌+◌, ℕ, suc, false, length, get_or}
use Rattle.ct_core.specs.Sweep.{bit, place_in}
use Rattle.ct_core.proofs.renumbering.places_of.Given as goal

abbrev pub invariant-loop-mark : goal.invariant-loop-mark
invariant-loop-mark l = record {
  long : length l.places.items ≡ l.mark-index;
  small : l.place ≤ l.mark-index;
  last : (n : ℕ) → suc n ≡ l.mark-index → place_in l.places.items n ≡ l.place;
  first : 0 < l.mark-index → place_in l.places.items 0 ≡ bit (get_or l.marks 0 false);
  next : (n : ℕ) → suc n < l.mark-index → place_in l.places.items (suc n) ≡ place_in l.places.items n + bit (get_or l.marks (suc n) false);
}
