use Rattle.std.proofs.Common.{◌≡◌, ◌<◌, ℕ, Some, slice_get}
use Rattle.ct_terms.specs.declared.ids.TermId.{TermId}
use Rattle.ct_rules.specs.Uniqueness.{AreMatched}
use Rattle.ct_congr.specs.State.{AreEqual}
use Rattle.ct_unique.specs.Found.{IsMore}
use Rattle.ct_unique.specs.Reached.{IsPairAmong}
use Rattle.ct_unique.proofs.following.follow_arguments.Given as goal

abbrev pub invariant-loop-place : goal.invariant-loop-place
invariant-loop-place l = record {
  more : IsMore l.classes l.partition (IsPairAmong l.classes l.xs l.ys) l.initial.found.places l.initial.found.pairs.items l.found.places l.found.pairs.items;
  matched : (k : ℕ) (x y : TermId) → k < l.place → slice_get l.xs k ≡ Some x → slice_get l.ys k ≡ Some y → AreMatched (AreEqual l.classes) l.found.pairs.items x y;
}
