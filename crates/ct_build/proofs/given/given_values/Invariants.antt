use Rattle.std.proofs.Common.{◌≡◌, ◌≤◌, length}
use Rattle.ct_sorts.specs.Grown.{Begins}
use Rattle.ct_build.specs.Chosen.{AreGivenBelow}
use Rattle.ct_build.proofs.given.given_values.Given as goal

abbrev pub invariant-loop-i : goal.invariant-loop-i
invariant-loop-i l = record {
  grown : Begins l.initial.g l.g;
  kept : length l.unbuilt ≤ length l.chosen → l.g ≡ l.initial.g;
  given : AreGivenBelow l.classes l.g l.defaults l.unbuilt l.chosen l.i l.values.items;
}
