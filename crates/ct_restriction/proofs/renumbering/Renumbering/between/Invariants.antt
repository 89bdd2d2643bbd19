use Rattle.std.proofs.Common.{◌≡◌, length}
use Rattle.ct_restriction.specs.Renumbered.{AreFound}
use Rattle.ct_restriction.proofs.renumbering.Renumbering.between.Given as goal

abbrev pub invariant-loop-t : goal.invariant-loop-t
invariant-loop-t l = record {
  found : AreFound l.from l.to l.made;
  long : length l.made.numbers ≡ l.t;
}
