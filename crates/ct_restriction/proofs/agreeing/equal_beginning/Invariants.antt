use Rattle.std.proofs.Common.{◌≤◌, ◌-◌, length}
use Rattle.ct_restriction.specs.Renumbered.{AreNumbersOf}
use Rattle.ct_restriction.proofs.agreeing.equal_beginning.Given as goal

abbrev pub invariant-loop-count : goal.invariant-loop-count
invariant-loop-count l = record {
  equal : AreNumbersOf l.from l.to l.numbers l.count;
  few : l.count ≤ length l.from;
  listed : l.count ≤ length l.numbers;
}

abbrev pub decreases-loop-count : goal.decreases-loop-count
decreases-loop-count l = length l.numbers - l.count
