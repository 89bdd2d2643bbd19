use Rattle.std.proofs.Common.{◌≤◌, ◌-◌, length, take, All}
use Rattle.ct_base.specs.Cutting.{IsBelow}
use Rattle.ct_base.proofs.cutting.count_below.Given as goal

abbrev pub invariant-loop-count : goal.invariant-loop-count
invariant-loop-count l = record {
  within : l.count ≤ length l.stages;
  below : All (IsBelow l.mark) (take l.count l.stages);
}

abbrev pub decreases-loop-count : goal.decreases-loop-count
decreases-loop-count l = length l.stages - l.count
