use Rattle.std.proofs.Common.{◌≤◌, ◌-◌, length, take, All}
use Rattle.ct_trial.specs.LastModel.{AppliesBelow}
use Rattle.ct_trial.proofs.stored.count_below.Given as goal

abbrev pub invariant-loop-count : goal.invariant-loop-count
invariant-loop-count l = record {
  within : l.count ≤ length l.terms;
  below : All (AppliesBelow l.funs) (take l.count l.terms);
}

abbrev pub decreases-loop-count : goal.decreases-loop-count
decreases-loop-count l = length l.terms - l.count
