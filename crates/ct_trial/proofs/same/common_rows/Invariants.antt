use Rattle.std.proofs.Common.{◌≡◌, ◌≤◌, ◌-◌, length, take}
use Rattle.ct_trial.proofs.same.common_rows.Given as goal

abbrev pub invariant-loop-count : goal.invariant-loop-count
invariant-loop-count l = record {
  within : l.count ≤ length l.rows;
  there : l.count ≤ length l.others;
  same : take l.count l.rows ≡ take l.count l.others;
}

abbrev pub decreases-loop-count : goal.decreases-loop-count
decreases-loop-count l = length l.rows - l.count
