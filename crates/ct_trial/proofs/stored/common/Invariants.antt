use Rattle.std.proofs.Common.{◌≡◌, ◌≤◌, ◌-◌, length, take}
use Rattle.ct_trial.proofs.stored.common.Given as goal

abbrev pub invariant-loop-count : goal.invariant-loop-count
invariant-loop-count l = record {
  within : l.count ≤ length l.terms;
  few : l.count ≤ length l.table;
  same : take l.count l.terms ≡ take l.count l.table;
}

abbrev pub decreases-loop-count : goal.decreases-loop-count
decreases-loop-count l = length l.terms - l.count
