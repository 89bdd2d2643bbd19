use Rattle.std.proofs.Common.{◌≡◌, ◌≤◌, ◌-◌, length, take}
use Rattle.ct_trial.proofs.same.begins.Given as goal

abbrev pub invariant-loop-n : goal.invariant-loop-n
invariant-loop-n l = record {
  within : l.n ≤ length l.graph;
  there : length l.graph ≤ length l.longer;
  same : take l.n l.graph ≡ take l.n l.longer;
}

abbrev pub decreases-loop-n : goal.decreases-loop-n
decreases-loop-n l = length l.graph - l.n
