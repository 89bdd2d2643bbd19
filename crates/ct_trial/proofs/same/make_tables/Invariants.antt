use Rattle.std.proofs.Common.{◌≡◌, ◌≤◌, ◌-◌, length, take}
use Rattle.ct_trial.proofs.same.make_tables.Given as goal

abbrev pub invariant-loop-count : goal.invariant-loop-count
invariant-loop-count l = record {
  within : l.count ≤ length l.tables.items;
  long : length l.tables.items ≡ length l.fn.tables.items;
  same : take l.count l.tables.items ≡ take l.count l.wanted;
}

abbrev pub decreases-loop-count : goal.decreases-loop-count
decreases-loop-count l = length l.tables.items - l.count
