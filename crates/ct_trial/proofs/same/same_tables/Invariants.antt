use Rattle.std.proofs.Common.{◌≡◌, ◌≤◌, ◌-◌, length, take}
use Rattle.ct_trial.proofs.same.same_tables.Given as goal

abbrev pub invariant-loop-alloc : goal.invariant-loop-alloc
invariant-loop-alloc l = record {
  begun : l.same.items ≡ take (length l.same.items) l.wanted;
  within : length l.same.items ≤ length l.wanted;
}

abbrev pub decreases-loop-alloc : goal.decreases-loop-alloc
decreases-loop-alloc l = length l.wanted - length l.same.items
