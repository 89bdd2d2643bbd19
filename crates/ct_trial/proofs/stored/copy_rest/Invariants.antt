use Rattle.std.proofs.Common.{◌≡◌, ◌≤◌, ◌-◌, length, take}
use Rattle.ct_trial.proofs.stored.copy_rest.Given as goal

abbrev pub invariant-loop-terms : goal.invariant-loop-terms
invariant-loop-terms l = record {
  begun : l.terms.items ≡ take (length l.terms.items) l.table;
  within : length l.terms.items ≤ length l.table;
}

abbrev pub decreases-loop-terms : goal.decreases-loop-terms
decreases-loop-terms l = length l.table - length l.terms.items
