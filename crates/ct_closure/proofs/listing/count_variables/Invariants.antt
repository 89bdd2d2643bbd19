use Rattle.std.proofs.Common.{◌≡◌, ◌≤◌, take}
use Rattle.ct_closure.specs.Variables.{variable_count}
use Rattle.ct_closure.proofs.listing.count_variables.Given as goal

abbrev pub invariant-loop-n : goal.invariant-loop-n
invariant-loop-n l = record {
  counted : l.count ≡ variable_count (take l.n l.table);
  few : l.count ≤ l.n;
}
