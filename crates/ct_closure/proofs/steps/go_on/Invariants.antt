use Rattle.std.proofs.Common.{◌≤◌, ◌-◌, length}
use Rattle.ct_closure.specs.Closed.{most_closure_terms}
use Rattle.ct_closure.specs.Steps.{IsStep, IsUnderWay}
use Rattle.ct_closure.proofs.steps.go_on.Given as goal

abbrev pub invariant-loop-alloc : goal.invariant-loop-alloc
invariant-loop-alloc l = record {
  step : IsStep l.sig l.fn.table l.table;
  few : length l.table ≤ most_closure_terms;
  within : length l.marks.items ≤ length l.table;
  under_way : IsUnderWay l.sig l.table l.marks.items;
}

abbrev pub decreases-loop-alloc : goal.decreases-loop-alloc
decreases-loop-alloc l = most_closure_terms - length l.marks.items
