use Rattle.std.proofs.Common.{◌≤◌, length, take}
use Rattle.std.specs.List.{AllZip}
use Rattle.ct_closure.specs.Closed.{most_closure_terms}
use Rattle.ct_closure.specs.ClosedTable.{IsFieldTerm}
use Rattle.ct_closure.specs.Steps.{IsStep}
use Rattle.ct_closure.proofs.cases.add_fields.Given as goal

abbrev pub invariant-loop-s : goal.invariant-loop-s
invariant-loop-s l = record {
  step : IsStep l.sig l.fn.table l.table;
  few : length l.table ≤ most_closure_terms;
  fields : AllZip (IsFieldTerm l.table l.t) (take l.s-index l.sels) l.args;
}
