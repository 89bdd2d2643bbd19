use Rattle.std.proofs.Common.{◌≡◌, ℕ, ◌<◌, ◌≤◌, length, Some, slice_get}
use Rattle.ct_sorts.specs.declared.ids.CtorId.{CtorId}
use Rattle.ct_closure.specs.Closed.{most_closure_terms}
use Rattle.ct_closure.specs.ClosedTable.{HasCase}
use Rattle.ct_closure.specs.Steps.{IsStep}
use Rattle.ct_closure.proofs.cases.add_cases.Given as goal

abbrev pub invariant-loop-c : goal.invariant-loop-c
invariant-loop-c l = record {
  step : IsStep l.sig l.fn.table l.table;
  few : length l.table ≤ most_closure_terms;
  cases : (k : ℕ) (c : CtorId) → k < l.c-index → slice_get l.ctors k ≡ Some c → HasCase l.sig l.table l.t c;
}
