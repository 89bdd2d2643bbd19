use Rattle.std.proofs.Common.{◌≡◌, ℕ, ◌<◌, Some, slice_get}
use Rattle.ct_sat.specs.declared.decided.Decided.{Decided}
use Rattle.ct_sat.proofs.analysis.decisions_before.Given as goal

abbrev pub invariant-loop-d : goal.invariant-loop-d
invariant-loop-d l = record {
  count : l.before ≡ l.d-index;
  before : (j : ℕ) (d : Decided) → slice_get l.decided j ≡ Some d → j < l.d-index → d.index < l.index;
}
