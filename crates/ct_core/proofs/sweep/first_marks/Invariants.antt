use Rattle.std.proofs.Common.{◌≡◌, ◌↔◌, ◌<◌, ℕ, length}
use Rattle.ct_core.specs.Sweep.{IsMarked, IsFirst}
use Rattle.ct_core.proofs.sweep.first_marks.Given as goal

abbrev pub invariant-loop-number : goal.invariant-loop-number
invariant-loop-number l = record {
  long : length l.marks.items ≡ l.number;
  each : (n : ℕ) → n < l.number → IsMarked l.marks.items n ↔ IsFirst l.kept l.count n;
}
