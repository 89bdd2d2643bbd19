use Rattle.std.proofs.Common.{◌≡◌, ◌⊎◌, ℕ, All, Contains, length, take}
use Rattle.ct_core.specs.Sweep.{IsMarked}
use Rattle.ct_core.proofs.sweep.mark.Given as goal

abbrev pub invariant-loop-number : goal.invariant-loop-number
invariant-loop-number l = record {
  long : length l.marks.items ≡ length l.initial.marks.items;
  stays : (n : ℕ) → IsMarked l.initial.marks.items n → IsMarked l.marks.items n;
  each : All (IsMarked l.marks.items) (take l.number-index l.numbers);
  only : (n : ℕ) → IsMarked l.marks.items n → IsMarked l.initial.marks.items n ⊎ Contains l.numbers n;
}
