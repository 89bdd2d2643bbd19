use Rattle.std.proofs.Common.{◌≡◌, ℕ, suc, ◌-◌, length}
use Rattle.ct_core.specs.Cited.{IsCited}
use Rattle.ct_core.specs.Sweep.{IsMarked, IsFirst, MarksFrom}
use Rattle.ct_core.proofs.sweep.cited_marks.Given as goal

abbrev pub invariant-loop-i : goal.invariant-loop-i
invariant-loop-i l = record {
  long : length l.marks.items ≡ suc (length l.lines);
  first : (n : ℕ) → IsFirst l.kept (length l.lines) n → IsMarked l.marks.items n;
  positive : IsMarked l.marks.items 0 → ⊥;
  from : MarksFrom (length l.lines - l.i) l.lines l.marks.items;
  only : (n : ℕ) → IsMarked l.marks.items n → IsCited l.kept l.lines n;
}
