use Rattle.std.proofs.Common.{◌≡◌, ℕ, ◌<◌, ◌≤◌, length, get_or}
use Rattle.ct_log.proofs.marks.restart.Given as goal

abbrev pub invariant-loop-i : goal.invariant-loop-i
invariant-loop-i l = record {
  zero : (k d : ℕ) → k < l.i → get_or l.stamps.items k d ≤ 0;
  long : length l.stamps.items ≡ length l.initial.stamps.items;
}
