use Rattle.std.proofs.Common.{◌≡◌, ◌≢◌, ◌-◌, ◌+◌, ℕ, List}
use Rattle.ct_io.specs.declared.desk.Slot.{Slot}
use Rattle.ct_input.specs.Slot.{most_bytes}
use Rattle.ct_input.proofs.SlotLemmas.{IsFedSoFar}
use Rattle.ct_input.proofs.slot.feed_slot.Given as goal

abbrev pub invariant-loop-count : goal.invariant-loop-count
invariant-loop-count g l = record {
  so_far : IsFedSoFar (g.D.Desk.left l.initial.desk l.slot) l.total l.reader (g.D.Desk.left l.desk l.slot);
  other : (s : Slot) → s ≢ l.slot → g.D.Desk.left l.desk s ≡ g.D.Desk.left l.initial.desk s;
  names : (n : List ℕ) → g.D.Desk.held l.desk n ≡ g.D.Desk.held l.initial.desk n;
  same : g.D.Desk.faults l.desk ≡ g.D.Desk.faults l.initial.desk;
}

abbrev pub decreases-loop-count : goal.decreases-loop-count
decreases-loop-count g l = most_bytes + 1 - l.total
