use Rattle.std.proofs.Common.{◌≡◌, ◌+◌, ◌≤◌, ◌↔◌, List, length, drop}
use Rattle.ct_terms.specs.declared.ids.Lit.{Lit}
use Rattle.ct_terms.specs.Propagation.{Propagates}
use Rattle.ct_log.specs.Acceptance.{clauses_of}
use Rattle.ct_log.specs.Marks.{AreMarked}
use Rattle.ct_log.proofs.propagation.propagates.Given as goal

abbrev pub invariant-loop-hint : goal.invariant-loop-hint
invariant-loop-hint l = record {
  settled : (before : List Lit) → AreMarked l.initial.marks before
      → (set : List Lit) × AreMarked l.marks set × ((after : List Lit) → Propagates (clauses_of l.lines) l.hints before after ↔ Propagates (clauses_of l.lines) (drop l.hint-index l.hints) set after);
  few : length l.marks.others ≤ length l.initial.marks.others + l.hint-index;
  stamps : length l.marks.stamps ≡ length l.initial.marks.stamps;
  room : l.marks.room ≡ l.initial.marks.room;
}
