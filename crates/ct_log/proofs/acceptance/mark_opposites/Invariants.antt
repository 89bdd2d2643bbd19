use Rattle.std.proofs.Common.{◌≡◌, [], length, take}
use Rattle.ct_terms.specs.Clause.{opposites}
use Rattle.ct_log.specs.Marks.{AreMarked}
use Rattle.ct_log.proofs.acceptance.mark_opposites.Given as goal

abbrev pub invariant-loop-l : goal.invariant-loop-l
invariant-loop-l l = record {
  marked : AreMarked l.marks (opposites (take l.l-index l.clause));
  stamps : length l.marks.stamps ≡ length l.fn.marks.stamps;
  others : l.marks.others ≡ [];
  room : l.marks.room ≡ l.fn.marks.room;
}
