use Rattle.std.proofs.Common.{◌≡◌, ℕ, ◌<◌, Some, slice_get}
use Rattle.ct_log.specs.declared.line.Line.{Line}
use Rattle.ct_log.specs.Rooms.{IsEnoughFor}
use Rattle.ct_log.proofs.room.longest.Given as goal

abbrev pub invariant-loop-line : goal.invariant-loop-line
invariant-loop-line l = (index : ℕ) (line : Line) → index < l.line-index → slice_get l.lines index ≡ Some line → IsEnoughFor l.most line.step
