use Rattle.std.proofs.Common.{◌≡◌}
use Rattle.ct_checker.specs.Rejection.{AreAcceptedBelow}
use Rattle.ct_checker.proofs.lines.first_refused.Given as goal

-- the lines so far are accepted, and the room is as it was
abbrev pub invariant-loop-index : goal.invariant-loop-index
invariant-loop-index l = AreAcceptedBelow l.sig l.rec.terms l.asserts l.rec.lines l.index × (l.room ≡ l.initial.room)
