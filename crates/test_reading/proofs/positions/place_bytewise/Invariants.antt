use Rattle.std.proofs.Common.{◌≡◌, false}
use Rattle.test_reading.proofs.positions.place_bytewise.Given as goal

abbrev pub invariant-loop-byte : goal.invariant-loop-byte
invariant-loop-byte l = (l.source.unread.ended ≡ false) × (l.source.unread.fed ≡ l.byte-index)
