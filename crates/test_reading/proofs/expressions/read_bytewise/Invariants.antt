use Rattle.std.proofs.Common.{◌≡◌, false}
use Rattle.test_reading.proofs.expressions.read_bytewise.Given as goal

abbrev pub invariant-loop-byte : goal.invariant-loop-byte
invariant-loop-byte l = (l.reader.ended ≡ false) × (l.reader.fed ≡ l.byte-index)
