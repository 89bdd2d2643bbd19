use Rattle.std.proofs.Common.{◌≡◌, ◌+◌, ◌^◌, ◌<◌, length}
use Rattle.ct_input.specs.Source as source
use Rattle.ct_input.proofs.places.column_after.Given as goal

abbrev pub invariant-loop-rest : goal.invariant-loop-rest
invariant-loop-rest l = (source.column_after l.at l.rest ≡ source.column_after l.fn.column l.fn.bytes) × (l.at + length l.rest < 2 ^ 64)

abbrev pub decreases-loop-rest : goal.decreases-loop-rest
decreases-loop-rest l = length l.rest
