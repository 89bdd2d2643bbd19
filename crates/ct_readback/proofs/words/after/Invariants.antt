use Rattle.std.proofs.Common.{◌≡◌, length}
use Rattle.ct_readback.specs.Words.{after}
use Rattle.ct_readback.proofs.words.after.Given as goal

abbrev pub invariant-loop-left : goal.invariant-loop-left
invariant-loop-left l = after l.left l.rest ≡ after l.prefix l.bytes

abbrev pub decreases-loop-left : goal.decreases-loop-left
decreases-loop-left l = length l.left
