use Rattle.std.proofs.Common.{◌≡◌, length}
use Rattle.ct_value_text.specs.ValueText.{without_bars}
use Rattle.ct_readback.specs.Words.{after}
use Rattle.ct_readback.proofs.heads.after_bare.Given as goal

abbrev pub invariant-loop-left : goal.invariant-loop-left
invariant-loop-left l = after (without_bars l.left) l.rest ≡ after (without_bars l.text) l.bytes

abbrev pub decreases-loop-left : goal.decreases-loop-left
decreases-loop-left l = length l.left
