use Rattle.std.proofs.Common.{◌≡◌, map, length}
use Rattle.ct_step.specs.Logics.{first_of}
use Rattle.ct_step.proofs.logics.first_of.Given as goal

abbrev pub invariant-loop-left : goal.invariant-loop-left
invariant-loop-left l = first_of (map (λ word. word.now) l.words) l.bytes ≡ first_of (map (λ word. word.now) l.left) l.bytes

abbrev pub decreases-loop-left : goal.decreases-loop-left
decreases-loop-left l = length l.left
