use Rattle.std.proofs.Common.{length}
use Rattle.ct_theory.proofs.telling.forget.Given as goal

abbrev pub decreases-loop-last : goal.decreases-loop-last
decreases-loop-last l = length l.told.items
