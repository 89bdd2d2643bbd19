use Rattle.std.proofs.Common.{◌-◌}
use Rattle.ct_theory.proofs.watched.calls_for_look.Given as goal

abbrev pub decreases-loop-at : goal.decreases-loop-at
decreases-loop-at l = l.at - l.from
