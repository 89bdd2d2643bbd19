use Rattle.std.proofs.Common.{length, ◌-◌}
use Rattle.ct_log.proofs.places.Places.is_met.Given as goal

abbrev pub decreases-loop-self : goal.decreases-loop-self
decreases-loop-self l = length l.asserts - l.self.met
