use Rattle.std.proofs.Common.{◌≡◌, ◌++◌, length, map}
use Rattle.ct_operators.specs.Pairing.{both}
use Rattle.ct_operators.proofs.chains.add_pairs.Given as goal

abbrev pub invariant-loop-rest : goal.invariant-loop-rest
invariant-loop-rest l = l.found.items ++ map (both l.first) l.rest ≡ l.initial.found.items ++ map (both l.first) l.others

abbrev pub decreases-loop-rest : goal.decreases-loop-rest
decreases-loop-rest l = length l.rest
