use Rattle.std.proofs.Common.{◌≡◌, ◌++◌, length}
use Rattle.ct_formulas.specs.Pairs.{neighbours_from}
use Rattle.ct_operators.specs.Pairing.{both}
use Rattle.ct_operators.proofs.chains.neighbours_of.Given as goal

abbrev pub invariant-loop-rest : goal.invariant-loop-rest
invariant-loop-rest l = l.found.items ++ neighbours_from both l.left l.rest ≡ neighbours_from both l.initial.left l.others

abbrev pub decreases-loop-rest : goal.decreases-loop-rest
decreases-loop-rest l = length l.rest
