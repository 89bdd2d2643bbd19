use Rattle.std.proofs.Common.{◌≡◌, ◌++◌, length}
use Rattle.ct_formulas.specs.Pairs.{pairs}
use Rattle.ct_operators.specs.Pairing.{both}
use Rattle.ct_operators.proofs.chains.pairs_of.Given as goal

abbrev pub invariant-loop-rest : goal.invariant-loop-rest
invariant-loop-rest l = l.found.items ++ pairs both l.rest ≡ pairs both l.args

abbrev pub decreases-loop-rest : goal.decreases-loop-rest
decreases-loop-rest l = length l.rest
