use Rattle.std.proofs.Common.{◌≡◌, ◌++◌, length}
use Rattle.ct_scope.specs.Calling.{terms_bound}
use Rattle.ct_scope.proofs.known.terms.Given as goal

abbrev pub invariant-loop-rest : goal.invariant-loop-rest
invariant-loop-rest l = l.args ++ terms_bound l.rest ≡ terms_bound l.bounds

abbrev pub decreases-loop-rest : goal.decreases-loop-rest
decreases-loop-rest l = length l.rest
