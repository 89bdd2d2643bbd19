use Rattle.std.proofs.Common.{◌≡◌, length}
use Rattle.ct_terms.specs.Args.{digest_from}
use Rattle.ct_terms.proofs.args.digest_from.Given as goal

abbrev pub decreases-loop-rest : goal.decreases-loop-rest
decreases-loop-rest l = length l.rest

abbrev pub invariant-loop-rest : goal.invariant-loop-rest
invariant-loop-rest l = digest_from l.digest l.terms ≡ digest_from l.sum l.rest
