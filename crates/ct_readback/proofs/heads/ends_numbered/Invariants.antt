use Rattle.std.proofs.Common.{◌≡◌, length}
use Rattle.ct_readback.specs.Heads.{ends_numbered}
use Rattle.ct_readback.proofs.heads.ends_numbered.Given as goal

abbrev pub invariant-loop-rest : goal.invariant-loop-rest
invariant-loop-rest l = ends_numbered l.rest ≡ ends_numbered l.name

abbrev pub decreases-loop-rest : goal.decreases-loop-rest
decreases-loop-rest l = length l.rest
