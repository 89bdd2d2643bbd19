use Rattle.std.proofs.Common.{◌≡◌, take}
use Rattle.ct_equivalence.specs.Digests.{shares}
use Rattle.ct_equivalence.proofs.digests.shares.Given as goal

abbrev pub invariant-loop-place : goal.invariant-loop-place
invariant-loop-place l = l.sum ≡ shares l.reps 0 (take l.place l.terms)
