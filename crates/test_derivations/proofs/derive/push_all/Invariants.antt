use Rattle.std.proofs.Common.{◌≡◌}
use Rattle.test_derivations.proofs.derive.push_all.Given as goal

abbrev pub invariant-loop-line : goal.invariant-loop-line
invariant-loop-line l = (l.derivation.declarations ≡ l.sig) × (l.derivation.sizes ≡ l.sizes)
