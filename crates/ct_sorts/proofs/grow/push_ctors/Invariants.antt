use Rattle.std.proofs.Common.{◌≡◌}
use Rattle.ct_sorts.proofs.CtorsLemmas.{ArePushedCtors}
use Rattle.ct_sorts.proofs.grow.push_ctors.Given as goal

abbrev pub invariant-loop-row : goal.invariant-loop-row
invariant-loop-row l = (l.index ≡ l.row-index) × ArePushedCtors l.fn.tables l.tables l.sort l.head.0 l.rows l.row-index
