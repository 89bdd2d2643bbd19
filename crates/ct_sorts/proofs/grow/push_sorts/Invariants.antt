use Rattle.std.proofs.Common.{◌≡◌}
use Rattle.ct_sorts.proofs.PushSortsLemmas.{ArePushedSorts}
use Rattle.ct_sorts.proofs.grow.push_sorts.Given as goal

abbrev pub invariant-loop-i : goal.invariant-loop-i
invariant-loop-i l = ArePushedSorts l.fn.tables l.tables l.i
