use Rattle.std.proofs.Common.{List}
use Rattle.ct_generics.specs.Expression.{Expression}
use Rattle.ct_generics.specs.SortTable.{AreSorts}
use Rattle.test_reading.proofs.adding.add_all.Given as goal

abbrev pub invariant-loop-sort : goal.invariant-loop-sort
invariant-loop-sort l = (before : List Expression) × AreSorts l.table before
