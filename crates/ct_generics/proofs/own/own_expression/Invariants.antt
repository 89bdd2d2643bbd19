use Rattle.std.proofs.Common.{◌<◌, length}
use Rattle.ct_generics.specs.Expression.{at_own_parameters}
use Rattle.ct_generics.specs.Nodes.{Stands, Stay}
use Rattle.ct_generics.proofs.own.own_expression.Given as goal

abbrev pub invariant-loop-i : goal.invariant-loop-i
invariant-loop-i l =
    record {
      stay : Stay l.fn.table l.table;
      within : l.whole.0 < length l.table;
      stands : Stands l.table l.whole.0 (at_own_parameters l.fn.h.0 l.i);
    }
