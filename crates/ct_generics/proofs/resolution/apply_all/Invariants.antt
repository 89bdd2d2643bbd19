use Rattle.std.proofs.Common.{◌<◌, List, length, take}
use Rattle.ct_generics.specs.Expression.{Expression, named, with_args}
use Rattle.ct_generics.specs.Nodes.{Stands, Stay, StandFor}
use Rattle.ct_generics.proofs.resolution.apply_all.Given as goal

abbrev pub invariant-loop-arg : goal.invariant-loop-arg
invariant-loop-arg l =
    record {
      stay : Stay l.fn.table l.table;
      within : l.whole.0 < length l.table;
      stands : (es : List Expression) → StandFor l.fn.table l.args es → Stands l.table l.whole.0 (with_args (named l.fn.h.0) (take l.arg-index es));
    }
