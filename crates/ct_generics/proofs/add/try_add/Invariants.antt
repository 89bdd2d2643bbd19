use Rattle.std.proofs.Common.{◌≡◌, List, ◌++◌}
use Rattle.ct_generics.specs.declared.nodes.ExprId.{ExprId}
use Rattle.ct_generics.specs.Expression.{Expression}
use Rattle.ct_generics.specs.Declarations.{Head}
use Rattle.ct_generics.specs.Nodes.{StandFor, Stay}
use Rattle.ct_generics.specs.Stored.{AreStored}
use Rattle.ct_generics.specs.SortTable.{IsCounted}
use Rattle.ct_generics.proofs.AddingLemmas.{IsUnderWay}
use Rattle.ct_generics.proofs.add.try_add.Given as goal

abbrev pub invariant-loop-tasks : goal.invariant-loop-tasks
invariant-loop-tasks l =
    record {
      under_way : (hs : List Head) (before es : List Expression) → AreStored l.heads hs → StandFor l.initial.table.expressions l.initial.table.sorts before → StandFor l.initial.table.expressions l.fn.roots es → IsUnderWay hs l.fn.room es before l.table.expressions l.table.sorts l.tasks.items l.left;
      begun : (more : List ExprId) × (l.table.sorts ≡ l.initial.table.sorts ++ more);
      stay : Stay l.initial.table.expressions l.table.expressions;
      counted : IsCounted l.heads l.table.expressions l.table.counts;
    }

abbrev pub decreases-loop-tasks : goal.decreases-loop-tasks
decreases-loop-tasks l = l.left.sorts
