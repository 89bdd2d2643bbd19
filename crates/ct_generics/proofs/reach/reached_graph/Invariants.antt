use Rattle.std.proofs.Common.{◌+◌, ◌-◌, ◌≤◌, List, length}
use Rattle.ct_generics.specs.Expression.{Expression}
use Rattle.ct_generics.specs.Declarations.{Head}
use Rattle.ct_generics.specs.Nodes.{StandFor, Stay}
use Rattle.ct_generics.specs.Stored.{AreStored}
use Rattle.ct_generics.specs.Reach.{most_reached}
use Rattle.ct_generics.specs.Reached.{IsReached}
use Rattle.ct_generics.proofs.reach.reached_graph.Given as goal

abbrev pub invariant-loop-alloc : goal.invariant-loop-alloc
invariant-loop-alloc l =
    record {
      stay : Stay l.fn.table l.table;
      few : length l.graph.items ≤ most_reached;
      within : length l.graph.items ≤ length l.ids;
      whole : (hs : List Head) (es : List Expression) → AreStored l.fn.heads hs → StandFor l.fn.table l.fn.roots es → IsReached hs l.table l.ids l.graph.items l.starts.items es;
    }

abbrev pub decreases-loop-alloc : goal.decreases-loop-alloc
decreases-loop-alloc l = most_reached + 1 - length l.graph.items
