use Rattle.std.proofs.Common.{List}
use Rattle.ct_generics.specs.Expression.{Expression}
use Rattle.ct_generics.specs.Declarations.{Head}
use Rattle.ct_generics.specs.Nodes.{StandFor}
use Rattle.ct_generics.specs.Tasks.{Task, AreTasks, IsGoneOn, weight}
use Rattle.ct_generics.proofs.tasks.next_made.Given as goal

abbrev pub invariant-loop-task : goal.invariant-loop-task
invariant-loop-task l =
    record {
      tasks : (todo : List Task) × AreTasks l.table l.tasks.items todo;
      same : (heads : List Head) (sorts : List Expression) (todo : List Task) → StandFor l.table l.sorts sorts → AreTasks l.table l.initial.tasks.items todo → IsGoneOn heads l.table sorts todo l.tasks.items;
    }

abbrev pub decreases-loop-task : goal.decreases-loop-task
decreases-loop-task l = weight l.tasks.items
