use Rattle.std.proofs.Common.{[], Option, subst}
use Rattle.ct_generics.specs.declared.nodes.ExprId.{ExprId}
use Rattle.ct_generics.specs.Tasks.{IsBegun}
use Rattle.ct_generics.proofs.TaskLemmas.{AreTasks-pop, went-on, went-on-made, went-on-nothing}
use Rattle.ct_generics.proofs.tasks.next_made.Goals as goal

pub returns-in-Some-2-clause-next : goal.returns-in-Some-2-clause-next
returns-in-Some-2-clause-next c heads sorts todo stand are =
    let table = c.args.table.now in
    let left = c.pop.new.tasks.items in
    let before = c.loop-task.invariant.same heads sorts todo stand are in
    let popped = AreTasks-pop table c.loop-task.tasks.items left c.in-Some.task before.later c.in-Some.ensures.popped before.tasks in
    let begun = subst (λ (next : Option ExprId). IsBegun table c.args.sorts.now c.in-Some.task left next c.begin.new.tasks.items) c.in-Some-2.is c.in_ok-id.ensures.begun in
    went-on-made heads table sorts todo before.later _ c.in-Some-2.id c.begin.new.tasks.items popped.all before.same (begun heads sorts popped.first popped.rest stand popped.top popped.under)

pub loop-task-preserved : goal.loop-task-preserved
loop-task-preserved c =
    let table = c.args.table.now in
    let left = c.pop.new.tasks.items in
    let begun = subst (λ (next : Option ExprId). IsBegun table c.args.sorts.now c.in-Some.task left next c.begin.new.tasks.items) c.in_default-2.is c.in_ok-id.ensures.begun in
    record {
      tasks =
          let popped = AreTasks-pop table c.loop-task.tasks.items left c.in-Some.task c.loop-task.invariant.tasks.0 c.in-Some.ensures.popped c.loop-task.invariant.tasks.1 in
          let gone = begun [] c.requires.sorts.0 popped.first popped.rest c.requires.sorts.1 popped.top popped.under in
          (gone.later, gone.tasks);
      same = λ heads sorts todo stand are.
          let before = c.loop-task.invariant.same heads sorts todo stand are in
          let popped = AreTasks-pop table c.loop-task.tasks.items left c.in-Some.task before.later c.in-Some.ensures.popped before.tasks in
          went-on heads table sorts todo before.later _ c.begin.new.tasks.items popped.all before.same (begun heads sorts popped.first popped.rest stand popped.top popped.under);
    }

pub returns-clause-next : goal.returns-clause-next
returns-clause-next c heads sorts todo stand are =
    went-on-nothing heads c.args.table.now sorts todo c.loop-task.tasks.items c.in_default.ensures.popped (c.loop-task.invariant.same heads sorts todo stand are)
