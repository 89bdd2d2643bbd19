use Rattle.std.proofs.Common.{subst}
use Rattle.ct_generics.specs.declared.tasks.Task.{Task}
use Rattle.ct_generics.specs.Tasks.{IsTask}
use Rattle.ct_generics.proofs.NodeLemmas.{Stands-within}
use Rattle.ct_generics.proofs.tasks.begin.Goals as goal

pub begin_arguments-requires : goal.begin_arguments-requires
begin_arguments-requires c =
    let table = c.args.table.now in
    let is = subst (λ (t : Task). IsTask table t c.requires.task.0) c.in-Arguments.is c.requires.task.1 in
    record { within = Stands-within table c.in-Arguments.id.0 is.0 is.2 }
