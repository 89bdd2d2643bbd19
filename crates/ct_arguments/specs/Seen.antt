-- A task of the program, as what the arguments ask for.
use Rattle.ct_arguments.specs.declared.task.Task.{Task}
use Rattle.ct_arguments.specs.declared.task.Task.TheVariants as task
use Rattle.ct_arguments.specs.Arguments.{Asked, solves, audits, audits_model, generates, helps, versions, faulty}

abbrev pub task_seen : Task → Asked
task_seen (task.Solve strict script) = solves strict script.now
task_seen (task.Audit proof script) = audits proof.now script.now
task_seen (task.AuditModel model number script) = audits_model model.now number script.now
task_seen (task.Generate count) = generates count
task_seen task.Help = helps
task_seen task.Version = versions
task_seen task.Faulty = faulty
