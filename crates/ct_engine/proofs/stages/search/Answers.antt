use Rattle.std.proofs.Common.{◌∙◌}
use Rattle.ct_lemmas.proofs.Options.{OnOk-map}
use Rattle.ct_engine.proofs.TaskLemmas.{IsOfOneClosure-task, IsOfOneClosure-then}
use Rattle.ct_engine.proofs.KeepingLemmas.{HasFirst-then, AddsFirst-then}
use Rattle.ct_engine.proofs.stages.search.Goals as goal

pub go_on-requires-clause-recorded : goal.go_on-requires-clause-recorded
go_on-requires-clause-recorded c = c.in_ok-first.ensures.same.recorded ∙ c.requires.recorded

pub go_on-requires-clause-stand : goal.go_on-requires-clause-stand
go_on-requires-clause-stand c =
    HasFirst-then c.args.course.now c.run.new.course (IsOfOneClosure-task c.args.course.now c.run.new.course c.in_ok-first.ensures.same) c.requires.stand

pub returns-clause-same : goal.returns-clause-same
returns-clause-same c =
    IsOfOneClosure-then c.args.course.now c.run.new.course c.go_on.new.course (IsOfOneClosure-task c.args.course.now c.run.new.course c.in_ok-first.ensures.same) c.in_ok-ending.ensures.same

pub returns-clause-adds : goal.returns-clause-adds
returns-clause-adds c = λ adds. c.in_ok-ending.ensures.adds (AddsFirst-then c.args.course.now c.run.new.course c.in_ok-first.ensures.same c.requires.recorded adds)
