use Rattle.std.proofs.Common.{◌∙◌}
use Rattle.ct_engine.proofs.TaskLemmas.{IsOfOneClosure-task, IsOfOneClosure-then}
use Rattle.ct_engine.proofs.KeepingLemmas.{HasFirst-then, AddsFirst-then}
use Rattle.ct_engine.proofs.solving.explore.Goals as goal

pub search-requires-clause-recorded : goal.search-requires-clause-recorded
search-requires-clause-recorded c = c.in_ok-open_search.ensures.same.recorded ∙ c.requires.recorded

pub search-requires-clause-under_way : goal.search-requires-clause-under_way
search-requires-clause-under_way c = c.in_ok-open_search.ensures.before.under_way

pub search-requires-clause-stand : goal.search-requires-clause-stand
search-requires-clause-stand c =
    HasFirst-then c.args.course.now c.open_search.new.course (IsOfOneClosure-task c.args.course.now c.open_search.new.course c.in_ok-open_search.ensures.same) c.requires.stand

pub returns-clause-same : goal.returns-clause-same
returns-clause-same c =
    IsOfOneClosure-then c.args.course.now c.open_search.new.course c.search.new.course (IsOfOneClosure-task c.args.course.now c.open_search.new.course c.in_ok-open_search.ensures.same) c.in_ok-ending.ensures.same

pub returns-clause-adds : goal.returns-clause-adds
returns-clause-adds c = λ adds. c.in_ok-ending.ensures.adds (AddsFirst-then c.args.course.now c.open_search.new.course c.in_ok-open_search.ensures.same c.requires.recorded adds)
