use Rattle.std.proofs.Common.{◌≡◌, true, sym, ◌∙◌}
use Rattle.ct_engine.specs.Progress.{IsOfOneClosure}
use Rattle.ct_engine.proofs.TaskLemmas.{IsOfOneClosure-task, IsOfOneClosure-then}
use Rattle.ct_engine.proofs.TurnLemmas.{IsTheoryOf-then}
use Rattle.ct_engine.proofs.KeepingLemmas.{HasFirst-then, AddsFirst-then}
use Rattle.ct_engine.proofs.stages.record_anew.Goals as goal

pub begin_again-requires : goal.begin_again-requires
begin_again-requires c = record { under_way = rw c.in_ok-dismiss_guide.ensures.only_guide c.requires.under_way }

pub add_first-requires-clause-stand : goal.add_first-requires-clause-stand
add_first-requires-clause-stand c =
    let begun = rw c.in_ok-dismiss_guide.ensures.only_guide at c.in_ok-begin_again.ensures.same in
    HasFirst-then c.args.course.now c.begin_again.new.course (record {
      declarations = begun.declarations;
      terms = begun.terms;
      asserts = begun.asserts;
      variables = begun.variables;
      initial = begun.initial;
      kept = begun.kept;
      lines = begun.lines;
    }) c.requires.stand

pub first_count-first-requires : goal.first_count-first-requires
first_count-first-requires c =
    let begun = rw c.in_ok-dismiss_guide.ensures.only_guide at c.in_ok-begin_again.ensures.same in
    let since : IsOfOneClosure c.args.course.now c.begin_again.new.course = record {
      declarations = begun.declarations;
      terms = begun.terms;
      asserts = begun.asserts;
      variables = begun.variables;
      initial = begun.initial;
      kept = begun.kept;
      lines = begun.lines;
    } in
    record {
      stand = HasFirst-then c.args.course.now c.add_first.new.course
          (IsOfOneClosure-then c.args.course.now c.begin_again.new.course c.add_first.new.course since (IsOfOneClosure-task c.begin_again.new.course c.add_first.new.course c.in_ok-add_first.ensures.same)) c.requires.stand;
    }

pub run-requires-clause-theory : goal.run-requires-clause-theory
run-requires-clause-theory c =
    let begun = rw c.in_ok-dismiss_guide.ensures.only_guide at c.in_ok-begin_again.ensures.same in
    let first = c.in_ok-add_first.ensures.same in
    let added = c.in_ok-add_again.ensures.same in
    let theory = c.requires.theory in
    record {
      declarations = theory.declarations ∙ sym begun.declarations ∙ sym first.declarations ∙ sym added.declarations;
      terms = theory.terms ∙ sym begun.terms ∙ sym first.terms ∙ sym added.terms;
      ready = theory.ready;
    }

pub returns-clause-same : goal.returns-clause-same
returns-clause-same c =
    let begun = rw c.in_ok-dismiss_guide.ensures.only_guide at c.in_ok-begin_again.ensures.same in
    let old = c.args.course.now in
    let first = c.begin_again.new.course in
    let second = c.add_first.new.course in
    let third = c.add_again.new.course in
    let last = c.run.new.course in
    let since : IsOfOneClosure old first = record {
      declarations = begun.declarations;
      terms = begun.terms;
      asserts = begun.asserts;
      variables = begun.variables;
      initial = begun.initial;
      kept = begun.kept;
      lines = begun.lines;
    } in
    IsOfOneClosure-then old first last since
    (IsOfOneClosure-then first second last (IsOfOneClosure-task first second c.in_ok-add_first.ensures.same)
    (IsOfOneClosure-then second third last (IsOfOneClosure-task second third c.in_ok-add_again.ensures.same)
    (IsOfOneClosure-task third last c.in_ok-ending.ensures.same)))

pub returns-clause-on_record : goal.returns-clause-on_record
returns-clause-on_record c =
    let first = c.in_ok-add_first.ensures.same in
    let added = c.in_ok-add_again.ensures.same in
    let ran = c.in_ok-ending.ensures.same in
    (ran.recorded ∙ added.recorded ∙ first.recorded ∙ c.in_ok-begin_again.ensures.recorded, ran.budget ∙ added.budget ∙ first.budget ∙ c.in_ok-begin_again.ensures.budget)

pub returns-clause-adds : goal.returns-clause-adds
returns-clause-adds c =
    let second = c.add_first.new.course in
    let third = c.add_again.new.course in
    let first = c.in_ok-add_first.ensures.same in
    let added = c.in_ok-add_again.ensures.same in
    let recorded : second.recorded ≡ true = first.recorded ∙ c.in_ok-begin_again.ensures.recorded in
    AddsFirst-then third c.run.new.course c.in_ok-ending.ensures.same (added.recorded ∙ recorded)
    (AddsFirst-then second third added recorded c.in_ok-add_first.ensures.adds)
