use Rattle.std.proofs.Common.{refl, sym, subst}
use Rattle.ct_lemmas.proofs.Options.{IfOk-map, OnOk-map}
use Rattle.ct_sat.specs.State.{IsQuiet}
use Rattle.ct_engine.specs.declared.course.Course.{Course}
use Rattle.ct_engine.specs.Progress.{IsUnderWay, IsOfOneTask, IsTheoryOf, IsAsked, IsTurn}
use Rattle.ct_engine.proofs.TaskLemmas.{IsOfOneClosure-task}
use Rattle.ct_engine.proofs.TurnLemmas.{IsTheoryOf-then, IsAsked-cut}
use Rattle.ct_engine.proofs.settle.proceed.Goals as goal

pub returns-then-begin_anew-clause-theory : goal.returns-then-begin_anew-clause-theory
returns-then-begin_anew-clause-theory c =
    IsTheoryOf-then c.args.course.now c.begin_anew.new.course c.args.theory.now (IsOfOneClosure-task c.args.course.now c.begin_anew.new.course c.begin_anew.ensures.same) c.requires.theory

pub returns-then-begin_anew-clause-asked : goal.returns-then-begin_anew-clause-asked
returns-then-begin_anew-clause-asked c =
    IsAsked-cut c.args.course.now c.begin_anew.new.course c.args.theory.now c.args.asked.now c.cut_to.new.self c.trail.result.now c.trail.ensures.value c.begin_anew.ensures.trail c.cut_to.ensures.fewer c.cut_to.ensures.cut c.requires.asked

pub returns-then-begin_anew-clause-turn : goal.returns-then-begin_anew-clause-turn
returns-then-begin_anew-clause-turn c = rw c.if-begin_anew.true at c.begin_anew.ensures.anew

pub choose-requires : goal.choose-requires
choose-requires c =
    let same = rw c.if-begin_anew.false at c.begin_anew.ensures.anew in
    rw same (record { under_way = c.requires.under_way; quiet = c.requires.quiet; theory = c.requires.theory; asked = c.requires.asked })
