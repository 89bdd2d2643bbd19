use Rattle.std.proofs.Common.{◌≡◌, true, sym, subst}
use Rattle.ct_engine.specs.declared.course.Course.{Course}
use Rattle.ct_engine.specs.Progress.{IsUnderWay, IsTaskOf, IsAtStart}
use Rattle.ct_engine.proofs.solving.begun_with.Goals as goal

pub add_kept-requires-clause-declarations : goal.add_kept-requires-clause-declarations
add_kept-requires-clause-declarations c =
    subst (λ (x : Course). x.derivation.declarations ≡ c.args.sig.now) (sym c.deref_mut.ensures.value) c.in_ok-course.ensures.declarations

pub add_kept-requires-clause-under_way : goal.add_kept-requires-clause-under_way
add_kept-requires-clause-under_way c = subst (λ (x : Course). IsUnderWay x) (sym c.deref_mut.ensures.value) c.in_ok-course.ensures.under_way

pub add_kept-requires-clause-recorded : goal.add_kept-requires-clause-recorded
add_kept-requires-clause-recorded c = subst (λ (x : Course). x.recorded ≡ true) (sym c.deref_mut.ensures.value) c.in_ok-course.ensures.recorded

pub add_kept-requires-clause-start : goal.add_kept-requires-clause-start
add_kept-requires-clause-start c = subst (λ (x : Course). IsAtStart c.args.sig.now x) (sym c.deref_mut.ensures.value) c.in_ok-course.ensures.start

pub returns-clause-task : goal.returns-clause-task
returns-clause-task c = λ table asserts same.
    c.in_ok-add_kept.ensures.task table asserts
    (subst (λ (x : Course). IsTaskOf c.args.sig.now table asserts x) (sym c.deref_mut.ensures.value) (c.in_ok-course.ensures.task table asserts same))
