use Rattle.std.proofs.Common.{◌≡◌, true, ◌∙◌, sym, subst}
use Rattle.ct_terms.specs.Terms.{AreSorted}
use Rattle.ct_engine.specs.declared.course.Course.{Course}
use Rattle.ct_engine.specs.Opening.{IsBeforeDecisions}
use Rattle.ct_engine.specs.Progress.{IsTaskOf, IsTheoryOf}
use Rattle.ct_engine.specs.Keeping.{IsCourseWith, AddsFirst, HasFirst}
use Rattle.ct_engine.proofs.OutcomeLemmas.{IsTaskOf-kept}
use Rattle.ct_engine.proofs.KeepingLemmas.{course_goes_on, HasFirst-then}
use Rattle.ct_engine.proofs.solving.find.Goals as goal

pub theory_of-requires-clause-declarations : goal.theory_of-requires-clause-declarations
theory_of-requires-clause-declarations c =
    subst (λ (x : Course). x.derivation.declarations ≡ c.args.sig.now) (sym c.deref.ensures) c.in_ok-course.ensures.before.declarations

pub theory_of-requires-clause-sorted : goal.theory_of-requires-clause-sorted
theory_of-requires-clause-sorted c =
    subst (λ (x : Course). AreSorted c.args.sig.now x.derivation.rec.terms) (sym c.deref.ensures) (c.in_ok-course.ensures.task c.args.table.now c.args.asserts.now c.requires.closed.trees).sorted

pub explore-requires-clause-before : goal.explore-requires-clause-before
explore-requires-clause-before c =
    subst (λ (x : Course). IsBeforeDecisions c.args.sig.now c.args.sizes.now x) (sym c.deref_mut.ensures.value) c.in_ok-course.ensures.before

pub explore-requires-clause-recorded : goal.explore-requires-clause-recorded
explore-requires-clause-recorded c = subst (λ (x : Course). x.recorded ≡ true) (sym c.deref_mut.ensures.value) c.in_ok-course.ensures.recorded

pub explore-requires-clause-theory : goal.explore-requires-clause-theory
explore-requires-clause-theory c =
    subst (λ (x : Course). IsTheoryOf x c.in_ok-theory.theory) (c.deref.ensures ∙ sym c.deref_mut.ensures.value) c.in_ok-theory.ensures.theory

pub explore-requires-clause-stand : goal.explore-requires-clause-stand
explore-requires-clause-stand c = subst (λ (x : Course). HasFirst x) (sym c.deref_mut.ensures.value) c.in_ok-course.ensures.stand

pub conclude-requires-clause-task : goal.conclude-requires-clause-task
conclude-requires-clause-task c =
    IsTaskOf-kept c.args.sig.now c.args.table.now c.args.asserts.now c.deref_mut.result.now c.explore.new.course c.in_ok-ending.ensures.same
    (subst (λ (x : Course). IsTaskOf c.args.sig.now c.args.table.now c.args.asserts.now x) (sym c.deref_mut.ensures.value) (c.in_ok-course.ensures.task c.args.table.now c.args.asserts.now c.requires.closed.trees))

pub conclude-requires-clause-stand : goal.conclude-requires-clause-stand
conclude-requires-clause-stand c =
    HasFirst-then c.deref_mut.result.now c.explore.new.course c.in_ok-ending.ensures.same
    (subst (λ (x : Course). HasFirst x) (sym c.deref_mut.ensures.value) c.in_ok-course.ensures.stand)

pub returns-clause-begun : goal.returns-clause-begun
returns-clause-begun c =
    let d = c.args.sig.now in
    let store = c.args.kept.now in
    let old = c.deref_mut.result.now in
    let new = c.explore.new.course in
    let same = c.in_ok-ending.ensures.same in
    let begun : IsCourseWith d store old = subst (λ (x : Course). IsCourseWith d store x) (sym c.deref_mut.ensures.value) c.in_ok-course.ensures.begun in
    let adds : AddsFirst old = subst (λ (x : Course). AddsFirst x) (sym c.deref_mut.ensures.value) c.in_ok-course.ensures.adds in
    c.in_ok-found.ensures.begun store (course_goes_on d store old new same begun) (c.in_ok-ending.ensures.adds adds)
