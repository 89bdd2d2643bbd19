use Rattle.std.proofs.Common.{List, sym, ap, subst, ◌∙◌}
use Rattle.ct_terms.specs.declared.ids.TermId.{TermId}
use Rattle.ct_congr.specs.State.{State}
use Rattle.ct_sat.specs.State.{IsQuiet, HaveValues}
use Rattle.ct_theory.specs.Entailment.{IsSaturation}
use Rattle.ct_engine.specs.declared.course.Course.{Course}
use Rattle.ct_engine.specs.Saturated.{AreDecided}
use Rattle.ct_engine.specs.Progress.{IsUnderWay}
use Rattle.ct_engine.proofs.OutcomeLemmas.{candidate_from}
use Rattle.ct_engine.proofs.answer.candidate_of.Goals as goal

pub saturated-requires-clause-under_way : goal.saturated-requires-clause-under_way
saturated-requires-clause-under_way c = subst (λ (x : Course). IsUnderWay x) (sym c.deref.ensures) c.requires.under_way

pub saturated-requires-clause-quiet : goal.saturated-requires-clause-quiet
saturated-requires-clause-quiet c = subst (λ (x : Course). IsQuiet x.search) (sym c.deref.ensures) c.requires.quiet

pub saturated-requires-clause-all : goal.saturated-requires-clause-all
saturated-requires-clause-all c = subst (λ (x : Course). HaveValues x.search) (sym c.deref.ensures) c.requires.all

pub saturated-requires-clause-saturation : goal.saturated-requires-clause-saturation
saturated-requires-clause-saturation c =
    let course = c.deref.result.now in
    subst (λ (o : List TermId). IsSaturation course.derivation.declarations course.derivation.rec.terms course.search.trail c.deref-2.result.now o) (sym c.as_slice.ensures.value)
    (subst (λ (s : State). IsSaturation course.derivation.declarations course.derivation.rec.terms course.search.trail s c.args.order.reps.items) (sym c.deref-2.ensures)
    (subst (λ (x : Course). IsSaturation x.derivation.declarations x.derivation.rec.terms x.search.trail c.args.classes.value c.args.order.reps.items) (sym c.deref.ensures) c.requires.saturation))

pub returns-clause-candidate : goal.returns-clause-candidate
returns-clause-candidate c =
    let course = c.args.course.value in
    λ d table asserts task.
    candidate_from d table asserts course (record {
      literals = c.in_ok-literals.literals;
      classes = c.args.classes;
      order = c.args.order;
    })
    (c.in_ok-literals.ensures.literals ∙ ap (λ (x : Course). x.search.trail) c.deref-3.ensures)
    task
    (subst (λ (x : Course). AreDecided x.derivation.declarations x.derivation.rec.terms x.derivation.asserts x.search.trail) c.deref.ensures c.saturated.ensures.decided)
    c.requires.saturation
