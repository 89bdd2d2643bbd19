use Rattle.std.proofs.Common.{◌≡◌, ◌+◌, sym, ap, subst, ◌∙◌}
use Rattle.ct_congr.specs.State.{State}
use Rattle.ct_theory.specs.Entailment.{IsSaturation}
use Rattle.ct_engine.specs.declared.course.Course.{Course}
use Rattle.ct_engine.specs.Keeping.{HasFirst}
use Rattle.ct_engine.proofs.KeepingLemmas.{spent_with}
use Rattle.ct_engine.proofs.answer.conclude.Goals as goal

pub refutation_of-whole-requires-clause-ends : goal.refutation_of-whole-requires-clause-ends
refutation_of-whole-requires-clause-ends c = rw c.in-Refuted.is at c.requires.ended

pub spending_of-requires-clause-under_way : goal.spending_of-requires-clause-under_way
spending_of-requires-clause-under_way c = let h = rw c.in-Spent.is at c.requires.ended in h.0

pub spending_of-requires-clause-quiet : goal.spending_of-requires-clause-quiet
spending_of-requires-clause-quiet c = let h = rw c.in-Spent.is at c.requires.ended in h.1

pub spending_of-requires-clause-lacking : goal.spending_of-requires-clause-lacking
spending_of-requires-clause-lacking c = let h = rw c.in-Spent.is at c.requires.ended in h.2

pub spending_of-requires-clause-spent : goal.spending_of-requires-clause-spent
spending_of-requires-clause-spent c = let h = rw c.in-Spent.is at c.requires.ended in h.3

pub spending_of-requires-clause-on_record : goal.spending_of-requires-clause-on_record
spending_of-requires-clause-on_record c = c.requires.spent c.in-Spent.is

pub candidate_of-requires-clause-under_way : goal.candidate_of-requires-clause-under_way
candidate_of-requires-clause-under_way c = let h = rw c.in-Saturated.is at c.requires.ended in h.0

pub candidate_of-requires-clause-quiet : goal.candidate_of-requires-clause-quiet
candidate_of-requires-clause-quiet c = let h = rw c.in-Saturated.is at c.requires.ended in h.1

pub candidate_of-requires-clause-all : goal.candidate_of-requires-clause-all
candidate_of-requires-clause-all c = let h = rw c.in-Saturated.is at c.requires.ended in h.2

pub candidate_of-requires-clause-saturation : goal.candidate_of-requires-clause-saturation
candidate_of-requires-clause-saturation c =
    let course = c.args.course.value in
    let h = rw c.in-Saturated.is at c.requires.ended in
    subst (λ (s : State). IsSaturation course.derivation.declarations course.derivation.rec.terms course.search.trail s c.in-Saturated.order.reps.items) (sym c.into_classes.ensures.value) h.3

pub returns-in-Spent-clause-outcome : goal.returns-in-Spent-clause-outcome
returns-in-Spent-clause-outcome c =
    c.spending_of.ensures.spending c.args.sig.now c.args.table.now c.args.asserts.now c.requires.task

pub returns-in_ok-candidate-in-Saturated-clause-outcome : goal.returns-in_ok-candidate-in-Saturated-clause-outcome
returns-in_ok-candidate-in-Saturated-clause-outcome c =
    c.in_ok-candidate-in-Saturated.ensures.candidate c.args.sig.now c.args.table.now c.args.asserts.now c.requires.task

pub first_count-first-requires : goal.first_count-first-requires
first_count-first-requires c = record { stand = subst (λ (x : Course). HasFirst x) (sym c.deref.ensures) c.requires.stand }

pub returns-in_ok-derivation-in-Refuted-clause-begun : goal.returns-in_ok-derivation-in-Refuted-clause-begun
returns-in_ok-derivation-in-Refuted-clause-begun c = λ store with_store adds.
    (c.in_ok-derivation-in-Refuted.ensures.refutation.declarations, c.in_ok-derivation-in-Refuted.ensures.within)

pub first_count-first-requires-in-Spent : goal.first_count-first-requires-in-Spent
first_count-first-requires-in-Spent c = record { stand = subst (λ (x : Course). HasFirst x) (sym c.deref-in-Spent.ensures) c.requires.stand }

pub returns-in-Spent-clause-begun : goal.returns-in-Spent-clause-begun
returns-in-Spent-clause-begun c = λ store with_store adds.
    let course = c.args.course.value in
    let first : c.first_count-first-in-Spent.result ≡ course.initial + course.kept = c.first_count-first-in-Spent.ensures.value ∙ ap (λ (x : Course). x.initial + x.kept) c.deref-in-Spent.ensures in
    let h = spent_with c.args.sig.now store course c.spending_of.result.derivation c.spending_of.result.moves c.spending_of.ensures.derivation c.spending_of.ensures.moves with_store (adds c.in-Spent.is) in
    (h.0, h.1 ∙ sym first, h.2)
