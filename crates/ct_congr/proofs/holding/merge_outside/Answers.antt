use Rattle.std.proofs.Common.{◌≡◌, [], ◌∷◌, refl, sym, subst, ◌∙◌}
use Rattle.std.proofs.lemmas.List.{append-nil}
use Rattle.ct_rules.specs.Derivation.{States}
use Rattle.ct_terms.specs.Literal.{IsStripped}
use Rattle.ct_congr.specs.declared.merge.Reason.TheVariants.{Hyp}
use Rattle.ct_congr.specs.Partition.{InOneClass}
use Rattle.ct_congr.specs.Outside.{IsOutsideOf}
use Rattle.ct_congr.proofs.HeldLemmas.{given_outside}
use Rattle.ct_congr.proofs.holding.merge_outside.Goals as goal

pub returns-in_err-give-clause-held : goal.returns-in_err-give-clause-held
returns-in_err-give-clause-held c = λ single held outside.
    let m = c.args.merge in
    let known = InOneClass c.args.progress.now.store.parts.now.reps in
    let by = given_outside c.args.sig.now c.args.table.now c.args.hyps.now.items c.args.given.now.items known m.left m.right m.why (λ l is. c.in_default.not-Some l ((c.stated.ensures.value l).1 is)) in
    c.in_err-give.ensures.held single c.args.hyps.now.items held (by.0 outside)

pub returns-in_default-clause-held : goal.returns-in_default-clause-held
returns-in_default-clause-held c = λ single held outside.
    let m = c.args.merge in
    let known = InOneClass c.args.progress.now.store.parts.now.reps in
    let by = given_outside c.args.sig.now c.args.table.now c.args.hyps.now.items c.args.given.now.items known m.left m.right m.why (λ l is. c.in_default.not-Some l ((c.stated.ensures.value l).1 is)) in
    c.in_ok-give.ensures.held single c.args.hyps.now.items held (by.0 outside)

pub returns-in_default-clause-hypotheses : goal.returns-in_default-clause-hypotheses
returns-in_default-clause-hypotheses c =
    let m = c.args.merge in
    let known = InOneClass c.args.progress.now.store.parts.now.reps in
    let by = given_outside c.args.sig.now c.args.table.now c.args.hyps.now.items c.args.given.now.items known m.left m.right m.why (λ l is. c.in_default.not-Some l ((c.stated.ensures.value l).1 is)) in
    sym by.1

pub returns-in_default-clause-given : goal.returns-in_default-clause-given
returns-in_default-clause-given c =
    let m = c.args.merge in
    let known = InOneClass c.args.progress.now.store.parts.now.reps in
    let by = given_outside c.args.sig.now c.args.table.now c.args.hyps.now.items c.args.given.now.items known m.left m.right m.why (λ l is. c.in_default.not-Some l ((c.stated.ensures.value l).1 is)) in
    c.in_ok-give.ensures.given ∙ sym by.2

pub returns-in_err-suppose-clause-held : goal.returns-in_err-suppose-clause-held
returns-in_err-suppose-clause-held c = λ single held outside.
    let m = c.args.merge in
    let l = c.in-Some.l in
    let is : m.why ≡ Hyp l = (c.stated.ensures.value l).0 c.in-Some.is in
    let by : IsStripped c.args.table.now l.term × States l m.left m.right = subst (IsOutsideOf c.args.sig.now c.args.table.now c.args.hyps.now.items (InOneClass c.args.progress.now.store.parts.now.reps) m.left m.right) is outside in
    c.in_err-suppose.ensures.held single c.args.given.now.items held is by.0 by.1

pub returns-clause-held : goal.returns-clause-held
returns-clause-held c = λ single held outside.
    let m = c.args.merge in
    let l = c.in-Some.l in
    let is : m.why ≡ Hyp l = (c.stated.ensures.value l).0 c.in-Some.is in
    let by : IsStripped c.args.table.now l.term × States l m.left m.right = subst (IsOutsideOf c.args.sig.now c.args.table.now c.args.hyps.now.items (InOneClass c.args.progress.now.store.parts.now.reps) m.left m.right) is outside in
    c.in_ok-suppose.ensures.held single c.args.given.now.items held is by.0 by.1

pub returns-clause-hypotheses : goal.returns-clause-hypotheses
returns-clause-hypotheses c =
    let is : c.args.merge.why ≡ Hyp c.in-Some.l = (c.stated.ensures.value c.in-Some.l).0 c.in-Some.is in
    rw is c.in_ok-suppose.ensures.hypotheses

pub returns-clause-given : goal.returns-clause-given
returns-clause-given c =
    let is : c.args.merge.why ≡ Hyp c.in-Some.l = (c.stated.ensures.value c.in-Some.l).0 c.in-Some.is in
    rw is refl

pub returns-in_err-give-clause-more_hypotheses : goal.returns-in_err-give-clause-more_hypotheses
returns-in_err-give-clause-more_hypotheses c = ([], sym (append-nil c.args.hyps.now.items))

pub returns-in_err-give-clause-more_given : goal.returns-in_err-give-clause-more_given
returns-in_err-give-clause-more_given c = ([], c.in_err-give.ensures.unchanged ∙ sym (append-nil c.args.given.now.items))

pub returns-in_default-clause-more_hypotheses : goal.returns-in_default-clause-more_hypotheses
returns-in_default-clause-more_hypotheses c = ([], sym (append-nil c.args.hyps.now.items))

pub returns-in_default-clause-more_given : goal.returns-in_default-clause-more_given
returns-in_default-clause-more_given c = ((record { left = c.args.merge.left; right = c.args.merge.right }) ∷ [], c.in_ok-give.ensures.given)

pub returns-in_err-suppose-clause-more_hypotheses : goal.returns-in_err-suppose-clause-more_hypotheses
returns-in_err-suppose-clause-more_hypotheses c = ([], c.in_err-suppose.ensures.unchanged ∙ sym (append-nil c.args.hyps.now.items))

pub returns-in_err-suppose-clause-more_given : goal.returns-in_err-suppose-clause-more_given
returns-in_err-suppose-clause-more_given c = ([], sym (append-nil c.args.given.now.items))

pub returns-clause-more_hypotheses : goal.returns-clause-more_hypotheses
returns-clause-more_hypotheses c = (c.in-Some.l ∷ [], c.in_ok-suppose.ensures.hypotheses)

pub returns-clause-more_given : goal.returns-clause-more_given
returns-clause-more_given c = ([], sym (append-nil c.args.given.now.items))
