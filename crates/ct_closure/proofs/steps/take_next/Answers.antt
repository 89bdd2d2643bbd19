use Rattle.std.proofs.Common.{◌≡◌, ℕ, Bool, List, length, sym, subst, arith}
use Rattle.ct_terms.specs.declared.ids.TermId.{TermId}
use Rattle.ct_closure.specs.Steps.{AreMarked, HasMarks, IsConditionalTaken, IsArgumentTaken, IsFiniteTaken}
use Rattle.ct_closure.proofs.GrowthLemmas.{step_none, step_then}
use Rattle.ct_closure.proofs.WayLemmas.{marks_pushed, taken_next}
use Rattle.ct_closure.proofs.steps.take_next.Goals as goal

pub returns-in_err-push-clause-step : goal.returns-in_err-push-clause-step
returns-in_err-push-clause-step c = step_none c.args.sig.now c.args.table.now c.requires.sound

pub take_argument-requires-clause-marked : goal.take_argument-requires-clause-marked
take_argument-requires-clause-marked c =
    subst (AreMarked c.args.sig.now c.take_conditional.new.table) (sym c.in_ok-push.ensures.items)
    (marks_pushed c.args.sig.now c.args.table.now c.take_conditional.new.table c.args.marks.now.items c.take_conditional.ensures.step c.requires.under_way.marked)

pub returns-in_err-take_argument-clause-step : goal.returns-in_err-take_argument-clause-step
returns-in_err-take_argument-clause-step c = step_then c.args.sig.now c.args.table.now c.take_conditional.new.table c.take_argument.new.table c.take_conditional.ensures.step c.take_argument.ensures.step

pub returns-in_err-take_finite-clause-step : goal.returns-in_err-take_finite-clause-step
returns-in_err-take_finite-clause-step c =
    step_then c.args.sig.now c.args.table.now c.take_argument.new.table c.take_finite.new.table
    (step_then c.args.sig.now c.args.table.now c.take_conditional.new.table c.take_argument.new.table c.take_conditional.ensures.step c.take_argument.ensures.step)
    c.take_finite.ensures.step

pub returns-clause-step : goal.returns-clause-step
returns-clause-step c =
    step_then c.args.sig.now c.args.table.now c.take_argument.new.table c.take_finite.new.table
    (step_then c.args.sig.now c.args.table.now c.take_conditional.new.table c.take_argument.new.table c.take_conditional.ensures.step c.take_argument.ensures.step)
    c.take_finite.ensures.step

pub returns-clause-under_way : goal.returns-clause-under_way
returns-clause-under_way c =
    let d = c.args.sig.now in
    let marks = c.args.marks.now.items in
    let first = c.take_conditional.new.table in
    let second = c.take_argument.new.table in
    let third = c.take_finite.new.table in
    let after = c.take_argument.new.marks.items in
    let last = c.take_finite.new.marks.items in
    let e : c.len.result ≡ length marks = omega (arith, c.len.ensures, c.args.marks.now.ok.0) in
    let id : ℕ → TermId = λ n. record { 0 = n } in
    (taken_next d c.args.table.now first second third marks after last c.requires.within c.requires.under_way
    c.take_conditional.ensures.step (subst (λ (n : ℕ). IsConditionalTaken first (id n)) e c.in_ok-take_conditional.ensures.taken)
    c.take_argument.ensures.step (subst (λ (ms : List Bool). HasMarks d second ms after) c.in_ok-push.ensures.items c.in_ok-take_argument.ensures.marks) (subst (λ (n : ℕ). IsArgumentTaken d second after (id n)) e c.in_ok-take_argument.ensures.taken)
    c.take_finite.ensures.step c.in_ok-take_finite.ensures.marks (subst (λ (n : ℕ). IsFiniteTaken d third last (id n)) e c.in_ok-take_finite.ensures.taken)).1
