use Rattle.std.proofs.Common.{◌≡◌, ◌<◌, sym, subst, ◌∙◌, inl, arith}
use Rattle.std.proofs.lemmas.Option.{same_Some}
use Rattle.ct_sorts.specs.Declarations.{Declarations}
use Rattle.ct_terms.specs.declared.ids.TermId.{TermId}
use Rattle.ct_terms.specs.Terms.{Terms, AreOrdered}
use Rattle.ct_closure.specs.ClosedTable.{IsOpen}
use Rattle.ct_closure.specs.Steps.{IsMarked, IsArgumentOf}
use Rattle.ct_closure.proofs.GrowthLemmas.{Begins-itself, IsArgumentOf-was, argument_below, step_none}
use Rattle.ct_closure.proofs.WayLemmas.{argument_of, clash, marks_same}
use Rattle.ct_closure.proofs.steps.take_argument.Goals as goal

-- an argument is before the term
before : (d : Declarations) (table : Terms) → AreOrdered table → (x t : TermId) → IsArgumentOf table x t → x.0 < t.0
before d table ordered x t h = argument_below table table (Begins-itself table) d ordered x t h

pub returns-in_default-clause-step : goal.returns-in_default-clause-step
returns-in_default-clause-step c = step_none c.args.sig.now c.args.table.now c.requires.sound

pub returns-in_default-clause-marks : goal.returns-in_default-clause-marks
returns-in_default-clause-marks c = marks_same c.args.sig.now c.args.table.now c.args.marks.now.items c.requires.marked

pub returns-in_default-clause-taken : goal.returns-in_default-clause-taken
returns-in_default-clause-taken c = λ x sort argument unsettled. absurd (c.in_default.not-Some x ((c.argument.ensures.value x).1 argument))

pub is_open-requires-clause-within : goal.is_open-requires-clause-within
is_open-requires-clause-within c =
    let below = before c.args.sig.now c.args.table.now c.requires.sound.ordered c.in-Some.x c.args.t ((c.argument.ensures.value c.in-Some.x).0 c.in-Some.is) in
    omega (arith, below, c.requires.within)

pub returns-then-not-is_open-clause-step : goal.returns-then-not-is_open-clause-step
returns-then-not-is_open-clause-step c = step_none c.args.sig.now c.args.table.now c.requires.sound

pub returns-then-not-is_open-clause-marks : goal.returns-then-not-is_open-clause-marks
returns-then-not-is_open-clause-marks c = marks_same c.args.sig.now c.args.table.now c.args.marks.now.items c.requires.marked

pub returns-then-not-is_open-clause-taken : goal.returns-then-not-is_open-clause-taken
returns-then-not-is_open-clause-taken c = λ x sort argument unsettled.
    let same : c.in-Some.x ≡ x = same_Some c.in-Some.x x (sym c.in-Some.is ∙ (c.argument.ensures.value x).1 argument) in
    absurd (clash c.is_open.result (c.is_open.ensures.unsettled.1 (sort, subst (λ (u : TermId). IsOpen c.args.sig.now c.args.table.now u sort) (sym same) unsettled)) c.if-not-is_open.true)

pub mark-requires-clause-split : goal.mark-requires-clause-split
mark-requires-clause-split c =
    let unsettled = c.is_open.ensures.unsettled.0 c.if-not-is_open.false in
    (unsettled.0, record { unsettled = unsettled.1; cause = inl (argument_of c.args.table.now c.in-Some.x c.args.t ((c.argument.ensures.value c.in-Some.x).0 c.in-Some.is)) })

pub mark-requires-clause-long : goal.mark-requires-clause-long
mark-requires-clause-long c =
    let below = before c.args.sig.now c.args.table.now c.requires.sound.ordered c.in-Some.x c.args.t ((c.argument.ensures.value c.in-Some.x).0 c.in-Some.is) in
    omega (arith, below, c.requires.long)

pub returns-clause-taken : goal.returns-clause-taken
returns-clause-taken c = λ x sort argument unsettled.
    let was = IsArgumentOf-was c.args.table.now c.mark.new.table c.mark.ensures.step.grown c.args.sig.now x c.args.t c.requires.within argument in
    let same : c.in-Some.x ≡ x = same_Some c.in-Some.x x (sym c.in-Some.is ∙ (c.argument.ensures.value x).1 was) in
    subst (IsMarked c.mark.new.marks.items) same c.in_ok-mark.ensures.marked
