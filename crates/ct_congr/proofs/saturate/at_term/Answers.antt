use Rattle.ct_terms.specs.declared.term.Core.TheVariants.{Sel, Test, Eq, Not}
use Rattle.ct_terms.specs.Terms.{Has}
use Rattle.ct_congr.proofs.RuleLemmas.{closed_of, testing_closed, negation_closed, selector_declared, constructor_declared}
use Rattle.ct_congr.proofs.saturate.at_term.Goals as goal
use Rattle.ct_congr.proofs.saturate.at_term.Goals.{In-Sel, In-Test, In-Eq, In-Not}

-- the term that stands at the number, by its variant
selects : (c : In-Sel) → Has c.args.table.now (Sel c.in-Sel.s c.in-Sel.u) c.args.t.0
selects c = rw (← c.in-Sel.is) c.core.ensures.value

tests : (c : In-Test) → Has c.args.table.now (Test c.in-Test.c c.in-Test.u) c.args.t.0
tests c = rw (← c.in-Test.is) c.core.ensures.value

equates : (c : In-Eq) → Has c.args.table.now (Eq c.in-Eq.a c.in-Eq.b) c.args.t.0
equates c = rw (← c.in-Eq.is) c.core.ensures.value

negates : (c : In-Not) → Has c.args.table.now (Not c.in-Not.a) c.args.t.0
negates c = rw (← c.in-Not.is) c.core.ensures.value

pub select-requires-clause-selector : goal.select-requires-clause-selector
select-requires-clause-selector c = selector_declared c.args.sig.now c.args.table.now c.in-Sel.s c.in-Sel.u c.args.t.0 c.requires.sorted (selects (goal.at.select-requires-clause-selector c).In-Sel)

pub expand-requires-clause-constructor : goal.expand-requires-clause-constructor
expand-requires-clause-constructor c = constructor_declared c.args.sig.now c.args.table.now c.in-Test.c c.in-Test.u c.args.t.0 c.requires.sorted (tests (goal.at.expand-requires-clause-constructor c).In-Test)

pub returns-in_ok-select-in-Sel-clause-closed : goal.returns-in_ok-select-in-Sel-clause-closed
returns-in_ok-select-in-Sel-clause-closed c = λ none injective.
    let stands = selects (goal.at.returns-in_ok-select-in-Sel-clause-closed c).In-Sel in
    closed_of c.args.sig.now c.args.table.now c.args.reps.now c.args.t (Sel c.in-Sel.s c.in-Sel.u) stands (c.in_ok-select-in-Sel.ensures.closed none injective)

pub returns-in_ok-expand-in-Test-clause-needed : goal.returns-in_ok-expand-in-Test-clause-needed
returns-in_ok-expand-in-Test-clause-needed c = λ hyps had.
    let d = c.args.sig.now in
    c.in_ok-expand-in-Test.ensures.needed hyps (c.in_ok-test_false-in-Test.ensures.needed d hyps (c.in_ok-test_true-in-Test.ensures.needed d hyps had))

pub returns-in_ok-expand-in-Test-clause-closed : goal.returns-in_ok-expand-in-Test-clause-closed
returns-in_ok-expand-in-Test-clause-closed c = λ none injective.
    let terms = c.args.table.now in
    let reps = c.args.reps.now in
    let stands = tests (goal.at.returns-in_ok-expand-in-Test-clause-closed c).In-Test in
    let third = c.in_ok-expand-in-Test.ensures.none none in
    let second = c.in_ok-test_false-in-Test.ensures.none third in
    closed_of c.args.sig.now terms reps c.args.t (Test c.in-Test.c c.in-Test.u) stands (
      testing_closed terms reps c.args.t c.in-Test.u c.in-Test.c stands (c.in_ok-test_true-in-Test.ensures.closed second) (c.in_ok-test_false-in-Test.ensures.closed third),
      c.in_ok-expand-in-Test.ensures.closed none,
    )

pub returns-in_ok-equal_out-in-Eq-clause-needed : goal.returns-in_ok-equal_out-in-Eq-clause-needed
returns-in_ok-equal_out-in-Eq-clause-needed c = λ hyps had.
    let d = c.args.sig.now in
    c.in_ok-equal_out-in-Eq.ensures.needed d hyps (c.in_ok-equal_in-in-Eq.ensures.needed d hyps had)

pub returns-in_ok-equal_out-in-Eq-clause-closed : goal.returns-in_ok-equal_out-in-Eq-clause-closed
returns-in_ok-equal_out-in-Eq-clause-closed c = λ none injective.
    let stands = equates (goal.at.returns-in_ok-equal_out-in-Eq-clause-closed c).In-Eq in
    closed_of c.args.sig.now c.args.table.now c.args.reps.now c.args.t (Eq c.in-Eq.a c.in-Eq.b) stands (
      c.in_ok-equal_in-in-Eq.ensures.closed (c.in_ok-equal_out-in-Eq.ensures.none none),
      c.in_ok-equal_out-in-Eq.ensures.closed none,
    )

pub returns-in_ok-negate-in-Not-2-clause-needed : goal.returns-in_ok-negate-in-Not-2-clause-needed
returns-in_ok-negate-in-Not-2-clause-needed c = λ hyps had.
    let d = c.args.sig.now in
    c.in_ok-negate-in-Not-2.ensures.needed d hyps (c.in_ok-negate-in-Not.ensures.needed d hyps had)

pub returns-in_ok-negate-in-Not-2-clause-closed : goal.returns-in_ok-negate-in-Not-2-clause-closed
returns-in_ok-negate-in-Not-2-clause-closed c = λ none injective.
    let terms = c.args.table.now in
    let reps = c.args.reps.now in
    let stands = negates (goal.at.returns-in_ok-negate-in-Not-2-clause-closed c).In-Not in
    closed_of c.args.sig.now terms reps c.args.t (Not c.in-Not.a) stands
    (negation_closed terms reps c.args.t c.in-Not.a stands (c.in_ok-negate-in-Not.ensures.closed (c.in_ok-negate-in-Not-2.ensures.none none)) (c.in_ok-negate-in-Not-2.ensures.closed none))
