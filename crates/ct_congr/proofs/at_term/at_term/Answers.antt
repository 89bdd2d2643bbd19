use Rattle.ct_terms.specs.declared.term.Core.TheVariants.{Sel, Test, Eq, Not}
use Rattle.ct_terms.specs.Terms.{Has}
use Rattle.ct_congr.specs.Partition.{InOneClass}
use Rattle.ct_congr.specs.Joined.{AreJoined}
use Rattle.ct_congr.specs.Covered.{HasCon}
use Rattle.ct_congr.proofs.RuleLemmas.{selector_declared, constructor_declared}
use Rattle.ct_congr.proofs.JoinedLemmas.{AreJoined-on, WaitsOn-trans}
use Rattle.ct_congr.proofs.AtTermLemmas.{IsCoveredAt-by}
use Rattle.ct_congr.proofs.at_term.at_term.Goals as goal
use Rattle.ct_congr.proofs.at_term.at_term.Goals.{In-Sel, In-Test, In-Eq, In-Not}

-- the term that stands at the number, by its variant
selects : (c : In-Sel) → Has c.args.table.now (Sel c.in-Sel.s c.in-Sel.u) c.args.t.0
selects c = rw (← c.in-Sel.is) c.core.ensures.value

tests : (c : In-Test) → Has c.args.table.now (Test c.in-Test.c c.in-Test.u) c.args.t.0
tests c = rw (← c.in-Test.is) c.core.ensures.value

equates : (c : In-Eq) → Has c.args.table.now (Eq c.in-Eq.a c.in-Eq.b) c.args.t.0
equates c = rw (← c.in-Eq.is) c.core.ensures.value

negates : (c : In-Not) → Has c.args.table.now (Not c.in-Not.a) c.args.t.0
negates c = rw (← c.in-Not.is) c.core.ensures.value

pub select_at-requires-clause-selector : goal.select_at-requires-clause-selector
select_at-requires-clause-selector c = selector_declared c.args.sig.now c.args.table.now c.in-Sel.s c.in-Sel.u c.args.t.0 c.requires.sorted (selects (goal.at.select_at-requires-clause-selector c).In-Sel)

pub expand_at-requires-clause-constructor : goal.expand_at-requires-clause-constructor
expand_at-requires-clause-constructor c = constructor_declared c.args.sig.now c.args.table.now c.in-Test.c c.in-Test.u c.args.t.0 c.requires.sorted (tests (goal.at.expand_at-requires-clause-constructor c).In-Test)

pub returns-in_ok-select_at-in-Sel-clause-covered : goal.returns-in_ok-select_at-in-Sel-clause-covered
returns-in_ok-select_at-in-Sel-clause-covered c =
    let reps = c.args.reps.now in
    IsCoveredAt-by c.args.sig.now c.args.table.now (InOneClass reps) (HasCon reps c.args.cons.now) (AreJoined reps c.select_at.new.waiting.items) c.args.t (Sel c.in-Sel.s c.in-Sel.u) (selects (goal.at.returns-in_ok-select_at-in-Sel-clause-covered c).In-Sel) c.in_ok-select_at-in-Sel.ensures.covered

pub returns-in_ok-expand_at-in-Test-clause-waits : goal.returns-in_ok-expand_at-in-Test-clause-waits
returns-in_ok-expand_at-in-Test-clause-waits c =
    let d = c.args.sig.now in
    WaitsOn-trans d c.args.table.now c.args.reps.now c.args.waiting.now.items c.test_at.new.waiting.items c.expand_at.new.waiting.items (c.in_ok-test_at-in-Test.ensures.waits d) c.in_ok-expand_at-in-Test.ensures.waits

pub returns-in_ok-expand_at-in-Test-clause-covered : goal.returns-in_ok-expand_at-in-Test-clause-covered
returns-in_ok-expand_at-in-Test-clause-covered c =
    let d = c.args.sig.now in
    let terms = c.args.table.now in
    let reps = c.args.reps.now in
    let before = c.test_at.new.waiting.items in
    let after = c.expand_at.new.waiting.items in
    IsCoveredAt-by d terms (InOneClass reps) (HasCon reps c.args.cons.now) (AreJoined reps after) c.args.t (Test c.in-Test.c c.in-Test.u) (tests (goal.at.returns-in_ok-expand_at-in-Test-clause-covered c).In-Test) (
      λ y rule. AreJoined-on d terms reps before after c.in_ok-expand_at-in-Test.ensures.waits c.args.t y (c.in_ok-test_at-in-Test.ensures.covered y rule),
      c.in_ok-expand_at-in-Test.ensures.covered,
    )

pub returns-in_ok-equal_out_at-in-Eq-clause-waits : goal.returns-in_ok-equal_out_at-in-Eq-clause-waits
returns-in_ok-equal_out_at-in-Eq-clause-waits c =
    let d = c.args.sig.now in
    WaitsOn-trans d c.args.table.now c.args.reps.now c.args.waiting.now.items c.equal_in_at.new.waiting.items c.equal_out_at.new.waiting.items (c.in_ok-equal_in_at-in-Eq.ensures.waits d) (c.in_ok-equal_out_at-in-Eq.ensures.waits d)

pub returns-in_ok-equal_out_at-in-Eq-clause-covered : goal.returns-in_ok-equal_out_at-in-Eq-clause-covered
returns-in_ok-equal_out_at-in-Eq-clause-covered c =
    let d = c.args.sig.now in
    let terms = c.args.table.now in
    let reps = c.args.reps.now in
    let before = c.equal_in_at.new.waiting.items in
    let after = c.equal_out_at.new.waiting.items in
    IsCoveredAt-by d terms (InOneClass reps) (HasCon reps c.args.cons.now) (AreJoined reps after) c.args.t (Eq c.in-Eq.a c.in-Eq.b) (equates (goal.at.returns-in_ok-equal_out_at-in-Eq-clause-covered c).In-Eq) (
      λ y rule. AreJoined-on d terms reps before after (c.in_ok-equal_out_at-in-Eq.ensures.waits d) c.args.t y (c.in_ok-equal_in_at-in-Eq.ensures.covered y rule),
      c.in_ok-equal_out_at-in-Eq.ensures.covered,
    )

pub returns-in_ok-negate_at-in-Not-clause-covered : goal.returns-in_ok-negate_at-in-Not-clause-covered
returns-in_ok-negate_at-in-Not-clause-covered c =
    let reps = c.args.reps.now in
    IsCoveredAt-by c.args.sig.now c.args.table.now (InOneClass reps) (HasCon reps c.args.cons.now) (AreJoined reps c.negate_at.new.waiting.items) c.args.t (Not c.in-Not.a) (negates (goal.at.returns-in_ok-negate_at-in-Not-clause-covered c).In-Not) c.in_ok-negate_at-in-Not.ensures.covered
