use Rattle.std.proofs.Common.{arith, refl, sym, subst, ◌∙◌}
use Rattle.std.proofs.lemmas.Option.{none-some}
use Rattle.ct_terms.specs.declared.term.Core.TheVariants.{Test}
use Rattle.ct_congr.specs.Covered.{HasCon}
use Rattle.ct_congr.specs.Joined.{AreJoined}
use Rattle.ct_congr.proofs.TermLemmas.{Has-inside}
use Rattle.ct_congr.proofs.AtTermLemmas.{HasCon-equal, HasCon-built, HasCon-inside, rep_inside, testing_none, testing_answer, test_parts, IsTesting-parts}
use Rattle.ct_congr.proofs.at_term.test_at.Goals as goal
use Rattle.ct_congr.proofs.at_term.test_at.Goals.{In-Some}

-- the constructor term that is stored for the class of what is tested
stored : (c : In-Some) → HasCon c.args.reps.now c.args.cons.now c.args.u c.in-Some.con
stored c = (c.con_at.ensures.value c.in-Some.con).0 c.in-Some.is

pub con_at-requires-clause-own : goal.con_at-requires-clause-own
con_at-requires-clause-own c = rep_inside c.args.table.now c.args.reps.now c.args.cons.now c.requires.grouped c.args.u

pub let_wait-requires-clause-left : goal.let_wait-requires-clause-left
let_wait-requires-clause-left c = omega (arith, Has-inside c.args.table.now (Test c.args.c c.args.u) c.args.t.0 c.requires.stands, c.requires.grouped.long)

pub returns-in_default-clause-covered : goal.returns-in_default-clause-covered
returns-in_default-clause-covered c = λ y rule.
    absurd (testing_none c.args.table.now c.args.reps.now c.args.cons.now c.args.t c.args.u c.args.c c.requires.stands (λ con has. none-some con (sym c.in_default.is ∙ (c.con_at.ensures.value con).1 has)) y rule)

pub is_built_by-value-requires : goal.is_built_by-value-requires
is_built_by-value-requires c = record { inside = HasCon-inside c.args.table.now c.args.reps.now c.args.cons.now c.requires.grouped c.args.u c.in-Some.con (stored (goal.at.is_built_by-value-requires c).In-Some) }

pub returns-clause-waits : goal.returns-clause-waits
returns-clause-waits c = λ d.
    let terms = c.args.table.now in
    let reps = c.args.reps.now in
    let cons = c.args.cons.now in
    let con = c.in-Some.con in
    let has = stored (goal.at.returns-clause-waits c).In-Some in
    let parts = test_parts terms reps cons c.args.t c.args.u c.args.c c.requires.stands con c.truth.result c.is_built_by-value.result c.truth.ensures.value (HasCon-built terms reps cons c.requires.grouped c.args.u con has) c.is_built_by-value.ensures.value in
    c.in_ok-let_wait.ensures.waits d terms (refl, IsTesting-parts terms reps cons c.args.t c.args.u c.args.c c.requires.stands con c.truth.result (HasCon-equal terms reps cons c.requires.grouped c.args.u con has) parts, refl) tt

pub returns-clause-covered : goal.returns-clause-covered
returns-clause-covered c = λ y rule.
    let terms = c.args.table.now in
    let reps = c.args.reps.now in
    let cons = c.args.cons.now in
    let has = stored (goal.at.returns-clause-covered c).In-Some in
    let is = testing_answer terms reps cons c.args.t c.args.u c.args.c c.requires.stands c.in-Some.con c.is_built_by-value.result has c.is_built_by-value.ensures.value y rule in
    subst (AreJoined reps c.let_wait.new.waiting.items c.args.t) (c.truth.ensures.value ∙ sym is) c.in_ok-let_wait.ensures.joined
