use Rattle.ct_log.specs.declared.line.Step.TheVariants as step
use Rattle.ct_log.specs.Acceptance.{clauses_of}
use Rattle.ct_log.proofs.AcceptedLemmas.{accepted-told, stripped-within}
use Rattle.ct_log.proofs.LookLemmas.{not_told}
use Rattle.ct_log.proofs.acceptance.is_accepted.Goals as goal

pub returns-then-not-are_stripped-clause-exact : goal.returns-then-not-are_stripped-clause-exact
returns-then-not-are_stripped-clause-exact c =
    let told = rw c.as_slice-clause.ensures.value at c.are_stripped.ensures.stripped in
    (λ e. cc, λ h. absurd (not_told c.are_stripped.result _ told c.if-not-are_stripped.true h.literals))

pub is_theory-requires-clause-within : goal.is_theory-requires-clause-within
is_theory-requires-clause-within c =
    let stripped = (rw c.as_slice-clause.ensures.value at c.are_stripped.ensures.stripped).0 c.if-not-are_stripped.false in
    rw c.as_slice-clause.ensures.value (stripped-within c.args.table.now c.args.line.now.clause c.args.room.now.literals c.requires.literals stripped)

pub is_learned-requires-clause-within : goal.is_learned-requires-clause-within
is_learned-requires-clause-within c =
    let stripped = (rw c.as_slice-clause.ensures.value at c.are_stripped.ensures.stripped).0 c.if-not-are_stripped.false in
    rw c.as_slice-clause.ensures.value (stripped-within c.args.table.now c.args.line.now.clause c.args.room.now.literals c.requires.literals stripped)

pub returns-in-Input-clause-exact : goal.returns-in-Input-clause-exact
returns-in-Input-clause-exact c =
    let stripped = (rw c.as_slice-clause.ensures.value at c.are_stripped.ensures.stripped).0 c.if-not-are_stripped.false in
    let told = rw c.as_slice-clause.ensures.value at c.is_input.ensures.input in
    accepted-told c.args.sig.now c.args.table.now c.args.asserts.now (clauses_of c.args.earlier.now) c.args.line.now (step.Input c.in-Input.t) c.is_input.result c.in-Input.is stripped told

pub returns-in-Gate-clause-exact : goal.returns-in-Gate-clause-exact
returns-in-Gate-clause-exact c =
    let stripped = (rw c.as_slice-clause.ensures.value at c.are_stripped.ensures.stripped).0 c.if-not-are_stripped.false in
    let told = rw c.as_slice-clause.ensures.value at c.is_gate_clause.ensures.clause in
    accepted-told c.args.sig.now c.args.table.now c.args.asserts.now (clauses_of c.args.earlier.now) c.args.line.now (step.Gate c.in-Gate.gate c.in-Gate.t c.in-Gate.place) c.is_gate_clause.result c.in-Gate.is stripped told

pub returns-in-Exhaust-clause-exact : goal.returns-in-Exhaust-clause-exact
returns-in-Exhaust-clause-exact c =
    let stripped = (rw c.as_slice-clause.ensures.value at c.are_stripped.ensures.stripped).0 c.if-not-are_stripped.false in
    let told = rw c.as_slice-clause.ensures.value at c.is_exhaustion.ensures.clause in
    accepted-told c.args.sig.now c.args.table.now c.args.asserts.now (clauses_of c.args.earlier.now) c.args.line.now (step.Exhaust c.in-Exhaust.t) c.is_exhaustion.result c.in-Exhaust.is stripped told

pub returns-in-Theory-clause-exact : goal.returns-in-Theory-clause-exact
returns-in-Theory-clause-exact c =
    let stripped = (rw c.as_slice-clause.ensures.value at c.are_stripped.ensures.stripped).0 c.if-not-are_stripped.false in
    let told = rw (c.as_slice-clause.ensures.value, c.as_slice.ensures.value) at c.is_theory.ensures.refuted in
    accepted-told c.args.sig.now c.args.table.now c.args.asserts.now (clauses_of c.args.earlier.now) c.args.line.now (step.Theory c.in-Theory.steps c.in-Theory.close) c.is_theory.result c.in-Theory.is stripped told

pub returns-in-Learn-clause-exact : goal.returns-in-Learn-clause-exact
returns-in-Learn-clause-exact c =
    let stripped = (rw c.as_slice-clause.ensures.value at c.are_stripped.ensures.stripped).0 c.if-not-are_stripped.false in
    let told = rw (c.as_slice-clause.ensures.value, c.as_slice-in-Learn.ensures.value) at c.is_learned.ensures.follows in
    accepted-told c.args.sig.now c.args.table.now c.args.asserts.now (clauses_of c.args.earlier.now) c.args.line.now (step.Learn c.in-Learn.hints) c.is_learned.result c.in-Learn.is stripped told
