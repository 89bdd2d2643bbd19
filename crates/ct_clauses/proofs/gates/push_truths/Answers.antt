use Rattle.std.proofs.Common.{◌≡◌, [], ◌∷◌, refl, true, false}
use Rattle.ct_rules.specs.Rules.{truth_term}
use Rattle.ct_log.specs.declared.rules.Gate.TheVariants.{True, False}
use Rattle.ct_log.specs.Gates.{positive, negative}
use Rattle.ct_clauses.specs.Initial.{whole}
use Rattle.ct_clauses.proofs.GateLemmas.{True-stripped, False-stripped, line_one}
use Rattle.ct_clauses.proofs.GrowthLemmas.{gates_then}
use Rattle.ct_clauses.proofs.gates.push_truths.Goals as goal

pub push_gate-requires : goal.push_gate-requires
push_gate-requires c =
    let table = c.args.table.now in
    let is : c.in_ok-clause.clause.items ≡ positive (truth_term true) ∷ [] = cc (c.in_ok-clause.ensures.items, c.positive.ensures.value) in
    record { gate = line_one table True (truth_term true) 0 c.in_ok-clause.clause.items (positive (truth_term true)) is (True-stripped table c.len.ensures.begins) (refl, refl, refl) }

pub push_gate-requires-2 : goal.push_gate-requires-2
push_gate-requires-2 c =
    let table = c.args.table.now in
    let is : c.in_ok-clause-2.clause.items ≡ negative (truth_term false) ∷ [] = cc (c.in_ok-clause-2.ensures.items, c.negative.ensures.value) in
    record { gate = line_one table False (truth_term true) 0 c.in_ok-clause-2.clause.items (negative (truth_term false)) is (False-stripped table c.len.ensures.begins) (refl, refl, refl) }

pub returns-clause-grown : goal.returns-clause-grown
returns-clause-grown c =
    gates_then c.args.table.now c.args.lines.now.items c.push_gate.new.lines.items c.push_gate-2.new.lines.items (whole True (truth_term true) ∷ []) (whole False (truth_term true) ∷ []) c.in_ok-push_gate.ensures.grown c.in_ok-push_gate-2.ensures.grown
