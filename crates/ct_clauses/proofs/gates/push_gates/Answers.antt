use Rattle.std.proofs.Common.{[], ◌∷◌, true}
use Rattle.ct_rules.specs.Rules.{truth_term}
use Rattle.ct_log.specs.declared.rules.Gate.TheVariants.{True, False}
use Rattle.ct_clauses.specs.Initial.{gates_from, whole}
use Rattle.ct_clauses.proofs.GrowthLemmas.{gates_then}
use Rattle.ct_clauses.proofs.gates.push_gates.Goals as goal

pub returns-clause-grown : goal.returns-clause-grown
returns-clause-grown c =
    let table = c.args.table.now in
    gates_then table c.args.lines.now.items c.push_truths.new.lines.items c.push_terms.new.lines.items
    (whole True (truth_term true) ∷ (whole False (truth_term true) ∷ [])) (gates_from 0 table) c.in_ok-push_truths.ensures.grown c.in_ok-push_terms.ensures.grown
