use Rattle.ct_clauses.proofs.growth.push_gate.Goals as goal

pub returns-clause-grown : goal.returns-clause-grown
returns-clause-grown c = λ d asserts.
    c.in_ok-push_line.ensures.grown d c.args.table.now asserts (record { literals = c.requires.gate.literals; justified = c.requires.gate.of_gate })
