use Rattle.ct_clauses.proofs.exhausts.push_exhaust.Goals as goal

pub returns-clause-grown : goal.returns-clause-grown
returns-clause-grown c = λ asserts.
    c.in_ok-push_line.ensures.grown c.args.sig.now c.args.table.now asserts (record { literals = c.in_ok-clause.ensures.literals; justified = c.in_ok-clause.ensures.clause })
