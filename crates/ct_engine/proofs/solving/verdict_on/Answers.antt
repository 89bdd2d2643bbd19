use Rattle.ct_engine.specs.declared.verdict.Verdict.TheVariants.{Unknown}
use Rattle.ct_engine.proofs.solving.verdict_on.Goals as goal

pub returns-in-Unsat-clause-verdict : goal.returns-in-Unsat-clause-verdict
returns-in-Unsat-clause-verdict c = rw c.in-Unsat.is at c.in_ok-outcome.ensures.outcome

pub returns-in-Unknown-clause-verdict : goal.returns-in-Unknown-clause-verdict
returns-in-Unknown-clause-verdict c = rw c.in-Unknown.is at c.in_ok-outcome.ensures.outcome

pub returns-in-Unknown-clause-decides : goal.returns-in-Unknown-clause-decides
returns-in-Unknown-clause-decides c =
    let h = rw c.in-Unknown.is at c.in_ok-outcome.ensures.outcome in
    λ variables has enough. c.spent_searches.ensures.decides c.args.sig.now c.args.table.now c.args.asserts.now c.args.budget variables (Unknown c.in-Unknown.spent) h has enough

pub readable_model-requires-clause-candidate : goal.readable_model-requires-clause-candidate
readable_model-requires-clause-candidate c = rw c.in-Candidate.is at c.in_ok-outcome.ensures.outcome

pub returns-in_ok-interp-in-Candidate-clause-verdict : goal.returns-in_ok-interp-in-Candidate-clause-verdict
returns-in_ok-interp-in-Candidate-clause-verdict c = c.in_ok-interp-in-Candidate.ensures.model

pub returns-in-Unsat-clause-begun : goal.returns-in-Unsat-clause-begun
returns-in-Unsat-clause-begun c = rw c.in-Unsat.is at c.in_ok-outcome.ensures.begun

pub returns-in-Unknown-clause-begun : goal.returns-in-Unknown-clause-begun
returns-in-Unknown-clause-begun c = rw c.in-Unknown.is at c.in_ok-outcome.ensures.begun
