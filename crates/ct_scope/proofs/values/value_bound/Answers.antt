use Rattle.std.proofs.Common.{false, Ok, refl}
use Rattle.std.proofs.lemmas.Result.{err_from_is_err_and}
use Rattle.ct_scope.proofs.ValueLemmas.{bound_by, bound_failed}
use Rattle.ct_scope.proofs.values.value_bound.Goals as goal

pub returns-in_err-term-clause-outcome : goal.returns-in_err-term-clause-outcome
returns-in_err-term-clause-outcome c = λ v at.
    let p = err_from_is_err_and c.from_residual.result c.from_residual.ensures.1 in
    rw (p.1, p.2) (rw c.if-not-occurs.false (bound_failed c.args.sig.now c.args.table.now c.value_term.new.table v _ (c.in_err-term.ensures.outcome v at)))

pub returns-clause-outcome : goal.returns-clause-outcome
returns-clause-outcome c = λ v at. rw c.if-not-occurs.false (bound_by c.args.sig.now c.args.table.now c.value_term.new.table v (Ok c.in_ok-term.term) c.in_ok-term.term refl (c.in_ok-term.ensures.outcome v at))
