use Rattle.ct_explain.proofs.ReasonLemmas.{equation_known}
use Rattle.ct_explain.proofs.ReasonLemmas.{equation_premise}
use Rattle.ct_explain.proofs.premises.equation_in.Goals as goal

pub returns-in-Some-clause-enough : goal.returns-in-Some-clause-enough
returns-in-Some-clause-enough c = equation_premise c.args.table.now c.args.t c.in-Some.a c.in-Some.b (rw c.in-Some.is at c.sides.ensures.under)

pub returns-in-Some-clause-known : goal.returns-in-Some-clause-known
returns-in-Some-clause-known c = equation_known c.args.table.now c.args.t c.in-Some.a c.in-Some.b (rw c.in-Some.is at c.sides.ensures.under)

pub returns-in-Some-clause-sides : goal.returns-in-Some-clause-sides
returns-in-Some-clause-sides c = λ r. rw c.in-Some.is at c.sides.ensures.under
