use Rattle.std.proofs.Common.{refl}
use Rattle.ct_theory.proofs.ClauseLemmas.{IsClauseOf-same}
use Rattle.ct_theory.proofs.clause.put_named.Goals as goal

pub returns-in_ok-put-in-Hyp-clause-clause : goal.returns-in_ok-put-in-Hyp-clause-clause
returns-in_ok-put-in-Hyp-clause-clause c = λ steps is. rw c.in-Hyp.is (c.in_ok-put-in-Hyp.ensures.clause steps is)

pub returns-in_default : goal.returns-in_default
returns-in_default c = record {
  long = refl;
  stamped = c.requires.stamped;
  clause = λ steps is. IsClauseOf-same steps c.args.clause.now.items is c.args.step.now (λ l e. absurd (c.in_default.not-Hyp l e));
}
