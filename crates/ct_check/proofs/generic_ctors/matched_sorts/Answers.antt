use Rattle.ct_check.proofs.generic_ctors.matched_sorts.Goals as goal

pub returns-in_ok-sorts-in-Fields-clause-value : goal.returns-in_ok-sorts-in-Fields-clause-value
returns-in_ok-sorts-in-Fields-clause-value c = λ d. rw c.in-Fields.is (c.in_ok-sorts-in-Fields.ensures.sorts d)
