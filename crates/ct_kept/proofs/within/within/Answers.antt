use Rattle.ct_kept.proofs.within.within.Goals as goal

pub returns-clause-only : goal.returns-clause-only
returns-clause-only c = rw c.into_inner.ensures c.in_ok-chosen.ensures.only
