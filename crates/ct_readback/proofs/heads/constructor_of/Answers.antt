use Rattle.ct_readback.proofs.HeadLemmas.{among_sorts}
use Rattle.ct_readback.proofs.heads.constructor_of.Goals as goal

pub returns-clause-sort : goal.returns-clause-sort
returns-clause-sort c = among_sorts c.args.sig.now c.sorts.ensures.consistent c.in_ok-c.c c.args.s c.ctor_among.result c.ctor_among.ensures.value
