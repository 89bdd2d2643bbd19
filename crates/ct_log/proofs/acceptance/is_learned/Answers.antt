use Rattle.ct_log.proofs.acceptance.is_learned.Goals as goal

pub returns-clause-follows : goal.returns-clause-follows
returns-clause-follows c = c.follows.ensures.follows c.args.clause.now c.mark_opposites.ensures.marked
