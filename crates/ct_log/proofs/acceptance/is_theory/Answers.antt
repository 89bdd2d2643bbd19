use Rattle.ct_log.proofs.acceptance.is_theory.Goals as goal

pub returns-clause-refuted : goal.returns-clause-refuted
returns-clause-refuted c = c.is_refuted.ensures.refuted c.args.clause.now c.mark_opposites.ensures.marked
