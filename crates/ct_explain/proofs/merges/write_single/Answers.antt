use Rattle.ct_explain.proofs.StepLemmas.{single_step}
use Rattle.ct_explain.proofs.merges.write_single.Goals as goal

pub returns-clause-grown : goal.returns-clause-grown
returns-clause-grown c =
    c.in_ok-number.ensures.grown c.args.classes.now (single_step c.args.classes.now c.args.writer.now c.args.left c.args.right c.requires.reason)
