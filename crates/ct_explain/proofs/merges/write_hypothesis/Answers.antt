use Rattle.ct_explain.proofs.StepLemmas.{hypothesis_step}
use Rattle.ct_explain.proofs.merges.write_hypothesis.Goals as goal

pub returns-clause-grown : goal.returns-clause-grown
returns-clause-grown c =
    c.in_ok-number.ensures.grown c.args.classes.now (hypothesis_step c.args.classes.now c.args.writer.now c.args.l c.args.left c.args.right c.requires.reason)
