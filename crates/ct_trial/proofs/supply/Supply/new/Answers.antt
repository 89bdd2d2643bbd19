use Rattle.ct_trial.proofs.GraphLemmas.{appended_none, appended_further}
use Rattle.ct_trial.proofs.supply.Supply.new.Goals as goal

pub loop-s-init : goal.loop-s-init
loop-s-init c = (appended_none c.args.graph.now, c.requires.fits)

pub loop-s-preserved : goal.loop-s-preserved
loop-s-preserved c =
    (appended_further c.args.graph.now c.loop-s.graph c.add_if_free.new.graph c.loop-s.invariant.0 c.in_ok-add_if_free.ensures.appended, c.in_ok-add_if_free.ensures.fits)
