use Rattle.ct_trial.proofs.FollowLemmas.{further_push}
use Rattle.ct_trial.proofs.functions.add_tables.Goals as goal

pub loop-f-preserved : goal.loop-f-preserved
loop-f-preserved c =
    further_push c.args.sig.now c.args.graph.now c.args.funs.now c.loop-f.funs c.add_table.new.tables c.loop-f.f c.in_ok-default.default c.fun_result.result
    c.in_ok-add_table.ensures.added c.fun_result.ensures.value c.in_ok-default.ensures.sorted c.loop-f.invariant
