use Rattle.std.proofs.Common.{sym}
use Rattle.ct_gen.specs.Script.{script}
use Rattle.ct_run.specs.Kept.{kept_in}
use Rattle.ct_run.proofs.GeneratedLemmas.{solved, stopped}
use Rattle.ct_run.proofs.generated.solve_generated.Goals as goal

pub returns-then-is_done-clause-solved : goal.returns-then-is_done-clause-solved
returns-then-is_done-clause-solved c =
    let r = c.answer_script-status.result in
    solved c.args.n r.status (kept_in r) r.errors.items _ _ (c.answer_script-status.ensures.solved (script c.args.n) c.in-Ok.ensures.fed)
    (sym c.if-is_done.ensures.value)

pub returns-clause-stopped : goal.returns-clause-stopped
returns-clause-stopped c =
    let r = c.answer_script-status.result in
    stopped c.args.n r.status (kept_in r) r.errors.items _ _ (c.answer_script-status.ensures.solved (script c.args.n) c.in-Ok.ensures.fed) c.answer_script-status.ensures.input c.requires.few
