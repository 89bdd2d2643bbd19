use Rattle.ct_run.proofs.RunLemmas.{Tells-broke}
use Rattle.ct_run.proofs.top.tell.Goals.{in-Ok, in-Err}
use Rattle.ct_run.proofs.top.tell.Goals as goal

pub returns-clause-reported : goal.returns-clause-reported
returns-clause-reported g c =
    elim c.match-write_all.branch [
      | in-Ok w ↦ rw (c.unanswered.ensures.status, w.status-is)
          (c.unanswered.ensures.kept, c.unanswered.ensures.errors, rw c.as_bytes.ensures.value at w.in-Ok.ensures.ok)
      | in-Err w ↦ rw (c.unanswered.ensures.status, w.status-is, w.status_of-status.ensures.value)
          (Tells-broke c.args.line.now w.in-Err.error _ _ _ _ c.unanswered.ensures.kept c.unanswered.ensures.errors (rw c.as_bytes.ensures.value at w.in-Err.ensures.refused))
    ]
