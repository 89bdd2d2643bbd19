use Rattle.ct_run.proofs.GeneratedLemmas.{broken_report, whole_report}
use Rattle.ct_run.proofs.generated.write_counts.Goals.{in-Ok, in-Err}
use Rattle.ct_run.proofs.generated.write_counts.Goals as goal

pub returns-clause-counted : goal.returns-clause-counted
returns-clause-counted g c = λ n solved is.
    elim c.match-write_all.branch [
      | in-Ok w ↦ rw (c.without_errors.ensures.status, w.status-is)
          (whole_report n _ _ _ _ _ _ c.without_errors.ensures.responses c.without_errors.ensures.alone solved is (rw c.as_bytes.ensures.value at w.in-Ok.ensures.ok))
      | in-Err w ↦ rw (c.without_errors.ensures.status, w.status-is, w.status_of-status.ensures.value)
          (broken_report w.in-Err.error n _ _ _ _ _ _ c.without_errors.ensures.responses c.without_errors.ensures.alone solved is
          (rw c.as_bytes.ensures.value at w.in-Err.ensures.refused))
    ]
