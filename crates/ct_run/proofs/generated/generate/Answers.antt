use Rattle.ct_run.specs.Kept.{kept_in}
use Rattle.ct_run.proofs.GeneratedLemmas.{stopped_report}
use Rattle.ct_run.proofs.generated.generate.Goals as goal

pub returns-in-Err-clause-counted : goal.returns-in-Err-clause-counted
returns-in-Err-clause-counted g c =
    let report = c.without_errors.ensures in
    stopped_report c.args.n c.without_errors.result.status (kept_in c.without_errors.result) c.in-Err.responses.items c.without_errors.result.errors.items _
    report.status report.responses report.alone c.in-Err.ensures.stopped
