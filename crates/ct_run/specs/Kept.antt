-- What a report keeps of the answers.
use Rattle.ct_step.specs.Evidence.{Evidence, evidence}
use Rattle.ct_run.specs.declared.report.Report.{Report}

-- the answers of its checks, its last verdict, and its last core that was shrunk
abbrev pub kept_in : Report → Evidence
kept_in report = evidence report.responses.items report.last report.shrunk
