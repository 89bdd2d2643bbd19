-- What a session gave.
use Rattle.ct_step.specs.Evidence.{Evidence, evidence}
use Rattle.ct_script.specs.declared.session.Given.{Given}

-- what is kept of its answers
abbrev pub evidence_in : Given → Evidence
evidence_in given = evidence given.responses.items given.last given.shrunk
