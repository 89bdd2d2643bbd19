use Rattle.ct_sat.specs.Status.{grows}
use Rattle.ct_sat.proofs.status.examine.Goals as goal

pub returns-in-Forces : goal.returns-in-Forces
returns-in-Forces c = record { examined = grows c.in-Forces.l c.imply.ensures.after c.in-Forces.ensures.status }
