use Rattle.ct_closure.proofs.FurtherLemmas.{nothing}
use Rattle.ct_closure.proofs.theorems.nothing_closed.Goals as goal

pub returns : goal.returns
returns c = record { nothing = λ d table consistent. nothing d table consistent (c.growth.ensures.itself d) }
