use Rattle.ct_closure.specs.ClosedTable.{terms_at}
use Rattle.ct_engine.proofs.OutcomeLemmas.{decisive}
use Rattle.ct_engine.proofs.SpentLemmas.{spent_bound}
use Rattle.ct_engine.proofs.theorems.spent_searches.Goals as goal

pub returns-clause-recorded : goal.returns-clause-recorded
returns-clause-recorded c = λ d terms asserts lines moves budget count roots recorded closure variables.
    spent_bound c.growth.ensures.growth c.trees.ensures.trees d terms asserts lines moves budget recorded roots count closure variables

pub returns-clause-decides : goal.returns-clause-decides
returns-clause-decides c = λ d table asserts budget count v is variables enough. decisive d table asserts budget count (λ spent spending.
    spent_bound c.growth.ensures.growth c.trees.ensures.trees d spent.derivation.rec.terms spent.derivation.asserts spent.derivation.rec.lines spent.moves budget
    spending.recorded (terms_at table asserts) count spending.closure variables) enough v is
