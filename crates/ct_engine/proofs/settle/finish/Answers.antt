use Rattle.ct_lemmas.proofs.Options.{OnOk-map}
use Rattle.ct_engine.proofs.settle.finish.Goals as goal

pub returns-in-Conflict-clause-asked : goal.returns-in-Conflict-clause-asked
returns-in-Conflict-clause-asked c =
    OnOk-map c.teach.result _ _ (λ keeps. keeps c.consult.new.theory c.in_ok-order.ensures.asked) c.teach.ensures.asked
