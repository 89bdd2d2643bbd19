use Rattle.ct_lemmas.proofs.Options.{OnOk-map}
use Rattle.ct_engine.proofs.TaskLemmas.{IsOfOneClosure-then}
use Rattle.ct_engine.proofs.stages.go_on.Goals as goal

pub returns-in-None-clause-same : goal.returns-in-None-clause-same
returns-in-None-clause-same c =
    OnOk-map c.record_anew.result _ _ (λ h. IsOfOneClosure-then c.args.course.now c.pursue.new.course c.record_anew.new.course c.in_ok-found-in-Spent.ensures.same h) c.record_anew.ensures.same
