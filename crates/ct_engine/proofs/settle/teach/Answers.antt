use Rattle.std.proofs.Common.{List, sym, subst}
use Rattle.ct_lemmas.proofs.Options.{OnOk-map, IfOk-map}
use Rattle.ct_terms.specs.declared.ids.Lit.{Lit}
use Rattle.ct_theory.specs.Consulting.{HaveInCommon}
use Rattle.ct_engine.specs.declared.outcome.Turn.{Turn}
use Rattle.ct_engine.specs.Progress.{IsTurn}
use Rattle.ct_engine.proofs.TaskLemmas.{IsOfOneTask-then}
use Rattle.ct_engine.proofs.TurnLemmas.{IsTurn-since}
use Rattle.ct_engine.proofs.settle.teach.Goals as goal

pub returns-clause-same : goal.returns-clause-same
returns-clause-same c =
    OnOk-map c.learn_from.result _ _ (λ h. IsOfOneTask-then c.args.course.now c.add_conflict.new.course c.learn_from.new.course c.in_ok-number.ensures.same h) c.learn_from.ensures.same

pub returns-clause-learned : goal.returns-clause-learned
returns-clause-learned c =
    let added = c.in_ok-number.ensures in
    IfOk-map c.learn_from.result _ _ (λ turn h theory. IsTurn-since c.args.course.now c.add_conflict.new.course c.learn_from.new.course theory turn added.counted added.decided (h theory)) c.learn_from.ensures.learned

pub returns-clause-asked : goal.returns-clause-asked
returns-clause-asked c =
    let same = c.in_ok-number.ensures.trail in
    OnOk-map c.learn_from.result _ _ (λ keeps theory has. keeps theory (subst (λ (ls : List Lit). HaveInCommon c.args.asked.now.shared theory.hypotheses ls) (sym same) has)) c.learn_from.ensures.asked
