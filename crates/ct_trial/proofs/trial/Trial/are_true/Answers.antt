use Rattle.std.proofs.Common.{◌≡◌, true, subst, arith}
use Rattle.std.proofs.lemmas.List.{take_all}
use Rattle.std.proofs.lemmas.List.Elements.{All-more}
use Rattle.ct_terms.specs.declared.ids.TermId.{TermId}
use Rattle.ct_eval.specs.Truth.{truth_value, Holds}
use Rattle.ct_trial.proofs.trial.Trial.are_true.Goals as goal

pub loop-t-preserved : goal.loop-t-preserved
loop-t-preserved c = λ d table i booleans trial.
    let first : TermId = record { 0 = 0 } in
    All-more (λ (t : TermId). truth_value d i table t ≡ true) c.args.terms.now c.loop-t.t-index first c.loop-t-test.true
    (c.loop-t.invariant d table i booleans trial)
    (c.if-not-is_true.ensures.truth d table i (booleans c.loop-t.t-index first c.loop-t-test.true) trial cc)

pub returns : goal.returns
returns c = record {
  holds = λ d table i booleans trial yes.
      subst (Holds d i table) (take_all c.loop-t.t-index c.args.terms.now (omega arith)) (c.loop-t.invariant d table i booleans trial);
}
