use Rattle.std.proofs.Common.{◌≡◌, ◌<◌, ◌*◌, take, slice_get, Some, sym, ap, subst, ◌∙◌, arith}
use Rattle.std.specs.List.{Contains}
use Rattle.std.proofs.lemmas.List.{take_more}
use Rattle.std.proofs.lemmas.Option.{slice_get-get_or}
use Rattle.ct_lemmas.proofs.Contained.{Contains-from_slice_get}
use Rattle.ct_log.specs.declared.rules.EqStep.{EqStep}
use Rattle.ct_log.specs.declared.rules.EqStep.TheVariants.{Hyp}
use Rattle.ct_theory.specs.Steps.{stamp_index}
use Rattle.ct_theory.proofs.ClauseLemmas.{stamp_index-within}
use Rattle.ct_theory.proofs.clause.clause_of.Goals as goal

pub put_named-requires-clause-inside : goal.put_named-requires-clause-inside
put_named-requires-clause-inside c = λ l e.
    let steps = c.args.steps.now in
    let index = c.loop-step.step-index in
    let at : slice_get steps index ≡ Some c.step-item.result = slice_get-get_or steps index c.step-item.result c.loop-step-test.true ∙ ap Some (sym c.step-item.is) in
    let named : Contains steps (Hyp l) = Contains-from_slice_get steps index (Hyp l) (subst (λ (s : EqStep). slice_get steps index ≡ Some s) e at) in
    let within : stamp_index l < c.args.terms * 2 = stamp_index-within l c.args.terms (c.requires.inside l named) in
    omega (arith, within, c.loop-step.invariant.long)

pub put_named-requires-clause-stamped : goal.put_named-requires-clause-stamped
put_named-requires-clause-stamped c = c.loop-step.invariant.stamped

pub loop-step-preserved : goal.loop-step-preserved
loop-step-preserved c =
    let steps = c.args.steps.now in
    let index = c.loop-step.step-index in
    record {
      long = c.in_ok-put_named.ensures.long ∙ c.loop-step.invariant.long;
      stamped = c.in_ok-put_named.ensures.stamped;
      is = rw (take_more steps index c.step-item.result c.loop-step-test.true, ← c.step-item.is) (c.in_ok-put_named.ensures.clause (take index steps) c.loop-step.invariant.is);
    }
