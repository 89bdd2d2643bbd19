use Rattle.std.proofs.Common.{◌≡◌, true, sym, subst, arith}
use Rattle.std.proofs.lemmas.List.{take_all}
use Rattle.std.proofs.lemmas.List.Elements.{All-more}
use Rattle.ct_terms.specs.declared.ids.TermId.{TermId}
use Rattle.ct_eval.specs.Truth.{truth_value, Holds}
use Rattle.ct_eval.proofs.assertions.first_untrue.Goals as goal

pub loop-position-preserved : goal.loop-position-preserved
loop-position-preserved c = λ d i terms valued.
    All-more (λ (t : TermId). truth_value d i terms t ≡ true) c.args.asserts.now c.loop-position.position _ (omega arith)
    (c.loop-position.invariant d i terms valued)
    (sym (c.if-not-is_true.ensures.truth d i terms valued))

pub returns : goal.returns
returns c = record {
  position = λ d i terms valued.
      subst (Holds d i terms) (take_all c.loop-position.position c.args.asserts.now (omega arith)) (c.loop-position.invariant d i terms valued);
}
