use Rattle.std.proofs.Common.{◌∙◌}
use Rattle.ct_lemmas.proofs.Lists.{slice_get-read}
use Rattle.ct_eval.proofs.TruthLemmas.{truth_of-node}
use Rattle.ct_eval.proofs.assertions.is_true.Goals as goal

pub returns : goal.returns
returns c = record {
  truth = λ d i terms valued.
      c.is_built.ensures.value ∙ truth_of-node c.agreement.ensures.always d i terms c.args.valuation.now c.args.t valued _
      (slice_get-read c.args.valuation.now.nodes c.as_slice.result.now c.as_slice.ensures.value c.args.t.0 _ c.requires.within);
}
