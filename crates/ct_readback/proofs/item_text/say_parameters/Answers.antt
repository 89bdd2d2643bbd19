use Rattle.std.proofs.Common.{sym, ◌∙◌, get_or, arith}
use Rattle.std.proofs.lemmas.Option.{slice_get-get_or}
use Rattle.ct_sorts.specs.declared.ids.SortId.{SortId}
use Rattle.ct_readback.proofs.FormLemmas.{uncounted, parameter_unsaid}
use Rattle.ct_readback.proofs.item_text.say_parameters.Goals as goal

abbrev zeroth : SortId
zeroth = record { 0 = 0 }

pub returns-then-args-parameters : goal.returns-then-args-parameters
returns-then-args-parameters c = record { value = uncounted c.args.sig.now 0 c.args.args.now c.args.parameters.now (λ same. omega (arith, c.if-args-parameters.true, same)) }

pub returns-then-not-says_parameter : goal.returns-then-not-says_parameter
returns-then-not-says_parameter c =
    let args = c.args.args.now in
    let i = c.loop-index.index in
    record {
      value = parameter_unsaid c.args.sig.now args c.args.parameters.now i (get_or args i zeroth) c.index-parameters-index.result
          (omega (arith, c.loop-index-test.true, c.if-args-parameters.false)) (slice_get-get_or args i zeroth c.loop-index-test.true) c.index-parameters-index.is
          (sym c.says_parameter.ensures.value ∙ c.if-not-says_parameter.true)
          ∙ c.loop-index.invariant;
    }
