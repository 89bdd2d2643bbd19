use Rattle.std.proofs.Common.{◌≡◌, ◌∙◌, Some, slice_get, sym, ap}
use Rattle.std.proofs.lemmas.Option.{slice_get-get_or}
use Rattle.ct_lemmas.proofs.Options.{IfOk-map}
use Rattle.ct_terms.specs.declared.ids.TermId.{TermId}
use Rattle.ct_restriction.proofs.AgreeLemmas.{next_equal, numbers_more}
use Rattle.ct_restriction.proofs.agreeing.is_next_equal.Goals as goal

pub returns : goal.returns
returns c =
    let from = c.args.from.now in
    let to = c.args.to.now in
    let numbers = c.args.numbers.now in
    let index = c.args.index in
    let number = c.number_in-number.result in
    let at : slice_get numbers index ≡ Some number =
    slice_get-get_or numbers index (record { 0 = index }) c.requires.listed ∙ ap (λ (u : TermId). Some u) (sym c.number_in-number.ensures.value) in
    record {
      equal = IfOk-map c.is_renamed.result _ _
          (λ is same yes.
          numbers_more from to c.len-terms.ensures.ordered c.len-others.ensures.ordered numbers index c.requires.before c.requires.listed number at
          (next_equal from to c.len-terms.ensures.ordered c.len-others.ensures.ordered numbers index c.requires.before c.requires.listed c.core.result.now c.core-2.result.now number c.core.ensures.value c.core-2.ensures.value (same yes)))
          c.is_renamed.ensures.renamed;
    }
