use Rattle.std.proofs.Common.{◌≡◌, ◌∙◌, Some, slice_get, sym, ap}
use Rattle.std.proofs.lemmas.Option.{slice_get-get_or}
use Rattle.ct_sorts.specs.declared.ids.SortId.{SortId}
use Rattle.ct_terms.specs.declared.term.Core.{Core}
use Rattle.ct_trial.proofs.LastModelLemmas.{same_next, term_there}
use Rattle.ct_trial.proofs.stored.is_next.Goals as goal

pub returns : goal.returns
returns c = record {
  same = λ yes so_far.
      let terms = c.args.terms.now in
      let table = c.args.table.now in
      let x : Core × SortId = (c.core-core.result.now, c.sort-sort.result) in
      let here : slice_get terms c.args.count ≡ Some x =
      slice_get-get_or terms c.args.count c.index-terms-count.result c.requires.listed ∙ ap (λ (y : Core × SortId). Some y) (sym c.index-terms-count.is ∙ c.is_term.ensures.same yes)
      in
      same_next terms table c.args.count x so_far here (term_there table (record { 0 = c.args.count }) c.core-core.result.now c.sort-sort.result c.core-core.ensures.value c.sort-sort.ensures.value);
}
