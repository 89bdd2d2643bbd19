use Rattle.ct_terms.proofs.SortingLemmas.{Selects-tested}
use Rattle.ct_terms.proofs.sorting.selects.Goals as goal

pub returns : goal.returns
returns c = record {
  sorted = Selects-tested c.args.sig.now c.args.table.now c.args.s.0 c.args.t c.sel_ctor.result c.ctor_sort.result c.is_of_sort.result c.sel_ctor.ensures.value c.ctor_sort.ensures.value c.is_of_sort.ensures.sorted;
}
