use Rattle.ct_terms.proofs.SortingLemmas.{Applies-tested}
use Rattle.ct_terms.proofs.sorting.applies.Goals as goal

pub returns : goal.returns
returns c = record {
  sorted = Applies-tested c.args.sig.now c.args.table.now c.args.f.0 c.args.args.now c.fun_args.result.now c.are_of_sorts.result c.fun_args.ensures.value c.are_of_sorts.ensures.sorted;
}
