use Rattle.ct_terms.proofs.SortingLemmas.{Constructs-tested}
use Rattle.ct_terms.proofs.sorting.constructs.Goals as goal

pub returns : goal.returns
returns c = record {
  sorted = Constructs-tested c.args.sig.now c.args.table.now c.args.c.0 c.args.args.now c.ctor_sels.result.now c.are_of_fields.result c.ctor_sels.ensures.value c.are_of_fields.ensures.sorted;
}
