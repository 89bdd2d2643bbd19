use Rattle.ct_eval.proofs.FittingLemmas.{IsData-tested, IsData-nothing}
use Rattle.ct_readback.proofs.placing.is_data.Goals as goal

pub returns-in-Some : goal.returns-in-Some
returns-in-Some c = record {
  datatype = IsData-tested c.args.sig.now c.args.h.now c.args.n c.sort_of.result c.in-Some.sort c.is_data_sort.result c.in-Some.is c.sort_of.ensures.value c.is_data_sort.ensures.datatype;
}

pub returns-in-None : goal.returns-in-None
returns-in-None c = record {
  datatype = IsData-nothing c.args.sig.now c.args.h.now c.args.n c.sort_of.result c.in-None.is c.sort_of.ensures.value;
}
