use Rattle.ct_values.specs.Fitting.{HasNodeSort}
use Rattle.ct_values.proofs.FitTestLemmas.{found-tested, nothing-tested}
use Rattle.ct_values.proofs.fitting.has_sort.Goals as goal

pub returns-in-Some : goal.returns-in-Some
returns-in-Some c = record {
  value = found-tested c.sort_of.result c.in-Some.own c.args.sort (HasNodeSort c.args.sig.now c.args.g.now c.args.n c.args.sort) c.eq.result c.in-Some.is c.eq.ensures (c.sort_of.ensures.value c.args.sort);
}

pub returns-in-None : goal.returns-in-None
returns-in-None c = record {
  value = nothing-tested c.sort_of.result c.args.sort (HasNodeSort c.args.sig.now c.args.g.now c.args.n c.args.sort) c.in-None.is (c.sort_of.ensures.value c.args.sort);
}
