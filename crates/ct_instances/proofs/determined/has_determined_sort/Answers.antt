use Rattle.ct_instances.proofs.CtorNameLemmas.{determined_same}
use Rattle.ct_instances.proofs.determined.has_determined_sort.Goals as goal

pub returns : goal.returns
returns c = record { value = determined_same c.args.sig.now c.sorts.ensures.consistent c.args.c c.requires.declared c.determined.result c.determined.ensures.value }
