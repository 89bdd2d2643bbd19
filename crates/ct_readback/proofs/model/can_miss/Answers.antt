use Rattle.ct_readback.proofs.DueLemmas.{misses}
use Rattle.ct_readback.proofs.model.can_miss.Goals as goal

pub returns : goal.returns
returns c = record {
  value = misses c.args.sig.now c.args.s.0 c.sel_ctor.result c.ctor_sort-of.result c.ctors.result.now c.requires.declared c.sel_ctor.ensures.value c.ctor_sort-of.ensures.value c.ctors.ensures.value;
}
