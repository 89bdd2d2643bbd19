use Rattle.std.proofs.Common.{nat_lt, sym, ap}
use Rattle.ct_model.proofs.ModelLemmas.{count-parts}
use Rattle.ct_model.proofs.model.can_miss.Goals as goal

pub returns : goal.returns
returns c =
    record { value = ap (nat_lt 1) (sym (count-parts c.args.sig.now c.args.s.0 c.sel_ctor.result c.ctor_sort-of.result c.ctors.result.now c.sel_ctor.ensures.value c.ctor_sort-of.ensures.value c.ctors.ensures.value)) }
