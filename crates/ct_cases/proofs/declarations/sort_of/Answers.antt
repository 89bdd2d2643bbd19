use Rattle.std.proofs.Common.{IfOk, sym, subst}
use Rattle.ct_sorts.specs.Declarations.{IsSort}
use Rattle.ct_cases.proofs.GrownLemmas.{of_found}
use Rattle.ct_cases.proofs.declarations.sort_of.Goals as goal

pub returns : goal.returns
returns c = record {
  inside =
      subst (λ r. IfOk r (IsSort c.args.sig.now)) (sym c.ok_or.ensures.value)
      (of_found c.args.sig.now _ c.sorts-sorts.ensures.consistent c.in_ok-find_instance.field-0 _ c.in_ok-find_instance.ensures.found);
}
