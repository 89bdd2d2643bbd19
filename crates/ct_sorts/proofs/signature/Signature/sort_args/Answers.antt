use Rattle.std.proofs.Common.{◌≡◌, List, sym, subst}
use Rattle.std.specs.List.{AllZip}
use Rattle.ct_generics.specs.Expression.{Expression, args_of}
use Rattle.ct_sorts.specs.declared.ids.SortId.{SortId}
use Rattle.ct_sorts.specs.Declarations.{Declarations}
use Rattle.ct_sorts.specs.Instances.{IsOrigin}
use Rattle.ct_sorts.proofs.GetterLemmas.{entry_is}
use Rattle.ct_sorts.proofs.signature.Signature.sort_args.Goals as goal

pub returns : goal.returns
returns c =
    record {
      value = subst (λ (d : Declarations). (e : Expression) → IsOrigin d c.args.s e → AllZip (IsOrigin d) c.as_slice.result.now (args_of e)) c.self.view_is (λ e at.
          let is = entry_is c.self.inside.tables c.self.invariant.tabled c.args.s.0 c.get.result.now e c.get.ensures.value at in
          rw c.as_slice.ensures.value is.args_are);
    }
