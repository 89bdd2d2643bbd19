use Rattle.std.proofs.Common.{sym, subst, ◌∙◌}
use Rattle.std.proofs.lemmas.Option.{same_Some}
use Rattle.ct_values.specs.Fitting.{IsBuilt}
use Rattle.ct_values.proofs.FitTestLemmas.{FitsNode-tested}
use Rattle.ct_values.proofs.fitting.fits_node.Goals as goal

pub returns-in-Con : goal.returns-in-Con
returns-in-Con c =
    let reported = c.is_built.ensures.value in
    record {
      value = FitsNode-tested c.args.sig.now c.args.g.now c.args.n.0 _ c.is_built.result c.in-Con.ensures.value (λ children at.
          let one = same_Some c.children.result.now children (sym c.children.ensures.value ∙ at) in (
            λ holds. subst (IsBuilt c.args.sig.now c.args.g.now c.in-Con.c.0) one (reported.0 holds),
            λ h. reported.1 (subst (IsBuilt c.args.sig.now c.args.g.now c.in-Con.c.0) (sym one) h),
          ));
    }

pub returns-in-Elem : goal.returns-in-Elem
returns-in-Elem c = record {
  value = FitsNode-tested c.args.sig.now c.args.g.now c.args.n.0 _ c.is_element.result c.in-Elem.ensures.value (λ children at. c.is_element.ensures.value);
}
