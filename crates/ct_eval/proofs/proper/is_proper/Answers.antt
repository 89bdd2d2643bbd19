use Rattle.std.proofs.Common.{sym, subst}
use Rattle.ct_eval.specs.Interpretation.{HasFunctions, HasSelectors}
use Rattle.ct_eval.proofs.proper.is_proper.Goals as goal

pub returns : goal.returns
returns c =
    let graph = c.args.interp.now.graph in
    record {
      proper = (
        λ yes.
            record {
              graph = record { fits = c.fits.ensures.value.0 c.if-not-fits.false; finite = c.are_finite.ensures.finite.0 c.if-not-are_finite.false };
              functions = subst (HasFunctions c.args.sig.now graph) c.as_slice.ensures.value (c.has_functions.ensures.functions.0 c.if-not-has_functions.false);
              selectors = subst (HasSelectors c.args.sig.now graph) c.as_slice-2.ensures.value (c.has_selectors.ensures.selectors.0 yes);
            },
        λ proper. c.has_selectors.ensures.selectors.1 (subst (HasSelectors c.args.sig.now graph) (sym c.as_slice-2.ensures.value) proper.selectors),
      );
    }
