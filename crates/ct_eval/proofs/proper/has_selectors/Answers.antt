use Rattle.std.proofs.Common.{refl, ap, ◌∙◌, arith}
use Rattle.ct_sorts.specs.declared.mark.Mark.{Mark}
use Rattle.ct_eval.proofs.ListLemmas.{EachBelow-read, EachBelow-all}
use Rattle.ct_eval.proofs.FittingLemmas.{FitsSelector, selector-tested}
use Rattle.ct_eval.proofs.proper.has_selectors.Goals as goal

pub loop-s-preserved : goal.loop-s-preserved
loop-s-preserved c =
    let reported =
    selector-tested c.args.sig.now c.args.graph.now c.loop-s.s c.sel_ctor.result c.ctor_sort-of.result c.sel_sort.result c.index-offs-s.result c.fits_table.result c.sel_ctor.ensures.value
    c.ctor_sort-of.ensures.value c.sel_sort.ensures.value c.fits_table.ensures.fits in
    EachBelow-read (FitsSelector c.args.sig.now c.args.graph.now) c.args.offs.now c.args.offs.now c.loop-s.s c.index-offs-s.result refl c.index-offs-s.is c.loop-s.invariant (reported.0 c.if-not-fits_table.false)

pub returns : goal.returns
returns c = record {
  selectors = (
    λ e.
        record {
          one_each = c.if-offs-count.false ∙ c.sels-count.ensures.value ∙ ap (λ (m : Mark). m.sels) c.mark.ensures.lengths;
          fit = λ s selector ctor table declared own at.
              EachBelow-all (FitsSelector c.args.sig.now c.args.graph.now) c.args.offs.now c.loop-s.s (omega (arith, c.if-offs-count.false, c.loop-s-test.false)) c.loop-s.invariant s table at selector ctor declared own;
        },
    λ h. refl,
  );
}
