use Rattle.std.proofs.Common.{List, length, ap, arith}
use Rattle.ct_eval.specs.declared.interp.Row.{Row}
use Rattle.ct_eval.specs.Interpretation.{FitsRow}
use Rattle.ct_eval.proofs.ListLemmas.{EachBelow-read, EachBelow-all}
use Rattle.ct_eval.proofs.proper.fits_table.Goals as goal

pub loop-r-preserved : goal.loop-r-preserved
loop-r-preserved c =
    EachBelow-read (λ k row. FitsRow c.args.sig.now c.args.graph.now c.args.args.now c.args.sort row) c.args.table.now.rows c.as_slice-rows.result.now c.loop-r.r c.index-rows-r.result
    c.as_slice-rows.ensures.value c.index-rows-r.is c.loop-r.invariant (c.fits_row.ensures.fits.0 c.if-not-fits_row.false)

pub returns : goal.returns
returns c = record {
  fits = (
    λ yes.
        record {
          rows_fit = EachBelow-all (λ k row. FitsRow c.args.sig.now c.args.graph.now c.args.args.now c.args.sort row) c.args.table.now.rows c.loop-r.r (omega (arith, c.loop-r-test.false, ap (λ (rows : List Row). length rows) c.as_slice-rows.ensures.value)) c.loop-r.invariant;
          default_fits = c.has_sort.ensures.value.0 yes;
        },
    λ h. c.has_sort.ensures.value.1 h.default_fits,
  );
}
