use Rattle.std.proofs.Common.{refl, ◌∙◌, arith}
use Rattle.ct_eval.proofs.ListLemmas.{EachBelow-read, EachBelow-all}
use Rattle.ct_eval.proofs.FittingLemmas.{FitsFunction, function-tested}
use Rattle.ct_eval.proofs.proper.has_functions.Goals as goal

pub loop-f-preserved : goal.loop-f-preserved
loop-f-preserved c =
    let reported =
    function-tested c.args.sig.now c.args.graph.now c.loop-f.f c.fun_args.result.now c.fun_result.result c.index-funs-f.result c.fits_table.result c.fun_args.ensures.value c.fun_result.ensures.value
    c.fits_table.ensures.fits in
    EachBelow-read (FitsFunction c.args.sig.now c.args.graph.now) c.args.funs.now c.args.funs.now c.loop-f.f c.index-funs-f.result refl c.index-funs-f.is c.loop-f.invariant (reported.0 c.if-not-fits_table.false)

pub returns : goal.returns
returns c = record {
  functions = (
    λ e.
        record {
          one_each = c.if-funs-count.false ∙ c.funs-count.ensures.count;
          fit = λ f function table declared at.
              EachBelow-all (FitsFunction c.args.sig.now c.args.graph.now) c.args.funs.now c.loop-f.f (omega (arith, c.if-funs-count.false, c.loop-f-test.false)) c.loop-f.invariant f table at function declared;
        },
    λ h. refl,
  );
}
