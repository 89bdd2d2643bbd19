use Rattle.std.proofs.Common.{◌≡◌, ◌+◌, List, length, sym, ap, subst, ◌∙◌, Err, arith}
use Rattle.std.proofs.lemmas.Result.{err_from_is_err_and}
use Rattle.ct_sorts.proofs.PieceLemmas.{Begins-self, Begins-trans}
use Rattle.ct_sexpr.specs.View.{expressions_of}
use Rattle.ct_eval.specs.declared.interp.Table.{Table}
use Rattle.ct_readback.specs.declared.error.BackError.{BackError}
use Rattle.ct_readback.specs.declared.error.BackError.TheVariants.{Form}
use Rattle.ct_readback.proofs.OutcomeLemmas.{one_error}
use Rattle.ct_readback.specs.ModelReads.{items_of, IsFirstRefused}
use Rattle.ct_readback.specs.Progress.{AreFunctions}
use Rattle.ct_readback.proofs.GrowthLemmas.{functions_step}
use Rattle.ct_readback.proofs.ModelLemmas.{functions_start, functions_refused}
use Rattle.ct_readback.proofs.model.read_functions.Goals as goal

pub loop-f-init : goal.loop-f-init
loop-f-init c =
    let d = c.args.sig.now in
    let g = c.args.graph.now in
    let items = items_of (expressions_of c.args.items.now) in
    (Begins-self g, c.requires.well_formed, subst (λ (tables : List Table). AreFunctions d g items 0 tables) (sym c.new-tables.ensures.items) (functions_start d g items))

pub returns-in_err-read_function-clause-refused : goal.returns-in_err-read_function-clause-refused
returns-in_err-read_function-clause-refused c = λ at code is.
    let d = c.args.sig.now in
    let items = items_of (expressions_of c.args.items.now) in
    let p = err_from_is_err_and c.from_residual.result c.from_residual.ensures.1 in
    let refused = c.in_err-read_function.ensures.refused at code (ap (λ (e : BackError). Err e) (sym p.2 ∙ one_error c.from_residual.result p.0 (Form at code) p.1 is)) in
    subst (λ n. IsFirstRefused d items n code) (sym refused.0)
    (functions_refused d c.loop-f.graph items c.loop-f.f c.loop-f.tables.items code c.loop-f.invariant.2 (omega (arith, c.loop-f-test.true, c.funs-f-end.ensures.count)) refused.1)

pub loop-f-preserved : goal.loop-f-preserved
loop-f-preserved c =
    let d = c.args.sig.now in
    let items = items_of (expressions_of c.args.items.now) in
    let g = c.loop-f.graph in
    let new = c.read_function.new.graph in (
      Begins-trans c.args.graph.now g new c.loop-f.invariant.0 c.in_ok-read_function.ensures.grown,
      c.in_ok-read_function.ensures.well_formed,
      subst (λ (tables : List Table). AreFunctions d new items (c.loop-f.f + 1) tables) (sym c.in_ok-push.ensures.items)
          (functions_step d g new c.loop-f.invariant.1 c.in_ok-read_function.ensures.grown items c.loop-f.f c.loop-f.tables.items c.in_ok-read_function.field-0 c.loop-f.invariant.2 c.in_ok-read_function.ensures.read),
    )

pub returns-clause-read : goal.returns-clause-read
returns-clause-read c =
    let d = c.args.sig.now in
    let e : c.loop-f.f ≡ length d.functions = omega (arith, c.loop-f-test.false, c.funs-f-end.ensures.count) in
    subst (λ n. AreFunctions d c.loop-f.graph (items_of (expressions_of c.args.items.now)) n c.loop-f.tables.items) e c.loop-f.invariant.2
