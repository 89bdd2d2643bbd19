use Rattle.std.proofs.Common.{◌≡◌, ◌+◌, List, length, Ok, Err, sym, ap, subst, ◌∙◌, arith}
use Rattle.std.proofs.lemmas.Result.{err_from_is_err_and}
use Rattle.ct_sexpr.specs.View.{expression_of, expressions_of}
use Rattle.ct_values.specs.Graph.{Nodes}
use Rattle.ct_eval.specs.declared.interp.Table.{Table}
use Rattle.ct_eval.specs.Interpretation.{IsProper}
use Rattle.ct_model.specs.ModelText.{off_numbers}
use Rattle.ct_readback.specs.declared.error.BackError.{BackError}
use Rattle.ct_readback.specs.declared.error.BackError.TheVariants.{Form}
use Rattle.ct_readback.specs.ModelReads.{items_of, departs, IsFirstRefused, ModelReads}
use Rattle.ct_readback.proofs.GrowthLemmas.{empty_formed, functions_begins}
use Rattle.ct_readback.proofs.OutcomeLemmas.{form_parts, one_error, items_length, no_list, list_read, list_refused}
use Rattle.ct_readback.proofs.WholeLemmas.{whole_proper, whole_model}
use Rattle.ct_readback.proofs.RefusedLemmas.{one_too_many, enough}
use Rattle.ct_readback.proofs.model.read_model.Goals as goal

pub returns-in_default-clause-refused : goal.returns-in_default-clause-refused
returns-in_default-clause-refused c = λ at code is.
    let d = c.args.sig.now in
    let sizes = c.args.sizes.now in
    let e = expression_of c.args.expr.now in
    let parts = form_parts 0 departs at code is in
    subst (λ k. ModelReads d sizes e (Err (k, code))) (sym parts.0) (subst (λ k. ModelReads d sizes e (Err (0, k))) (sym parts.1) (no_list d sizes e c.in_default.ensures.value))

pub read_functions-requires : goal.read_functions-requires
read_functions-requires c = record { well_formed = empty_formed c.args.sig.now c.new-graph.result c.new-graph.ensures.empty }

pub returns-in_err-funs-clause-refused : goal.returns-in_err-funs-clause-refused
returns-in_err-funs-clause-refused c = λ at code is.
    let p = err_from_is_err_and c.from_residual.result c.from_residual.ensures.1 in
    list_refused c.args.sig.now c.args.sizes.now (expression_of c.args.expr.now) (expressions_of c.in-Some.items.now) at code c.in-Some.ensures.value
    (c.in_err-funs.ensures.refused at code (ap (λ (e : BackError). Err e) (sym p.2 ∙ one_error c.from_residual.result p.0 (Form at code) p.1 is)))

pub returns-in_err-offs-clause-refused : goal.returns-in_err-offs-clause-refused
returns-in_err-offs-clause-refused c = λ at code is.
    let p = err_from_is_err_and c.from_residual-in_err-offs.result c.from_residual-in_err-offs.ensures.1 in
    list_refused c.args.sig.now c.args.sizes.now (expression_of c.args.expr.now) (expressions_of c.in-Some.items.now) at code c.in-Some.ensures.value
    (c.in_err-offs.ensures.refused at code (ap (λ (e : BackError). Err e) (sym p.2 ∙ one_error c.from_residual-in_err-offs.result p.0 (Form at code) p.1 is)))

pub returns-then-count-items-clause-refused : goal.returns-then-count-items-clause-refused
returns-then-count-items-clause-refused c = λ at code is.
    let d = c.args.sig.now in
    let sizes = c.args.sizes.now in
    let e = expression_of c.args.expr.now in
    let es = expressions_of c.in-Some.items.now in
    let items = items_of es in
    let g = c.read_selectors.new.graph in
    let funs = c.in_ok-funs.funs.items in
    let place = c.in_ok-offs.ensures.place in
    let parts = form_parts c.in_ok-offs.count departs at code is in
    let functions = functions_begins d c.read_functions.new.graph g c.in_ok-funs.ensures.well_formed c.in_ok-offs.ensures.grown items (length d.functions) funs c.in_ok-funs.ensures.read in
    let refused = one_too_many d sizes g items funs c.in_ok-offs.offs.items functions c.in_ok-offs.ensures.read (omega (arith, place, c.if-count-items.true, items_length c.in-Some.items.now)) in
    list_refused d sizes e es at code c.in-Some.ensures.value
    (subst (λ n. IsFirstRefused d items n code) (sym (parts.0 ∙ place)) (subst (λ n. IsFirstRefused d items (length d.functions + length (off_numbers d)) n) (sym parts.1) refused))

pub returns-clause-read : goal.returns-clause-read
returns-clause-read c =
    let d = c.args.sig.now in
    let sizes = c.args.sizes.now in
    let e = expression_of c.args.expr.now in
    let es = expressions_of c.in-Some.items.now in
    let items = items_of es in
    let g = c.read_selectors.new.graph in
    let funs = c.in_ok-funs.funs.items in
    let offs = c.in_ok-offs.offs.items in
    let place = c.in_ok-offs.ensures.place in
    let functions = functions_begins d c.read_functions.new.graph g c.in_ok-funs.ensures.well_formed c.in_ok-offs.ensures.grown items (length d.functions) funs c.in_ok-funs.ensures.read in
    let count : length items ≡ length d.functions + length (off_numbers d) =
    omega (arith, place, c.if-count-items.false, items_length c.in-Some.items.now, enough d sizes g items funs offs functions c.in_ok-offs.ensures.read) in
    subst (λ (k : Nodes). ModelReads d sizes e (Ok (record { graph = k; funs = c.new.result; offs = c.new-2.result }))) (sym c.into_graph.ensures.value)
    (subst (λ (xs : List Table). ModelReads d sizes e (Ok (record { graph = g; funs = xs; offs = c.new-2.result }))) (sym c.new.ensures.value)
    (subst (λ (xs : List Table). ModelReads d sizes e (Ok (record { graph = g; funs = funs; offs = xs }))) (sym c.new-2.ensures.value)
    (list_read d sizes e es (record { graph = g; funs = funs; offs = offs }) c.in-Some.ensures.value
    (whole_model d sizes g items funs offs c.in_ok-offs.ensures.well_formed functions c.in_ok-offs.ensures.read count))))

pub returns-clause-proper : goal.returns-clause-proper
returns-clause-proper c =
    let d = c.args.sig.now in
    let sizes = c.args.sizes.now in
    let items = items_of (expressions_of c.in-Some.items.now) in
    let g = c.read_selectors.new.graph in
    let funs = c.in_ok-funs.funs.items in
    let offs = c.in_ok-offs.offs.items in
    let functions = functions_begins d c.read_functions.new.graph g c.in_ok-funs.ensures.well_formed c.in_ok-offs.ensures.grown items (length d.functions) funs c.in_ok-funs.ensures.read in
    subst (λ (k : Nodes). IsProper d (record { graph = k; funs = c.new.result; offs = c.new-2.result })) (sym c.into_graph.ensures.value)
    (subst (λ (xs : List Table). IsProper d (record { graph = g; funs = xs; offs = c.new-2.result })) (sym c.new.ensures.value)
    (subst (λ (xs : List Table). IsProper d (record { graph = g; funs = funs; offs = xs })) (sym c.new-2.ensures.value)
    (whole_proper d sizes g items funs offs c.in_ok-offs.ensures.well_formed functions c.in_ok-offs.ensures.read)))
