use Rattle.ct_sexpr.specs.View.{expression_of}
use Rattle.ct_formulas.specs.TreeFormula.{formula_of}
use Rattle.ct_names.specs.Bounds.{parameter_variables}
use Rattle.ct_names.specs.Elaboration.{elaborated}
use Rattle.ct_names.specs.Refusals.{out_of_scope}
use Rattle.test_checking.proofs.ThereLemmas.{there}
use Rattle.test_checking.proofs.elaborate.term_there.Goals as goal

pub returns-in-Ok : goal.returns-in-Ok
returns-in-Ok c =
    let d = c.args.scope.now.sig in
    let params = c.args.params.now in
    let e = expression_of c.args.expr.now in
    let found = c.in-Ok.found in
    let means = there out_of_scope (elaborated d (parameter_variables params) e) (formula_of found.0, found.1) c.in-Ok.ensures.ok in
    record { sorted = c.elaboration.ensures.body d params e (formula_of found.0) found.1 c.sorts.ensures.consistent c.requires.inside means }
