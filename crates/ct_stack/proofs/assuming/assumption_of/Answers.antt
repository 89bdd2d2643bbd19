use Rattle.std.proofs.lemmas.Result.{err_from_is_err_and}
use Rattle.ct_sexpr.specs.View.{expression_of}
use Rattle.ct_formulas.specs.TreeFormula.{formula_of}
use Rattle.ct_stack.proofs.AssumingLemmas.{no_assumption, an_assumption, assumption_lasts}
use Rattle.ct_stack.proofs.ErrorLemmas.{same_refusal}
use Rattle.ct_stack.proofs.assuming.assumption_of.Goals as goal

pub returns-in_err-tree-clause-refused : goal.returns-in_err-tree-clause-refused
returns-in_err-tree-clause-refused c =
    let p = err_from_is_err_and c.from_residual.result c.from_residual.ensures.1 in
    rw (p.1, p.2) (λ n e. no_assumption (expression_of c.args.expr.now) c.args.scope.now.sig c.boolean_formula.new.scope.sig n (c.in_err-tree.ensures.refused n (same_refusal _ n e)))

pub returns-clause-ok : goal.returns-clause-ok
returns-clause-ok c =
    an_assumption (expression_of c.args.expr.now) c.args.scope.now.sig c.boolean_formula.new.scope.sig (formula_of c.in_ok-tree.tree) c.in_ok-text.text c.in_ok-text.ensures.text c.in_ok-tree.ensures.ok

pub returns-clause-lasts : goal.returns-clause-lasts
returns-clause-lasts c =
    assumption_lasts (expression_of c.args.expr.now) c.args.scope.now.sig c.boolean_formula.new.scope.sig (formula_of c.in_ok-tree.tree) c.in_ok-text.text c.in_ok-text.ensures.text c.in_ok-tree.ensures.ok c.sorts.ensures.consistent
