use Rattle.std.proofs.Common.{◌∙◌, [], Err, sym}
use Rattle.std.proofs.lemmas.Result.{err_from_is_err_and}
use Rattle.std.proofs.lemmas.List.Elements.{All-nil}
use Rattle.ct_sexpr.specs.View.{expression_of}
use Rattle.ct_sorts.specs.Declarations.{Declarations, IsSort}
use Rattle.ct_formulas.specs.TreeFormula.{formula_of}
use Rattle.ct_names.specs.Elaboration.{elaborated}
use Rattle.ct_names.specs.Needs.{ComesTo}
use Rattle.ct_stack.specs.Elaborations.{boolean_formula}
use Rattle.ct_stack.proofs.AssertionLemmas.{not_elaborated, other_sort, boolean, boolean_sorted}
use Rattle.ct_stack.proofs.CauseLemmas.{at_code}
use Rattle.ct_stack.proofs.ErrorLemmas.{same_refusal}
use Rattle.ct_stack.proofs.NeededLemmas.{value_there}
use Rattle.ct_stack.proofs.terms.boolean_formula.Goals as goal

pub returns-in_err-tree-clause-refused : goal.returns-in_err-tree-clause-refused
returns-in_err-tree-clause-refused c =
    let p = err_from_is_err_and c.from_residual.result c.from_residual.ensures.1 in
    rw (p.1, p.2) (λ n e. not_elaborated c.args.otherwise (expression_of c.args.expr.now) c.args.scope.now.sig c.term_of.new.scope.sig n (c.in_err-tree.ensures.refused n (same_refusal _ n e)))

pub returns-then-not-is_sort-clause-refused : goal.returns-then-not-is_sort-clause-refused
returns-then-not-is_sort-clause-refused c =
    let t = expression_of c.args.expr.now in
    let later = c.term_of.new.scope.sig in
    at_code (λ n. ComesTo (λ d. boolean_formula c.args.otherwise d t) c.args.scope.now.sig later (Err n)) c.args.otherwise
    (other_sort c.args.otherwise t c.args.scope.now.sig later (formula_of c.in_ok-tree.tree) c.in_ok-tree.sort c.in_ok-tree.ensures.ok (sym c.is_sort.ensures.value ∙ c.if-not-is_sort.true))

pub returns-clause-ok : goal.returns-clause-ok
returns-clause-ok c =
    boolean c.args.otherwise (expression_of c.args.expr.now) c.args.scope.now.sig c.term_of.new.scope.sig (formula_of c.in_ok-tree.tree) c.in_ok-tree.sort c.in_ok-tree.ensures.ok (sym c.is_sort.ensures.value ∙ c.if-not-is_sort.false)

pub returns-clause-sorted : goal.returns-clause-sorted
returns-clause-sorted c =
    let t = expression_of c.args.expr.now in
    let later = c.term_of.new.scope.sig in
    let formula = formula_of c.in_ok-tree.tree in
    let there = value_there (λ (d : Declarations). elaborated d [] t) c.args.scope.now.sig later (formula, c.in_ok-tree.sort) c.in_ok-tree.ensures.ok in
    boolean_sorted later formula c.in_ok-tree.sort
    (c.elaboration.ensures.sorted later [] t formula c.in_ok-tree.sort c.sorts.ensures.consistent (All-nil (IsSort later)) there) (sym c.is_sort.ensures.value ∙ c.if-not-is_sort.false)
