use Rattle.std.proofs.Common.{◌≡◌, ◌+◌, ◌*◌, take, length, None, Ok}
use Rattle.ct_sexpr.specs.Expression.{nesting, nesting_of_each}
use Rattle.ct_sexpr.specs.View.{expression_of, expressions_of}
use Rattle.ct_formulas.specs.TreeFormula.{formulas_of_trees}
use Rattle.ct_names.specs.declared.needs.Needs.TheVariants.{Find}
use Rattle.ct_names.specs.Elaboration.{parts_of, bound_terms, checked_cases}
use Rattle.ct_names.specs.Needs.{Reaches}
use Rattle.ct_check.specs.Expected.{expectation_of, expected_terms, IsExpectation}
use Rattle.ct_check.specs.Trees.{sorted_trees, checked_of}
use Rattle.ct_check.proofs.terms.+terms.Given as goal

-- what nests less comes last; of what nests alike, a list comes before its items, and these before each of them
abbrev pub decreases-term : goal.decreases-term
decreases-term l = 5 * nesting (expression_of l.expr.now)

abbrev pub decreases-list : goal.decreases-list
decreases-list l = 5 * nesting_of_each (expressions_of l.items.now) + 4

abbrev pub decreases-headed : goal.decreases-headed
decreases-headed l = 5 * nesting_of_each (expressions_of l.args.now) + 3

abbrev pub decreases-with_arguments : goal.decreases-with_arguments
decreases-with_arguments l = 5 * nesting_of_each (expressions_of l.args.now) + 2

abbrev pub decreases-annotated : goal.decreases-annotated
decreases-annotated l = 5 * nesting_of_each (expressions_of l.args.now) + 2

abbrev pub decreases-terms : goal.decreases-terms
decreases-terms l = 5 * nesting_of_each (expressions_of l.exprs.now) + 1

abbrev pub decreases-let_form : goal.decreases-let_form
decreases-let_form l = 5 * nesting_of_each (expressions_of l.args.now) + 2

abbrev pub decreases-quantified_form : goal.decreases-quantified_form
decreases-quantified_form l = 5 * nesting_of_each (expressions_of l.args.now) + 2

abbrev pub decreases-under : goal.decreases-under
decreases-under l = 5 * nesting (expression_of l.body.now) + 1

abbrev pub decreases-bound_terms : goal.decreases-bound_terms
decreases-bound_terms l = 5 * nesting_of_each (expressions_of l.bindings.now) + 2

abbrev pub decreases-match_form : goal.decreases-match_form
decreases-match_form l = 5 * nesting_of_each (expressions_of l.args.now) + 2

abbrev pub decreases-checked_cases : goal.decreases-checked_cases
decreases-checked_cases l = 5 * nesting_of_each (expressions_of l.cases.now) + 2

abbrev pub invariant-terms-loop-expr : goal.invariant-terms-loop-expr
invariant-terms-loop-expr l =
    record {
      scope : l.variables ≡ l.fn.variables;
      value : expected_terms l.sig l.fn.variables (expectation_of l.sig l.fn.expected) (parts_of l.sig (expressions_of (take l.expr-index l.exprs))) ≡ Ok (formulas_of_trees l.trees.items, expectation_of l.sig l.met);
      reaches : Reaches (λ d. expected_terms d l.fn.variables (expectation_of d l.fn.expected) (parts_of d (expressions_of (take l.expr-index l.exprs)))) l.fn.sig l.sig;
      met : IsExpectation l.sig l.met;
      kept : l.needs ≡ Find → l.sig ≡ l.fn.sig;
    }

abbrev pub invariant-bound_terms-loop-binding : goal.invariant-bound_terms-loop-binding
invariant-bound_terms-loop-binding l =
    record {
      scope : l.variables ≡ l.fn.variables;
      long : length l.trees.items ≡ length l.sorts.items;
      value : bound_terms l.sig l.fn.variables (parts_of l.sig (expressions_of (take l.binding-index l.bindings))) ≡ Ok (sorted_trees l.trees.items l.sorts.items);
      reaches : Reaches (λ d. bound_terms d l.fn.variables (parts_of d (expressions_of (take l.binding-index l.bindings)))) l.fn.sig l.sig;
      kept : l.needs ≡ Find → l.sig ≡ l.fn.sig;
    }

abbrev pub invariant-checked_cases-loop-case : goal.invariant-checked_cases-loop-case
invariant-checked_cases-loop-case l =
    record {
      scope : l.variables ≡ l.fn.variables;
      value : checked_cases l.sig l.fn.variables l.side None (parts_of l.sig (expressions_of (take l.case-index l.cases))) ≡ Ok (checked_of l.checked);
      reaches : Reaches (λ d. checked_cases d l.fn.variables l.side None (parts_of d (expressions_of (take l.case-index l.cases)))) l.fn.sig l.sig;
      kept : l.needs ≡ Find → l.sig ≡ l.fn.sig;
    }
