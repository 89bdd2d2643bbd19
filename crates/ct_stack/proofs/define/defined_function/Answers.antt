use Rattle.std.proofs.Common.{◌≡◌, ◌∙◌, ℕ, List, [], map, Some, Ok, Err, All, sym, ap, subst}
use Rattle.std.proofs.lemmas.Result.{err_from_is_err_and}
use Rattle.ct_sexpr.specs.View.{expression_of}
use Rattle.ct_sorts.specs.declared.ids.SortId.{SortId}
use Rattle.ct_sorts.specs.Declarations.{Declarations, IsSort}
use Rattle.ct_formulas.specs.Formula.{bind}
use Rattle.ct_formulas.specs.FormulaSorts.{IsSorted}
use Rattle.ct_formulas.specs.TreeFormula.{formula_of}
use Rattle.ct_names.specs.declared.variables.Param.{Param}
use Rattle.ct_names.specs.Bounds.{parameter_variables}
use Rattle.ct_names.specs.Elaboration.{elaborated}
use Rattle.ct_names.specs.Needs.{ComesTo}
use Rattle.ct_names.specs.Refusals.{repeated_variable, wrong_sort}
use Rattle.ct_names.specs.Sorts.{sort_of}
use Rattle.ct_names.specs.Variables.{variables}
use Rattle.ct_command.specs.Seen.{named_seen}
use Rattle.ct_stack.specs.Elaborations.{defined_function, parameter_names, parameter_sorts}
use Rattle.ct_stack.proofs.CauseLemmas.{at_code}
use Rattle.ct_stack.proofs.DefineLemmas.{function, no_args, no_sort, both_sorts, both_last, repeated, no_function, no_term, other_sort, defined, body_sorted, parameter_sorts_are, params_inside}
use Rattle.ct_stack.proofs.ErrorLemmas.{same_refusal}
use Rattle.ct_stack.proofs.NeededLemmas.{comes_grows, value_there, inside_further}
use Rattle.ct_stack.proofs.SortLemmas.{all_inside}
use Rattle.ct_stack.proofs.define.defined_function.Goals as goal

pub returns-then-has_repeated-clause-refused : goal.returns-then-has_repeated-clause-refused
returns-then-has_repeated-clause-refused c =
    let params = map named_seen c.args.params.now in
    let sort = expression_of c.args.sort.now in
    let t = expression_of c.args.term.now in
    let old = c.args.scope.now.sig in
    λ name. at_code (λ n. ComesTo (λ d. defined_function d name params sort t) old old (Err n)) repeated_variable (repeated name params sort t old (sym c.has_repeated.ensures.value ∙ c.if-has_repeated.true))

pub returns-in_err-args-clause-refused : goal.returns-in_err-args-clause-refused
returns-in_err-args-clause-refused c =
    let params = map named_seen c.args.params.now in
    let sort = expression_of c.args.sort.now in
    let t = expression_of c.args.term.now in
    let old = c.args.scope.now.sig in
    let unrepeated = sym c.has_repeated.ensures.value ∙ c.if-has_repeated.false in
    let p = err_from_is_err_and c.from_residual.result c.from_residual.ensures.1 in
    rw (p.1, p.2)
    (λ name n e. no_function name params sort t old unrepeated c.parameter_sorts.new.scope.sig n (no_args name (parameter_sorts params) sort old c.parameter_sorts.new.scope.sig n (c.in_err-args.ensures.refused n (same_refusal _ n e))))

pub returns-in_err-own-clause-refused : goal.returns-in_err-own-clause-refused
returns-in_err-own-clause-refused c =
    let params = map named_seen c.args.params.now in
    let sort = expression_of c.args.sort.now in
    let t = expression_of c.args.term.now in
    let old = c.args.scope.now.sig in
    let unrepeated = sym c.has_repeated.ensures.value ∙ c.if-has_repeated.false in
    let mid = c.parameter_sorts.new.scope.sig in
    let args = c.in_ok-args.args.items in
    let p = err_from_is_err_and c.from_residual-in_err-own.result c.from_residual-in_err-own.ensures.1 in
    rw (p.1, p.2)
    (λ name n e. no_function name params sort t old unrepeated c.sort_named.new.scope.sig n (no_sort name (parameter_sorts params) sort old mid args c.in_ok-args.ensures.ok c.in_ok-args.ensures.lasts c.sort_named.new.scope.sig n (c.in_err-own.ensures.refused n (same_refusal _ n e))))

pub term_of-requires : goal.term_of-requires
term_of-requires c =
    let later = c.sort_named.new.scope.sig in
    let names = map (λ (name : List ℕ). Some name) (parameter_names (map named_seen c.args.params.now)) in
    let args = c.in_ok-args.args.items in
    let inside = all_inside later c.parameter_sorts.new.scope.sig args c.sort_named.ensures.grown c.in_ok-args.ensures.inside in
    let are = c.in_ok-bound.ensures.variables ∙ ap (λ (ss : List SortId). variables names ss) c.as_slice.ensures.value in
    record { sorts = rw c.as_slice-2.ensures.value (params_inside later c.in_ok-bound.bound.items names args are inside) }

pub returns-in_err-body-clause-refused : goal.returns-in_err-body-clause-refused
returns-in_err-body-clause-refused c =
    let params = map named_seen c.args.params.now in
    let sort = expression_of c.args.sort.now in
    let t = expression_of c.args.term.now in
    let old = c.args.scope.now.sig in
    let unrepeated = sym c.has_repeated.ensures.value ∙ c.if-has_repeated.false in
    let mid = c.parameter_sorts.new.scope.sig in
    let args = c.in_ok-args.args.items in
    let later = c.sort_named.new.scope.sig in
    let own = c.in_ok-own.own in
    let first = λ (name : List ℕ). both_sorts name (parameter_sorts params) sort old mid args c.in_ok-args.ensures.ok c.in_ok-args.ensures.lasts later own c.in_ok-own.ensures.ok in
    let lasts = λ (name : List ℕ). both_last name (parameter_sorts params) sort old mid args c.in_ok-args.ensures.ok c.in_ok-args.ensures.lasts later own c.in_ok-own.ensures.ok c.in_ok-own.ensures.lasts in
    let scope = parameter_variables c.as_slice-2.result.now in
    let is : bind (variables (map (λ name. Some name) (parameter_names params)) args) [] ≡ scope =
    sym (ap parameter_variables c.as_slice-2.ensures.value ∙ c.in_ok-bound.ensures.value ∙ ap (λ (ss : List SortId). bind (variables (map (λ name. Some name) (parameter_names params)) ss) []) c.as_slice.ensures.value) in
    let p = err_from_is_err_and c.from_residual-in_err-body.result c.from_residual-in_err-body.ensures.1 in
    rw (p.1, p.2)
    (λ name n e. no_term name params sort t old unrepeated later (function name args own) (first name) (lasts name) scope is c.term_of.new.scope.sig n (c.in_err-body.ensures.refused n (same_refusal _ n e)))

pub returns-then-not-is_sort-clause-refused : goal.returns-then-not-is_sort-clause-refused
returns-then-not-is_sort-clause-refused c =
    let params = map named_seen c.args.params.now in
    let sort = expression_of c.args.sort.now in
    let t = expression_of c.args.term.now in
    let old = c.args.scope.now.sig in
    let unrepeated = sym c.has_repeated.ensures.value ∙ c.if-has_repeated.false in
    let mid = c.parameter_sorts.new.scope.sig in
    let args = c.in_ok-args.args.items in
    let later = c.sort_named.new.scope.sig in
    let own = c.in_ok-own.own in
    let first = λ (name : List ℕ). both_sorts name (parameter_sorts params) sort old mid args c.in_ok-args.ensures.ok c.in_ok-args.ensures.lasts later own c.in_ok-own.ensures.ok in
    let lasts = λ (name : List ℕ). both_last name (parameter_sorts params) sort old mid args c.in_ok-args.ensures.ok c.in_ok-args.ensures.lasts later own c.in_ok-own.ensures.ok c.in_ok-own.ensures.lasts in
    let scope = parameter_variables c.as_slice-2.result.now in
    let is : bind (variables (map (λ name. Some name) (parameter_names params)) args) [] ≡ scope =
    sym (ap parameter_variables c.as_slice-2.ensures.value ∙ c.in_ok-bound.ensures.value ∙ ap (λ (ss : List SortId). bind (variables (map (λ name. Some name) (parameter_names params)) ss) []) c.as_slice.ensures.value) in
    let last = c.term_of.new.scope.sig in
    let body = formula_of c.in_ok-body.body in
    let found = c.in_ok-body.found in
    λ name. at_code (λ n. ComesTo (λ d. defined_function d name params sort t) old last (Err n)) wrong_sort
    (other_sort name params sort t old unrepeated later (function name args own) (first name) (lasts name) scope is last body found c.in_ok-body.ensures.ok (sym c.is_sort.ensures.value ∙ c.if-not-is_sort.true))

pub returns-clause-ok : goal.returns-clause-ok
returns-clause-ok c =
    let params = map named_seen c.args.params.now in
    let sort = expression_of c.args.sort.now in
    let t = expression_of c.args.term.now in
    let old = c.args.scope.now.sig in
    let unrepeated = sym c.has_repeated.ensures.value ∙ c.if-has_repeated.false in
    let mid = c.parameter_sorts.new.scope.sig in
    let args = c.in_ok-args.args.items in
    let later = c.sort_named.new.scope.sig in
    let own = c.in_ok-own.own in
    let first = λ (name : List ℕ). both_sorts name (parameter_sorts params) sort old mid args c.in_ok-args.ensures.ok c.in_ok-args.ensures.lasts later own c.in_ok-own.ensures.ok in
    let lasts = λ (name : List ℕ). both_last name (parameter_sorts params) sort old mid args c.in_ok-args.ensures.ok c.in_ok-args.ensures.lasts later own c.in_ok-own.ensures.ok c.in_ok-own.ensures.lasts in
    let scope = parameter_variables c.as_slice-2.result.now in
    let is : bind (variables (map (λ name. Some name) (parameter_names params)) args) [] ≡ scope =
    sym (ap parameter_variables c.as_slice-2.ensures.value ∙ c.in_ok-bound.ensures.value ∙ ap (λ (ss : List SortId). bind (variables (map (λ name. Some name) (parameter_names params)) ss) []) c.as_slice.ensures.value) in
    let last = c.term_of.new.scope.sig in
    let body = formula_of c.in_ok-body.body in
    let found = c.in_ok-body.found in
    λ name. defined name params sort t old unrepeated later (function name args own) (first name) (lasts name) scope is last body found c.in_ok-body.ensures.ok (sym c.is_sort.ensures.value ∙ c.if-not-is_sort.false)

pub returns-clause-args : goal.returns-clause-args
returns-clause-args c =
    let inside = all_inside c.sort_named.new.scope.sig c.parameter_sorts.new.scope.sig c.in_ok-args.args.items c.sort_named.ensures.grown c.in_ok-args.ensures.inside in
    all_inside c.term_of.new.scope.sig c.sort_named.new.scope.sig c.in_ok-args.args.items c.term_of.ensures.grown inside

pub returns-clause-sort : goal.returns-clause-sort
returns-clause-sort c =
    inside_further c.term_of.new.scope.sig c.sort_named.new.scope.sig c.in_ok-own.own c.term_of.ensures.grown c.in_ok-own.ensures.inside

pub returns-clause-sorted : goal.returns-clause-sorted
returns-clause-sorted c =
    let params = map named_seen c.args.params.now in
    let sort = expression_of c.args.sort.now in
    let t = expression_of c.args.term.now in
    let old = c.args.scope.now.sig in
    let unrepeated = sym c.has_repeated.ensures.value ∙ c.if-has_repeated.false in
    let mid = c.parameter_sorts.new.scope.sig in
    let args = c.in_ok-args.args.items in
    let later = c.sort_named.new.scope.sig in
    let own = c.in_ok-own.own in
    let first = λ (name : List ℕ). both_sorts name (parameter_sorts params) sort old mid args c.in_ok-args.ensures.ok c.in_ok-args.ensures.lasts later own c.in_ok-own.ensures.ok in
    let lasts = λ (name : List ℕ). both_last name (parameter_sorts params) sort old mid args c.in_ok-args.ensures.ok c.in_ok-args.ensures.lasts later own c.in_ok-own.ensures.ok c.in_ok-own.ensures.lasts in
    let scope = parameter_variables c.as_slice-2.result.now in
    let is : bind (variables (map (λ name. Some name) (parameter_names params)) args) [] ≡ scope =
    sym (ap parameter_variables c.as_slice-2.ensures.value ∙ c.in_ok-bound.ensures.value ∙ ap (λ (ss : List SortId). bind (variables (map (λ name. Some name) (parameter_names params)) ss) []) c.as_slice.ensures.value) in
    let last = c.term_of.new.scope.sig in
    let body = formula_of c.in_ok-body.body in
    let found = c.in_ok-body.found in
    let bound = c.as_slice-2.result.now in
    let inside = all_inside last mid args (c.stack_theorems.ensures.hold.further last later mid c.term_of.ensures.grown c.sort_named.ensures.grown) c.in_ok-args.ensures.inside in
    let names = map (λ (name : List ℕ). Some name) (parameter_names params) in
    let are = c.in_ok-bound.ensures.variables ∙ ap (λ (ss : List SortId). variables names ss) c.as_slice.ensures.value in
    let bound_inside : All (λ (q : Param). IsSort last q.sort) bound = rw c.as_slice-2.ensures.value (params_inside last c.in_ok-bound.bound.items names args are inside) in
    let there = value_there (λ d. elaborated d scope t) later last (body, found) c.in_ok-body.ensures.ok in
    let sorted = c.elaboration.ensures.body last bound t body found c.sorts.ensures.consistent bound_inside there in
    body_sorted [] params sort t old unrepeated later (function [] args own) (first []) (lasts []) scope is last body found c.in_ok-body.ensures.ok
    (c.in_ok-args.ensures.lasts later (comes_grows (λ d. sort_of d sort) mid later (Ok own) c.in_ok-own.ensures.ok))
    (subst (λ (ss : List SortId). IsSorted last ss body found) (sym (parameter_sorts_are bound)) sorted)
    (sym c.is_sort.ensures.value ∙ c.if-not-is_sort.false)

pub returns-in_err-own-clause-grown : goal.returns-in_err-own-clause-grown
returns-in_err-own-clause-grown c =
    c.stack_theorems.ensures.hold.further c.sort_named.new.scope.sig c.parameter_sorts.new.scope.sig c.args.scope.now.sig c.sort_named.ensures.grown c.parameter_sorts.ensures.grown

pub returns-in_err-bound-clause-grown : goal.returns-in_err-bound-clause-grown
returns-in_err-bound-clause-grown c =
    c.stack_theorems.ensures.hold.further c.sort_named.new.scope.sig c.parameter_sorts.new.scope.sig c.args.scope.now.sig c.sort_named.ensures.grown c.parameter_sorts.ensures.grown

pub returns-in_err-body-clause-grown : goal.returns-in_err-body-clause-grown
returns-in_err-body-clause-grown c =
    c.stack_theorems.ensures.hold.further c.term_of.new.scope.sig c.sort_named.new.scope.sig c.args.scope.now.sig c.term_of.ensures.grown (c.stack_theorems.ensures.hold.further c.sort_named.new.scope.sig c.parameter_sorts.new.scope.sig c.args.scope.now.sig c.sort_named.ensures.grown c.parameter_sorts.ensures.grown)

pub returns-then-not-is_sort-clause-grown : goal.returns-then-not-is_sort-clause-grown
returns-then-not-is_sort-clause-grown c =
    c.stack_theorems.ensures.hold.further c.term_of.new.scope.sig c.sort_named.new.scope.sig c.args.scope.now.sig c.term_of.ensures.grown (c.stack_theorems.ensures.hold.further c.sort_named.new.scope.sig c.parameter_sorts.new.scope.sig c.args.scope.now.sig c.sort_named.ensures.grown c.parameter_sorts.ensures.grown)

pub returns-clause-grown : goal.returns-clause-grown
returns-clause-grown c =
    c.stack_theorems.ensures.hold.further c.term_of.new.scope.sig c.sort_named.new.scope.sig c.args.scope.now.sig c.term_of.ensures.grown (c.stack_theorems.ensures.hold.further c.sort_named.new.scope.sig c.parameter_sorts.new.scope.sig c.args.scope.now.sig c.sort_named.ensures.grown c.parameter_sorts.ensures.grown)
