use Rattle.std.proofs.Common.{◌≡◌, [], map, Err, sym, ap, subst, ◌∙◌}
use Rattle.std.proofs.lemmas.Result.{err_from_is_err_and}
use Rattle.ct_sexpr.specs.View.{expression_of}
use Rattle.ct_formulas.specs.Formula.{bind}
use Rattle.ct_names.specs.Answer.{StopsAt}
use Rattle.ct_names.specs.Bounds.{variable_of, parameter_variables}
use Rattle.ct_names.specs.Elaboration.{elaborated}
use Rattle.ct_names.specs.Needs.{Reaches}
use Rattle.ct_names.specs.Variables.{ScopeIn}
use Rattle.ct_check.specs.Trees.{sorted_of}
use Rattle.ct_check.proofs.ScopeLemmas.{parameters_inside, sort_inside}
use Rattle.ct_check.proofs.sorting.elaborate_with.Goals as goal

pub term-requires : goal.term-requires
term-requires c =
    let held : c.enter.new.self ≡ parameter_variables c.args.params.now =
    c.in_ok-enter.ensures.bound
    ∙ ap (bind (map variable_of c.as_slice.result.now)) c.new-variables.ensures.none
    ∙ ap (λ bounds. bind (map variable_of bounds) []) c.as_slice.ensures.value
    ∙ ap (λ vs. bind vs []) c.in_ok-bounds.ensures.ok in
    record { variables = subst (ScopeIn c.args.sig.now) (sym held) (parameters_inside c.args.sig.now c.args.params.now c.requires.sorts) }

pub returns-in_err-sorted-clause-value : goal.returns-in_err-sorted-clause-value
returns-in_err-sorted-clause-value c =
    let held : c.enter.new.self ≡ parameter_variables c.args.params.now =
    c.in_ok-enter.ensures.bound
    ∙ ap (bind (map variable_of c.as_slice.result.now)) c.new-variables.ensures.none
    ∙ ap (λ bounds. bind (map variable_of bounds) []) c.as_slice.ensures.value
    ∙ ap (λ vs. bind vs []) c.in_ok-bounds.ensures.ok in
    let later = c.term.new.sig in
    let p = err_from_is_err_and c.from_residual-in_err-sorted.result c.from_residual-in_err-sorted.ensures.1 in
    rw (p.1, p.2) (subst (λ sc. StopsAt c.args.needs later sorted_of (elaborated later sc (expression_of c.args.expr.now)) (Err c.in_err-sorted.field-0.0)) held c.in_err-sorted.ensures.value)

pub returns-in_err-sorted-clause-reaches : goal.returns-in_err-sorted-clause-reaches
returns-in_err-sorted-clause-reaches c =
    let held : c.enter.new.self ≡ parameter_variables c.args.params.now =
    c.in_ok-enter.ensures.bound
    ∙ ap (bind (map variable_of c.as_slice.result.now)) c.new-variables.ensures.none
    ∙ ap (λ bounds. bind (map variable_of bounds) []) c.as_slice.ensures.value
    ∙ ap (λ vs. bind vs []) c.in_ok-bounds.ensures.ok in
    subst (λ sc. Reaches (λ d. elaborated d sc (expression_of c.args.expr.now)) c.args.sig.now c.term.new.sig) held c.in_err-sorted.ensures.reaches

pub returns-clause-value : goal.returns-clause-value
returns-clause-value c =
    let held : c.enter.new.self ≡ parameter_variables c.args.params.now =
    c.in_ok-enter.ensures.bound
    ∙ ap (bind (map variable_of c.as_slice.result.now)) c.new-variables.ensures.none
    ∙ ap (λ bounds. bind (map variable_of bounds) []) c.as_slice.ensures.value
    ∙ ap (λ vs. bind vs []) c.in_ok-bounds.ensures.ok in
    ap (λ sc. elaborated c.term.new.sig sc (expression_of c.args.expr.now)) (sym held) ∙ c.in_ok-sorted.ensures.value

pub returns-clause-inside : goal.returns-clause-inside
returns-clause-inside c =
    let held : c.enter.new.self ≡ parameter_variables c.args.params.now =
    c.in_ok-enter.ensures.bound
    ∙ ap (bind (map variable_of c.as_slice.result.now)) c.new-variables.ensures.none
    ∙ ap (λ bounds. bind (map variable_of bounds) []) c.as_slice.ensures.value
    ∙ ap (λ vs. bind vs []) c.in_ok-bounds.ensures.ok in
    let e = expression_of c.args.expr.now in
    let scope = parameter_variables c.args.params.now in
    let old = c.args.sig.now in
    let later = c.term.new.sig in
    sort_inside old later scope e (sorted_of c.in_ok-sorted.sorted) c.sorts.ensures.consistent c.sorts-2.ensures.consistent (parameters_inside old c.args.params.now c.requires.sorts)
    (subst (λ sc. Reaches (λ d. elaborated d sc e) old later) held c.in_ok-sorted.ensures.reaches)
    (ap (λ sc. elaborated later sc e) (sym held) ∙ c.in_ok-sorted.ensures.value)

pub returns-clause-reaches : goal.returns-clause-reaches
returns-clause-reaches c =
    let held : c.enter.new.self ≡ parameter_variables c.args.params.now =
    c.in_ok-enter.ensures.bound
    ∙ ap (bind (map variable_of c.as_slice.result.now)) c.new-variables.ensures.none
    ∙ ap (λ bounds. bind (map variable_of bounds) []) c.as_slice.ensures.value
    ∙ ap (λ vs. bind vs []) c.in_ok-bounds.ensures.ok in
    subst (λ sc. Reaches (λ d. elaborated d sc (expression_of c.args.expr.now)) c.args.sig.now c.term.new.sig) held c.in_ok-sorted.ensures.reaches
