use Rattle.std.proofs.Common.{◌≡◌, ℕ, List, map, Option, Vec, Global, refl, sym, ◌∙◌, ap, subst}
use Rattle.std.proofs.lemmas.Result.{err_from_is_err_and}
use Rattle.std.specs.Borrow.{Bor}
use Rattle.ct_sexpr.specs.View.{expression_of, expressions_of}
use Rattle.ct_sorts.specs.declared.ids.SortId.{SortId}
use Rattle.ct_formulas.specs.Formula.{bind}
use Rattle.ct_names.specs.Bounds.{variable_of, held_name}
use Rattle.ct_names.specs.Needs.{as_they_are}
use Rattle.ct_names.specs.Outcome.{and_then}
use Rattle.ct_names.specs.Variables.{Variable, ScopeIn, variables}
use Rattle.ct_names.specs.Elaboration.{part_of, parts_of, elaborated}
use Rattle.ct_names.proofs.NeedLemmas.{grows_itself}
use Rattle.ct_names.proofs.StayLemmas.{ScopeIn-variables}
use Rattle.ct_names.proofs.StayListable.{variable_sorts_there}
use Rattle.ct_check.specs.Binders.{with_names}
use Rattle.ct_check.specs.Quantifiers.{few_listable_sorts, quantified_with, quantified_of_names}
use Rattle.ct_check.proofs.FormSteps.{quantified-list}
use Rattle.ct_check.proofs.OtherForms.{quantified-leaf}
use Rattle.ct_check.proofs.QuantifierLemmas.{with_list, with_body, quantified-names, leads_before, leads_stop, few_stays, variables_reach, variables_stop, variables_met}
use Rattle.ct_check.proofs.quantifiers.quantified_variables.Goals as goal

pub returns-in_default : goal.returns-in_default
returns-in_default c =
    let d = c.args.sig.now in
    record {
      value = λ scope q body. quantified-leaf d scope q c.args.list.now (part_of d body) c.in_default.not-List;
      reaches = λ scope q body. as_they_are d;
      kept = λ e. refl;
      grown = (grows_itself d).extends;
      inside = tt;
    }

pub returns-in_err-names-clause-value : goal.returns-in_err-names-clause-value
returns-in_err-names-clause-value c = λ scope q body.
    let n = c.args.sig.now in
    let p = err_from_is_err_and c.from_residual.result c.from_residual.ensures.1 in
    rw (p.1, p.2) (leads_before c.args.needs n (with_list scope q c.args.list.now body) (with_names (parts_of n (expressions_of c.as_slice-bindings.result.now)) (λ names. quantified_of_names n scope q names (parts_of n (expressions_of c.as_slice-bindings.result.now)) (part_of n body))) (λ m r. with_body scope q body r m) (λ (found : Vec (Option (Bor (List ℕ))) Global). quantified_of_names n scope q (map held_name found.items) (parts_of n (expressions_of c.as_slice-bindings.result.now)) (part_of n body)) _
    (quantified-list n scope q c.args.list.now (part_of n body) c.in-List.bindings c.as_slice-bindings.result.now c.in-List.is c.as_slice-bindings.ensures.value ∙ quantified-names n scope q (parts_of n (expressions_of c.as_slice-bindings.result.now)) (part_of n body))
    (c.in_err-names.ensures.value c.args.needs n (λ names. quantified_of_names n scope q names (parts_of n (expressions_of c.as_slice-bindings.result.now)) (part_of n body))))

pub returns-in_err-names-clause-reaches : goal.returns-in_err-names-clause-reaches
returns-in_err-names-clause-reaches c = λ scope q body. as_they_are c.args.sig.now

pub returns-in_err-names-clause-grown : goal.returns-in_err-names-clause-grown
returns-in_err-names-clause-grown c = (grows_itself c.args.sig.now).extends

pub returns-in_err-sorts-clause-value : goal.returns-in_err-sorts-clause-value
returns-in_err-sorts-clause-value c = λ scope q body.
    let d = c.few_listable_sorts.new.sig in
    let p = err_from_is_err_and c.from_residual-in_err-sorts.result c.from_residual-in_err-sorts.ensures.1 in
    rw (p.1, p.2) (leads_stop c.args.needs d (with_list scope q c.args.list.now body) (few_listable_sorts d (parts_of d (expressions_of c.as_slice-bindings.result.now))) (λ m r. with_body scope q body r m) (λ (found : Vec SortId Global). found.items) _
    (λ h e. variables_stop (with_list scope q c.args.list.now body) scope q c.as_slice-bindings.result.now body (map held_name c.in_ok-names.names.items)
    (λ n. quantified-list n scope q c.args.list.now (part_of n body) c.in-List.bindings c.as_slice-bindings.result.now c.in-List.is c.as_slice-bindings.ensures.value ∙ quantified-names n scope q (parts_of n (expressions_of c.as_slice-bindings.result.now)) (part_of n body) ∙ c.in_ok-names.ensures.value c.args.needs n (λ names. quantified_of_names n scope q names (parts_of n (expressions_of c.as_slice-bindings.result.now)) (part_of n body)))
    c.args.sig.now c.few_listable_sorts.new.sig c.in_err-sorts.ensures.reaches h e)
    c.in_err-sorts.ensures.value)

pub returns-in_err-sorts-clause-reaches : goal.returns-in_err-sorts-clause-reaches
returns-in_err-sorts-clause-reaches c = λ scope q body.
    variables_reach (with_list scope q c.args.list.now body) scope q c.as_slice-bindings.result.now body (map held_name c.in_ok-names.names.items)
    (λ n. quantified-list n scope q c.args.list.now (part_of n body) c.in-List.bindings c.as_slice-bindings.result.now c.in-List.is c.as_slice-bindings.ensures.value ∙ quantified-names n scope q (parts_of n (expressions_of c.as_slice-bindings.result.now)) (part_of n body) ∙ c.in_ok-names.ensures.value c.args.needs n (λ names. quantified_of_names n scope q names (parts_of n (expressions_of c.as_slice-bindings.result.now)) (part_of n body)))
    c.args.sig.now c.few_listable_sorts.new.sig c.in_err-sorts.ensures.reaches

pub returns-in_err-variables-clause-value : goal.returns-in_err-variables-clause-value
returns-in_err-variables-clause-value c = λ scope q body.
    let p = err_from_is_err_and c.from_residual-in_err-variables.result c.from_residual-in_err-variables.ensures.1 in
    rw (p.1, p.2, c.in_err-variables.ensures.err) tt

pub returns-in_err-variables-clause-reaches : goal.returns-in_err-variables-clause-reaches
returns-in_err-variables-clause-reaches c = λ scope q body.
    variables_reach (with_list scope q c.args.list.now body) scope q c.as_slice-bindings.result.now body (map held_name c.in_ok-names.names.items)
    (λ n. quantified-list n scope q c.args.list.now (part_of n body) c.in-List.bindings c.as_slice-bindings.result.now c.in-List.is c.as_slice-bindings.ensures.value ∙ quantified-names n scope q (parts_of n (expressions_of c.as_slice-bindings.result.now)) (part_of n body) ∙ c.in_ok-names.ensures.value c.args.needs n (λ names. quantified_of_names n scope q names (parts_of n (expressions_of c.as_slice-bindings.result.now)) (part_of n body)))
    c.args.sig.now c.few_listable_sorts.new.sig c.in_ok-sorts.ensures.reaches

pub returns-clause-value : goal.returns-clause-value
returns-clause-value c = λ scope q body later grows.
    let bound : map variable_of c.in_ok-variables.variables.items ≡ variables (map held_name c.in_ok-names.names.items) c.in_ok-sorts.sorts.items =
    c.in_ok-variables.ensures.ok ∙ ap (λ (ns : List (Option (Bor (List ℕ)))). variables (map held_name ns) c.as_slice-2.result.now) c.as_slice.ensures.value ∙ ap (λ (ss : List SortId). variables (map held_name c.in_ok-names.names.items) ss) c.as_slice-2.ensures.value in
    variables_met (with_list scope q c.args.list.now body) scope q c.as_slice-bindings.result.now body (map held_name c.in_ok-names.names.items)
    (λ n. quantified-list n scope q c.args.list.now (part_of n body) c.in-List.bindings c.as_slice-bindings.result.now c.in-List.is c.as_slice-bindings.ensures.value ∙ quantified-names n scope q (parts_of n (expressions_of c.as_slice-bindings.result.now)) (part_of n body) ∙ c.in_ok-names.ensures.value c.args.needs n (λ names. quantified_of_names n scope q names (parts_of n (expressions_of c.as_slice-bindings.result.now)) (part_of n body)))
    c.args.sig.now c.few_listable_sorts.new.sig c.in_ok-sorts.ensures.reaches c.sorts.ensures.consistent c.in_ok-sorts.sorts.items c.in_ok-sorts.ensures.value later grows
    ∙ ap (λ (vs : List Variable). and_then (elaborated later (bind vs scope) body) (quantified_with q c.in_ok-sorts.sorts.items)) (sym bound)

pub returns-clause-reaches : goal.returns-clause-reaches
returns-clause-reaches c = λ scope q body.
    variables_reach (with_list scope q c.args.list.now body) scope q c.as_slice-bindings.result.now body (map held_name c.in_ok-names.names.items)
    (λ n. quantified-list n scope q c.args.list.now (part_of n body) c.in-List.bindings c.as_slice-bindings.result.now c.in-List.is c.as_slice-bindings.ensures.value ∙ quantified-names n scope q (parts_of n (expressions_of c.as_slice-bindings.result.now)) (part_of n body) ∙ c.in_ok-names.ensures.value c.args.needs n (λ names. quantified_of_names n scope q names (parts_of n (expressions_of c.as_slice-bindings.result.now)) (part_of n body)))
    c.args.sig.now c.few_listable_sorts.new.sig c.in_ok-sorts.ensures.reaches

pub returns-clause-inside : goal.returns-clause-inside
returns-clause-inside c =
    let d = c.few_listable_sorts.new.sig in
    let bound : map variable_of c.in_ok-variables.variables.items ≡ variables (map held_name c.in_ok-names.names.items) c.in_ok-sorts.sorts.items =
    c.in_ok-variables.ensures.ok ∙ ap (λ (ns : List (Option (Bor (List ℕ)))). variables (map held_name ns) c.as_slice-2.result.now) c.as_slice.ensures.value ∙ ap (λ (ss : List SortId). variables (map held_name c.in_ok-names.names.items) ss) c.as_slice-2.ensures.value in
    subst (ScopeIn d) (sym bound)
    (ScopeIn-variables d (map held_name c.in_ok-names.names.items) c.in_ok-sorts.sorts.items
    (variable_sorts_there d c.in_ok-sorts.sorts.items (few_stays d d (grows_itself d) c.sorts.ensures.consistent c.as_slice-bindings.result.now c.in_ok-sorts.sorts.items c.in_ok-sorts.ensures.value).1))
