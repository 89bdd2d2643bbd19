use Rattle.std.proofs.Common.{◌≡◌, ℕ, Option, Vec, Global, ◌-◌, List, length, take, drop, map, None, Ok, refl, sym, ap, ◌∙◌, subst, arith}
use Rattle.std.proofs.lemmas.Result.{err_from_is_err_and}
use Rattle.std.specs.Borrow.{Bor}
use Rattle.ct_lemmas.proofs.Prefixes.{rest-item}
use Rattle.ct_sexpr.specs.declared.sexpr.Sexpr.{Sexpr}
use Rattle.ct_sexpr.specs.View.{expression_of, expressions_of}
use Rattle.ct_sorts.specs.declared.ids.SortId.{SortId}
use Rattle.ct_sorts.specs.Declarations.{Declarations}
use Rattle.ct_formulas.specs.Formula.{bind}
use Rattle.ct_formulas.specs.TreeFormula.{formula_of, formulas_of_trees}
use Rattle.ct_check.specs.declared.heads.Head.{Head}
use Rattle.ct_names.specs.Bounds.{variable_of, held_name, held_binding}
use Rattle.ct_names.specs.Needs.{Reaches, as_they_are}
use Rattle.ct_check.specs.Heads.{headed_by, IsHeadDeclared, finished}
use Rattle.ct_names.specs.Outcome.{Elaborated, Sorted, and_then, step}
use Rattle.ct_names.specs.Parts.{Part, with_part, name_of}
use Rattle.ct_check.specs.Trees.{sorted_of, sorted_list, checked_of}
use Rattle.ct_names.specs.Variables.{Variable, ScopeIn, variables}
use Rattle.ct_names.specs.Elaboration.{part_of, parts_of, meaning_of_part, elaborated, list_meaning, let_form, match_form, quantified_form, annotated, lone_symbol, bound_terms, checked_cases, Checked, let_of, exhausted, lone}
use Rattle.ct_names.proofs.AnswerLemmas.{stops_along, stops_memory}
use Rattle.ct_names.proofs.NeedLemmas.{reaches_grows, reaches_same, reaches_further}
use Rattle.ct_names.proofs.PartLemmas.{part_of_list}
use Rattle.ct_check.proofs.HeadLemmas.{list-headed}
use Rattle.ct_check.proofs.GrownLemmas.{scope_grows, extends_further, sort_grows}
use Rattle.ct_check.proofs.CaseSteps.{left_again, case-scope, inner-scope, one_more_each}
use Rattle.ct_names.proofs.StayLemmas.{ScopeIn-bind}
use Rattle.ct_check.proofs.StepLemmas.{stops_head, stops_with, refused_with, stops_before}
use Rattle.ct_check.proofs.QuantifierLemmas.{with_list, with_body, body_reached, body_stop, body_met}
use Rattle.ct_check.proofs.OtherForms.{quantified-length, list-empty, annotated-empty, leaf-no_pair, length-no_pair, let-length, let-leaf, match-length, match-leaf, leaf-lone}
use Rattle.ct_check.proofs.FormSteps.{quantified-items, annotated-other, annotated-term, two_of, pair_at, let-list, match-list, cases-other, cases-subject}
use Rattle.ct_check.specs.Expected.{arguments_of}
use Rattle.ct_check.proofs.ArgumentLemmas.{head_declared}
use Rattle.ct_check.proofs.BinderSteps.{term_inside, pattern_variables, let_terms, let_stop, let_variables, let_reached, let_is, match_subject, match_stop, match_refused, match_reached, match_cases}
use Rattle.ct_check.proofs.ExpectationLemmas.{expectation_stays}
use Rattle.ct_check.proofs.HeadSteps.{arguments_stop, arguments_reach, arguments_met, has_places, takes_arguments}
use Rattle.ct_check.proofs.LoopSteps.{all_taken, argument_stops, arguments_reach as arguments_reach_on, argument_unmet, argument_met, argument_reaches, binding_other, bindings_so_far, binding_stops, bindings_reach, binding_met, binding_reaches, case_other, cases_so_far, pattern_stops, case_stops, cases_reach, case_unmet, case_met, case_reaches}
use Rattle.ct_occurrence.specs.CaseFormula.{case_of}
use Rattle.ct_names.specs.declared.variables.BoundVariable.{BoundVariable}
use Rattle.ct_names.specs.Patterns.{pattern, matchable}
use Rattle.ct_check.proofs.BindingLemmas.{pair_is}
use Rattle.ct_check.proofs.CaseLemmas.{checked_after}
use Rattle.ct_names.specs.Answer.{as_it_is}
use Rattle.ct_check.specs.Binders.{let_of_names}
use Rattle.ct_check.specs.Quantifiers.{quantified_with}
use Rattle.ct_formulas.specs.Formula as formula
use Rattle.ct_check.proofs.ArgumentSteps as arguments
use Rattle.ct_check.proofs.BindingLemmas as bindings
use Rattle.ct_check.proofs.CaseLemmas as cases
use Rattle.ct_names.proofs.NestingLemmas.{nests_item, nests_rest, nests_list}
use Rattle.ct_check.proofs.terms.+terms.Goals as goal

-- ---- calls that nest less, or go down to items

pub term-list-requires : goal.term-list-requires
term-list-requires t c = (omega (arith, nests_list c.args.expr.now c.in-List.items c.as_slice.result.now c.in-List.is c.as_slice.ensures.value, c.decreases), c.requires.variables)

pub headed-let_form-requires : goal.headed-let_form-requires
headed-let_form-requires t c = (omega (arith, c.decreases), c.requires.variables)

pub headed-match_form-requires : goal.headed-match_form-requires
headed-match_form-requires t c = (omega (arith, c.decreases), c.requires.variables)

pub headed-annotated-requires : goal.headed-annotated-requires
headed-annotated-requires t c = (omega (arith, c.decreases), c.requires.variables)

pub headed-quantified_form-requires : goal.headed-quantified_form-requires
headed-quantified_form-requires t c = (omega (arith, c.decreases), c.requires.variables)

pub annotated-term-requires : goal.annotated-term-requires
annotated-term-requires t c = (omega (arith, nests_item c.args.args.now 0 c.expr-item.result (omega arith) c.expr-item.is, c.decreases), c.requires.variables)

-- ---- term

pub term-returns-in-List-clause-value : goal.term-returns-in-List-clause-value
term-returns-in-List-clause-value t c =
    let d = c.list.new.sig in
    stops_along c.args.needs d sorted_of (elaborated d c.args.variables.now (expression_of c.args.expr.now)) (list_meaning d (parts_of d (expressions_of c.as_slice.result.now)) c.args.variables.now) c.list.result
    (ap (λ (p : Part). meaning_of_part d c.args.variables.now p) (part_of_list d c.args.expr.now c.in-List.items c.as_slice.result.now c.in-List.is c.as_slice.ensures.value))
    c.list.ensures.value

pub term-returns-in-List-clause-reaches : goal.term-returns-in-List-clause-reaches
term-returns-in-List-clause-reaches t c =
    reaches_same (λ n. list_meaning n (parts_of n (expressions_of c.as_slice.result.now)) c.args.variables.now) (λ n. elaborated n c.args.variables.now (expression_of c.args.expr.now)) c.args.sig.now c.list.new.sig
    (λ n _. ap (λ (p : Part). meaning_of_part n c.args.variables.now p) (part_of_list n c.args.expr.now c.in-List.items c.as_slice.result.now c.in-List.is c.as_slice.ensures.value))
    c.list.ensures.reaches

pub term-returns-in-Symbol-clause-reaches : goal.term-returns-in-Symbol-clause-reaches
term-returns-in-Symbol-clause-reaches t c = as_they_are c.args.sig.now

pub term-returns-in-Symbol-clause-value : goal.term-returns-in-Symbol-clause-value
term-returns-in-Symbol-clause-value t c =
    let d = c.args.sig.now in
    stops_along c.args.needs d sorted_of (elaborated d c.args.variables.now (expression_of c.args.expr.now)) (lone d c.args.variables.now (name_of (part_of d (expression_of c.args.expr.now)))) c.lone.result
    (leaf-lone d c.args.variables.now c.args.expr.now c.in-Symbol.is) (c.lone.ensures.value c.args.needs)

-- ---- list

pub list-headed-requires : goal.list-headed-requires
list-headed-requires t c =
    (omega (arith, nests_rest c.args.items.now c.in-len1-up.len_at_least, c.decreases), (scope_grows c.head_of.new.sig c.args.sig.now c.in_ok-head.ensures.grown c.args.variables.now c.requires.variables, (c.in_ok-head.ensures.inside, c.in_ok-head.ensures.counted)))

pub list-returns-in_default-clause-value : goal.list-returns-in_default-clause-value
list-returns-in_default-clause-value t c = list-empty c.args.sig.now c.args.variables.now c.args.items.now (omega arith)

pub list-returns-in_default-clause-reaches : goal.list-returns-in_default-clause-reaches
list-returns-in_default-clause-reaches t c = as_they_are c.args.sig.now

pub list-returns-in_err-head-clause-value : goal.list-returns-in_err-head-clause-value
list-returns-in_err-head-clause-value t c =
    let d = c.head_of.new.sig in
    let scope = c.args.variables.now in
    let items = c.args.items.now in
    let others = take (length items - 1) (drop 1 items) in
    let p = err_from_is_err_and c.from_residual.result c.from_residual.ensures.1 in
    rw (p.1, p.2) (stops_head c.args.needs d (λ n. list_meaning n (parts_of n (expressions_of items)) scope) (λ n. list_meaning n (with_part (part_of n (expression_of c.first-item.result)) (parts_of n (expressions_of others))) scope)
    (λ n h. headed_by n scope h (parts_of n (expressions_of others))) sorted_of _
    (list-headed d scope items c.first-item.result others (rest-item items c.first-item.result c.in-len1-up.len_at_least c.first-item.is))
    c.in_err-head.ensures.value)

pub list-returns-in_err-head-clause-reaches : goal.list-returns-in_err-head-clause-reaches
list-returns-in_err-head-clause-reaches t c =
    let scope = c.args.variables.now in
    let items = c.args.items.now in
    let others = take (length items - 1) (drop 1 items) in
    reaches_same (λ n. list_meaning n (with_part (part_of n (expression_of c.first-item.result)) (parts_of n (expressions_of others))) scope) (λ n. list_meaning n (parts_of n (expressions_of items)) scope) c.args.sig.now c.head_of.new.sig
    (λ n _. list-headed n scope items c.first-item.result others (rest-item items c.first-item.result c.in-len1-up.len_at_least c.first-item.is))
    c.in_err-head.ensures.reaches

pub list-returns-clause-value : goal.list-returns-clause-value
list-returns-clause-value t c =
    let d = c.headed.new.sig in
    let scope = c.args.variables.now in
    let items = c.args.items.now in
    let others = take (length items - 1) (drop 1 items) in
    let next : Declarations → Elaborated Sorted = λ n. headed_by n scope c.in_ok-head.head (parts_of n (expressions_of others)) in
    stops_along c.args.needs d sorted_of (list_meaning d (parts_of d (expressions_of items)) scope) (headed_by d scope c.in_ok-head.head (parts_of d (expressions_of others))) c.headed.result
    (list-headed d scope items c.first-item.result others (rest-item items c.first-item.result c.in-len1-up.len_at_least c.first-item.is)
    ∙ c.in_ok-head.ensures.value d (reaches_grows next c.head_of.new.sig d c.headed.ensures.reaches))
    c.headed.ensures.value

pub list-returns-clause-reaches : goal.list-returns-clause-reaches
list-returns-clause-reaches t c =
    let scope = c.args.variables.now in
    let items = c.args.items.now in
    let others = take (length items - 1) (drop 1 items) in
    let whole : Declarations → Elaborated Sorted = λ n. list_meaning n (parts_of n (expressions_of items)) scope in
    let next : Declarations → Elaborated Sorted = λ n. headed_by n scope c.in_ok-head.head (parts_of n (expressions_of others)) in
    let as_headed : (n : Declarations) → list_meaning n (parts_of n (expressions_of items)) scope ≡ list_meaning n (with_part (part_of n (expression_of c.first-item.result)) (parts_of n (expressions_of others))) scope =
    λ n. list-headed n scope items c.first-item.result others (rest-item items c.first-item.result c.in-len1-up.len_at_least c.first-item.is) in
    reaches_further whole c.args.sig.now c.head_of.new.sig c.headed.new.sig
    (reaches_same (λ n. list_meaning n (with_part (part_of n (expression_of c.first-item.result)) (parts_of n (expressions_of others))) scope) whole c.args.sig.now c.head_of.new.sig (λ n _. as_headed n) c.in_ok-head.ensures.reaches)
    (reaches_same next whole c.head_of.new.sig c.headed.new.sig (λ n grows. as_headed n ∙ c.in_ok-head.ensures.value n grows) c.headed.ensures.reaches)

pub list-returns-clause-grown : goal.list-returns-clause-grown
list-returns-clause-grown t c = extends_further c.headed.new.sig c.head_of.new.sig c.args.sig.now c.headed.ensures.grown c.in_ok-head.ensures.grown

-- ---- headed

pub headed-returns-in-Let-clause-value : goal.headed-returns-in-Let-clause-value
headed-returns-in-Let-clause-value t c =
    let d = c.let_form.new.sig in
    let ps = parts_of d (expressions_of c.args.args.now) in
    stops_along c.args.needs d sorted_of (headed_by d c.args.variables.now c.args.head ps) (let_form d c.args.variables.now ps) c.let_form.result (ap (λ (h : Head). headed_by d c.args.variables.now h ps) c.in-Let.is) c.let_form.ensures.value

pub headed-returns-in-Let-clause-reaches : goal.headed-returns-in-Let-clause-reaches
headed-returns-in-Let-clause-reaches t c =
    let scope = c.args.variables.now in
    let es = expressions_of c.args.args.now in
    reaches_same (λ n. let_form n scope (parts_of n es)) (λ n. headed_by n scope c.args.head (parts_of n es)) c.args.sig.now c.let_form.new.sig (λ n _. ap (λ (h : Head). headed_by n scope h (parts_of n es)) c.in-Let.is) c.let_form.ensures.reaches

pub headed-returns-in-Match-clause-value : goal.headed-returns-in-Match-clause-value
headed-returns-in-Match-clause-value t c =
    let d = c.match_form.new.sig in
    let ps = parts_of d (expressions_of c.args.args.now) in
    stops_along c.args.needs d sorted_of (headed_by d c.args.variables.now c.args.head ps) (match_form d c.args.variables.now ps) c.match_form.result (ap (λ (h : Head). headed_by d c.args.variables.now h ps) c.in-Match.is) c.match_form.ensures.value

pub headed-returns-in-Match-clause-reaches : goal.headed-returns-in-Match-clause-reaches
headed-returns-in-Match-clause-reaches t c =
    let scope = c.args.variables.now in
    let es = expressions_of c.args.args.now in
    reaches_same (λ n. match_form n scope (parts_of n es)) (λ n. headed_by n scope c.args.head (parts_of n es)) c.args.sig.now c.match_form.new.sig (λ n _. ap (λ (h : Head). headed_by n scope h (parts_of n es)) c.in-Match.is) c.match_form.ensures.reaches

pub headed-returns-in-Annotation-clause-value : goal.headed-returns-in-Annotation-clause-value
headed-returns-in-Annotation-clause-value t c =
    let d = c.annotated.new.sig in
    let ps = parts_of d (expressions_of c.args.args.now) in
    stops_along c.args.needs d sorted_of (headed_by d c.args.variables.now c.args.head ps) (annotated d c.args.variables.now ps) c.annotated.result (ap (λ (h : Head). headed_by d c.args.variables.now h ps) c.in-Annotation.is) c.annotated.ensures.value

pub headed-returns-in-Annotation-clause-reaches : goal.headed-returns-in-Annotation-clause-reaches
headed-returns-in-Annotation-clause-reaches t c =
    let scope = c.args.variables.now in
    let es = expressions_of c.args.args.now in
    reaches_same (λ n. annotated n scope (parts_of n es)) (λ n. headed_by n scope c.args.head (parts_of n es)) c.args.sig.now c.annotated.new.sig (λ n _. ap (λ (h : Head). headed_by n scope h (parts_of n es)) c.in-Annotation.is) c.annotated.ensures.reaches

pub headed-returns-in-Quantified-clause-value : goal.headed-returns-in-Quantified-clause-value
headed-returns-in-Quantified-clause-value t c =
    let d = c.quantified_form.new.sig in
    let ps = parts_of d (expressions_of c.args.args.now) in
    stops_along c.args.needs d sorted_of (headed_by d c.args.variables.now c.args.head ps) (quantified_form d c.args.variables.now c.in-Quantified.q ps) c.quantified_form.result (ap (λ (h : Head). headed_by d c.args.variables.now h ps) c.in-Quantified.is) c.quantified_form.ensures.value

pub headed-returns-in-Quantified-clause-reaches : goal.headed-returns-in-Quantified-clause-reaches
headed-returns-in-Quantified-clause-reaches t c =
    let scope = c.args.variables.now in
    let es = expressions_of c.args.args.now in
    reaches_same (λ n. quantified_form n scope c.in-Quantified.q (parts_of n es)) (λ n. headed_by n scope c.args.head (parts_of n es)) c.args.sig.now c.quantified_form.new.sig (λ n _. ap (λ (h : Head). headed_by n scope h (parts_of n es)) c.in-Quantified.is) c.quantified_form.ensures.reaches

pub headed-lone_symbol-requires : goal.headed-lone_symbol-requires
headed-lone_symbol-requires t c = record { inside = subst (λ (h : Head). IsHeadDeclared c.args.sig.now h) c.in-Whole.is c.requires.declared }

pub headed-returns-in-Whole-clause-value : goal.headed-returns-in-Whole-clause-value
headed-returns-in-Whole-clause-value t c =
    let d = c.args.sig.now in
    let ps = parts_of d (expressions_of c.args.args.now) in
    stops_along c.args.needs d sorted_of (headed_by d c.args.variables.now c.args.head ps) (lone_symbol d c.in-Whole.symbol) c.lone_symbol.result (ap (λ (h : Head). headed_by d c.args.variables.now h ps) c.in-Whole.is) (c.lone_symbol.ensures.value c.args.needs)

pub headed-returns-in-Whole-clause-reaches : goal.headed-returns-in-Whole-clause-reaches
headed-returns-in-Whole-clause-reaches t c = as_they_are c.args.sig.now

pub headed-with_arguments-requires : goal.headed-with_arguments-requires
headed-with_arguments-requires t c =
    (omega (arith, c.decreases), (c.requires.variables, (c.requires.declared, (c.requires.counted, takes_arguments c.args.head c.in-Call.is))))

-- ---- annotated

pub annotated-returns-in_default-clause-value : goal.annotated-returns-in_default-clause-value
annotated-returns-in_default-clause-value t c = annotated-empty c.args.sig.now c.args.variables.now c.args.args.now (omega arith)

pub annotated-returns-in_default-clause-reaches : goal.annotated-returns-in_default-clause-reaches
annotated-returns-in_default-clause-reaches t c = as_they_are c.args.sig.now

pub annotated-returns-then-not-are_attributes-clause-value : goal.annotated-returns-then-not-are_attributes-clause-value
annotated-returns-then-not-are_attributes-clause-value t c =
    let d = c.args.sig.now in
    let args = c.args.args.now in
    annotated-other d c.args.variables.now args c.expr-item.result (take (length args - 1) (drop 1 args))
    (rest-item args c.expr-item.result c.in-len1-up.len_at_least c.expr-item.is)
    (sym (c.are_attributes.ensures.value d) ∙ c.if-not-are_attributes.true)

pub annotated-returns-then-not-are_attributes-clause-reaches : goal.annotated-returns-then-not-are_attributes-clause-reaches
annotated-returns-then-not-are_attributes-clause-reaches t c = as_they_are c.args.sig.now

pub annotated-returns-clause-value : goal.annotated-returns-clause-value
annotated-returns-clause-value t c =
    let d = c.term.new.sig in
    let scope = c.args.variables.now in
    let args = c.args.args.now in
    stops_along c.args.needs d sorted_of (annotated d scope (parts_of d (expressions_of args))) (elaborated d scope (expression_of c.expr-item.result)) c.term.result
    (annotated-term d scope args c.expr-item.result (take (length args - 1) (drop 1 args))
    (rest-item args c.expr-item.result c.in-len1-up.len_at_least c.expr-item.is)
    (sym (c.are_attributes.ensures.value d) ∙ c.if-not-are_attributes.false))
    c.term.ensures.value

pub annotated-returns-clause-reaches : goal.annotated-returns-clause-reaches
annotated-returns-clause-reaches t c =
    let scope = c.args.variables.now in
    let args = c.args.args.now in
    reaches_same (λ n. elaborated n scope (expression_of c.expr-item.result)) (λ n. annotated n scope (parts_of n (expressions_of args))) c.args.sig.now c.term.new.sig
    (λ n _. annotated-term n scope args c.expr-item.result (take (length args - 1) (drop 1 args)) (rest-item args c.expr-item.result c.in-len1-up.len_at_least c.expr-item.is) (sym (c.are_attributes.ensures.value n) ∙ c.if-not-are_attributes.false))
    c.term.ensures.reaches

-- ---- under

pub under-term-answer-requires : goal.under-term-answer-requires
under-term-answer-requires t c =
    (omega (arith, c.decreases), subst (ScopeIn c.args.sig.now) (sym c.in_ok-enter.ensures.bound) (ScopeIn-bind c.args.sig.now (map variable_of c.args.inner.now) c.args.variables.now c.requires.inner c.requires.variables))

pub under-returns-in_err-enter-clause-value : goal.under-returns-in_err-enter-clause-value
under-returns-in_err-enter-clause-value t c =
    let p = err_from_is_err_and c.from_residual.result c.from_residual.ensures.1 in
    rw (p.1, p.2, c.in_err-enter.ensures.err) tt

pub under-returns-in_err-enter-clause-reaches : goal.under-returns-in_err-enter-clause-reaches
under-returns-in_err-enter-clause-reaches t c = as_they_are c.args.sig.now

pub under-returns-clause-value : goal.under-returns-clause-value
under-returns-clause-value t c =
    let d = c.term-answer.new.sig in
    let e = expression_of c.args.body.now in
    stops_along c.args.needs d sorted_of (elaborated d (bind (map variable_of c.args.inner.now) c.args.variables.now) e) (elaborated d c.enter.new.self e) c.term-answer.result (ap (λ sc. elaborated d sc e) (sym c.in_ok-enter.ensures.bound)) c.term-answer.ensures.value

pub under-returns-clause-reaches : goal.under-returns-clause-reaches
under-returns-clause-reaches t c =
    let e = expression_of c.args.body.now in
    reaches_same (λ n. elaborated n c.enter.new.self e) (λ n. elaborated n (bind (map variable_of c.args.inner.now) c.args.variables.now) e) c.args.sig.now c.term-answer.new.sig (λ n _. ap (λ sc. elaborated n sc e) (sym c.in_ok-enter.ensures.bound)) c.term-answer.ensures.reaches

pub under-returns-clause-restored : goal.under-returns-clause-restored
under-returns-clause-restored t c = left_again c.args.inner.now c.args.variables.now c.enter.new.self c.term-answer.new.variables c.leave.new.self (length c.args.inner.now) c.in_ok-enter.ensures.bound c.term-answer.ensures.restored refl c.leave.ensures.rest

-- ---- with_arguments

pub with_arguments-expected_at-requires : goal.with_arguments-expected_at-requires
with_arguments-expected_at-requires t c = record { declared = c.requires.declared }

pub with_arguments-returns-in_err-expected-clause-value : goal.with_arguments-returns-in_err-expected-clause-value
with_arguments-returns-in_err-expected-clause-value t c =
    let d = c.args.sig.now in
    let p = err_from_is_err_and c.from_residual.result c.from_residual.ensures.1 in
    rw (p.1, p.2) (stops_memory c.args.needs d sorted_of (headed_by d c.args.variables.now c.args.head (parts_of d (expressions_of c.args.args.now))) _ c.in_err-expected.ensures.err)

pub with_arguments-returns-in_err-expected-clause-reaches : goal.with_arguments-returns-in_err-expected-clause-reaches
with_arguments-returns-in_err-expected-clause-reaches t c = as_they_are c.args.sig.now

pub with_arguments-terms-requires : goal.with_arguments-terms-requires
with_arguments-terms-requires t c =
    (omega (arith, c.decreases), (c.in_ok-expected.ensures.inside, c.requires.variables))

pub with_arguments-returns-in_err-met-clause-value : goal.with_arguments-returns-in_err-met-clause-value
with_arguments-returns-in_err-met-clause-value t c =
    let d = c.terms.new.sig in
    let scope = c.args.variables.now in
    let x = c.in_ok-expected.expected in
    let args = c.args.args.now in
    let p = err_from_is_err_and c.from_residual-in_err-met.result c.from_residual-in_err-met.ensures.1 in
    rw (p.1, p.2) (stops_with c.args.needs d (arguments_of d) sorted_of (arguments.so_far scope x args d) (headed_by d scope c.args.head (parts_of d (expressions_of args))) _
    (λ h e. arguments_stop c.args.sig.now c.sorts.ensures.consistent scope c.args.head c.requires.declared c.requires.takes args c.requires.counted x c.in_ok-expected.ensures.inside c.in_ok-expected.ensures.ok d c.in_err-met.ensures.reaches h e)
    c.in_err-met.ensures.value)

pub with_arguments-returns-in_err-met-clause-reaches : goal.with_arguments-returns-in_err-met-clause-reaches
with_arguments-returns-in_err-met-clause-reaches t c =
    arguments_reach c.args.sig.now c.sorts.ensures.consistent c.args.variables.now c.args.head c.requires.declared c.requires.takes c.args.args.now c.requires.counted c.in_ok-expected.expected c.in_ok-expected.ensures.inside c.in_ok-expected.ensures.ok c.terms.new.sig c.in_err-met.ensures.reaches

pub with_arguments-finished-requires-clause-declared : goal.with_arguments-finished-requires-clause-declared
with_arguments-finished-requires-clause-declared t c =
    head_declared c.terms.new.sig c.args.sig.now (reaches_grows (arguments.so_far c.args.variables.now c.in_ok-expected.expected c.args.args.now) c.args.sig.now c.terms.new.sig c.in_ok-met.ensures.reaches) c.sorts.ensures.consistent c.args.head c.requires.declared

pub with_arguments-finished-requires-clause-met : goal.with_arguments-finished-requires-clause-met
with_arguments-finished-requires-clause-met t c = c.in_ok-met.ensures.met

pub with_arguments-finished-requires-clause-places : goal.with_arguments-finished-requires-clause-places
with_arguments-finished-requires-clause-places t c =
    let d = c.terms.new.sig in
    let scope = c.args.variables.now in
    has_places c.args.sig.now c.sorts.ensures.consistent scope c.args.head c.requires.declared c.requires.takes c.args.args.now c.requires.counted c.in_ok-expected.expected c.in_ok-expected.ensures.inside c.in_ok-expected.ensures.ok
    d c.sorts-2.ensures.consistent (scope_grows d c.args.sig.now c.in_ok-met.ensures.grown scope c.requires.variables) (arguments_of d c.in_ok-met.met) c.in_ok-met.ensures.reaches c.in_ok-met.ensures.value

pub with_arguments-returns-clause-value : goal.with_arguments-returns-clause-value
with_arguments-returns-clause-value t c =
    let d = c.terms.new.sig in
    let later = c.finished.new.sig in
    let scope = c.args.variables.now in
    let r = arguments_of d c.in_ok-met.met in
    stops_along c.args.needs later sorted_of (headed_by later scope c.args.head (parts_of later (expressions_of c.args.args.now))) (finished later c.args.head r) c.finished.result
    (arguments_met c.args.sig.now c.sorts.ensures.consistent scope c.args.head c.requires.declared c.requires.takes c.args.args.now c.requires.counted c.in_ok-expected.expected c.in_ok-expected.ensures.inside c.in_ok-expected.ensures.ok
    d c.sorts-2.ensures.consistent (scope_grows d c.args.sig.now c.in_ok-met.ensures.grown scope c.requires.variables) r c.in_ok-met.ensures.reaches c.in_ok-met.ensures.value later c.finished.ensures.reaches).1
    c.finished.ensures.value

pub with_arguments-returns-clause-reaches : goal.with_arguments-returns-clause-reaches
with_arguments-returns-clause-reaches t c =
    let d = c.terms.new.sig in
    let scope = c.args.variables.now in
    (arguments_met c.args.sig.now c.sorts.ensures.consistent scope c.args.head c.requires.declared c.requires.takes c.args.args.now c.requires.counted c.in_ok-expected.expected c.in_ok-expected.ensures.inside c.in_ok-expected.ensures.ok
    d c.sorts-2.ensures.consistent (scope_grows d c.args.sig.now c.in_ok-met.ensures.grown scope c.requires.variables) (arguments_of d c.in_ok-met.met) c.in_ok-met.ensures.reaches c.in_ok-met.ensures.value c.finished.new.sig c.finished.ensures.reaches).0

pub with_arguments-returns-clause-grown : goal.with_arguments-returns-clause-grown
with_arguments-returns-clause-grown t c = extends_further c.finished.new.sig c.terms.new.sig c.args.sig.now c.finished.ensures.grown c.in_ok-met.ensures.grown

-- ---- terms

pub terms-loop-expr-init : goal.terms-loop-expr-init
terms-loop-expr-init t c = rw c.in_ok-trees.ensures.items (record { scope = refl; value = refl; reaches = as_they_are c.args.sig.now; met = c.requires.expected; kept = λ e. refl })

pub terms-returns-in_err-trees-clause-value : goal.terms-returns-in_err-trees-clause-value
terms-returns-in_err-trees-clause-value t c =
    let d = c.args.sig.now in
    let p = err_from_is_err_and c.from_residual.result c.from_residual.ensures.1 in
    rw (p.1, p.2) (stops_memory c.args.needs d (arguments_of d) (arguments.so_far c.args.variables.now c.args.expected c.args.exprs.now d) _ refl)

pub terms-returns-in_err-trees-clause-reaches : goal.terms-returns-in_err-trees-clause-reaches
terms-returns-in_err-trees-clause-reaches t c = as_they_are c.args.sig.now

pub terms-term-requires : goal.terms-term-requires
terms-term-requires t c =
    let loop = c.loop-expr in
    (omega (arith, nests_item c.args.exprs.now c.loop-expr.expr-index c.expr-item.result c.loop-expr-test.true c.expr-item.is, c.decreases), subst (ScopeIn loop.sig) (sym loop.invariant.scope) (scope_grows loop.sig c.args.sig.now (reaches_grows (arguments.so_far c.args.variables.now c.args.expected (take loop.expr-index c.args.exprs.now)) c.args.sig.now loop.sig loop.invariant.reaches).extends c.args.variables.now c.requires.variables))

pub terms-returns-in_err-tree-clause-value : goal.terms-returns-in_err-tree-clause-value
terms-returns-in_err-tree-clause-value t c =
    let loop = c.loop-expr in
    let p = err_from_is_err_and c.from_residual-in_err-tree.result c.from_residual-in_err-tree.ensures.1 in
    rw (p.1, p.2) (argument_stops c.args.needs c.args.variables.now loop.variables loop.invariant.scope c.args.expected c.args.sig.now loop.sig c.term.new.sig c.sorts.ensures.consistent c.sorts-in-loop-expr.ensures.consistent c.requires.variables c.requires.expected loop.met loop.invariant.met
    c.args.exprs.now loop.expr-index c.expr-item.result c.loop-expr-test.true c.expr-item.is loop.trees.items loop.invariant.value loop.invariant.reaches c.in_err-tree.ensures.reaches _ c.in_err-tree.ensures.value)

pub terms-returns-in_err-tree-clause-reaches : goal.terms-returns-in_err-tree-clause-reaches
terms-returns-in_err-tree-clause-reaches t c =
    let loop = c.loop-expr in
    arguments_reach_on c.args.needs c.args.variables.now loop.variables loop.invariant.scope c.args.expected c.args.sig.now loop.sig c.term.new.sig c.sorts.ensures.consistent c.sorts-in-loop-expr.ensures.consistent c.requires.variables c.requires.expected loop.met loop.invariant.met
    c.args.exprs.now loop.expr-index c.expr-item.result c.loop-expr-test.true c.expr-item.is loop.trees.items loop.invariant.value loop.invariant.reaches c.in_err-tree.ensures.reaches

pub terms-returns-in_err-tree-clause-grown : goal.terms-returns-in_err-tree-clause-grown
terms-returns-in_err-tree-clause-grown t c =
    let loop = c.loop-expr in
    extends_further c.term.new.sig loop.sig c.args.sig.now c.in_err-tree.ensures.grown (reaches_grows (arguments.so_far c.args.variables.now c.args.expected (take loop.expr-index c.args.exprs.now)) c.args.sig.now loop.sig loop.invariant.reaches).extends

pub terms-after-requires-clause-expected : goal.terms-after-requires-clause-expected
terms-after-requires-clause-expected t c =
    let loop = c.loop-expr in
    expectation_stays c.term.new.sig loop.sig (reaches_grows (λ n. elaborated n loop.variables (expression_of c.expr-item.result)) loop.sig c.term.new.sig c.in_ok-tree.ensures.reaches) c.sorts-in-loop-expr.ensures.consistent loop.met loop.invariant.met

pub terms-after-requires-clause-sort : goal.terms-after-requires-clause-sort
terms-after-requires-clause-sort t c =
    let loop = c.loop-expr in
    let before = scope_grows loop.sig c.args.sig.now (reaches_grows (arguments.so_far c.args.variables.now c.args.expected (take loop.expr-index c.args.exprs.now)) c.args.sig.now loop.sig loop.invariant.reaches).extends c.args.variables.now c.requires.variables in
    term_inside c.term.new.sig c.sorts-in-loop-expr-2.ensures.consistent loop.variables
    (subst (ScopeIn c.term.new.sig) (sym loop.invariant.scope) (scope_grows c.term.new.sig loop.sig c.in_ok-tree.ensures.grown c.args.variables.now before)) c.expr-item.result (formula_of c.in_ok-tree.tree, c.in_ok-tree.sort) c.in_ok-tree.ensures.value

pub terms-returns-in_err-met-clause-value : goal.terms-returns-in_err-met-clause-value
terms-returns-in_err-met-clause-value t c =
    let loop = c.loop-expr in
    let p = err_from_is_err_and c.from_residual-in_err-met.result c.from_residual-in_err-met.ensures.1 in
    rw (p.1, p.2) (argument_unmet c.args.needs c.args.variables.now loop.variables loop.invariant.scope c.args.expected c.args.sig.now loop.sig c.term.new.sig c.sorts.ensures.consistent c.sorts-in-loop-expr.ensures.consistent c.requires.variables c.requires.expected loop.met loop.invariant.met
    c.args.exprs.now loop.expr-index c.expr-item.result c.loop-expr-test.true c.expr-item.is loop.trees.items loop.invariant.value loop.invariant.reaches c.in_ok-tree.ensures.reaches (c.in_ok-tree.tree, c.in_ok-tree.sort) c.in_ok-tree.ensures.value _ (c.in_err-met.ensures.value c.args.needs))

pub terms-returns-in_err-met-clause-reaches : goal.terms-returns-in_err-met-clause-reaches
terms-returns-in_err-met-clause-reaches t c =
    let loop = c.loop-expr in
    arguments_reach_on c.args.needs c.args.variables.now loop.variables loop.invariant.scope c.args.expected c.args.sig.now loop.sig c.term.new.sig c.sorts.ensures.consistent c.sorts-in-loop-expr.ensures.consistent c.requires.variables c.requires.expected loop.met loop.invariant.met
    c.args.exprs.now loop.expr-index c.expr-item.result c.loop-expr-test.true c.expr-item.is loop.trees.items loop.invariant.value loop.invariant.reaches c.in_ok-tree.ensures.reaches

pub terms-returns-in_err-met-clause-grown : goal.terms-returns-in_err-met-clause-grown
terms-returns-in_err-met-clause-grown t c =
    let loop = c.loop-expr in
    extends_further c.term.new.sig loop.sig c.args.sig.now c.in_ok-tree.ensures.grown (reaches_grows (arguments.so_far c.args.variables.now c.args.expected (take loop.expr-index c.args.exprs.now)) c.args.sig.now loop.sig loop.invariant.reaches).extends

pub terms-returns-in_err-push-clause-value : goal.terms-returns-in_err-push-clause-value
terms-returns-in_err-push-clause-value t c =
    let d = c.term.new.sig in
    let p = err_from_is_err_and c.from_residual-in_err-push.result c.from_residual-in_err-push.ensures.1 in
    rw (p.1, p.2) (stops_memory c.args.needs d (arguments_of d) (arguments.so_far c.args.variables.now c.args.expected c.args.exprs.now d) _ refl)

pub terms-returns-in_err-push-clause-reaches : goal.terms-returns-in_err-push-clause-reaches
terms-returns-in_err-push-clause-reaches t c =
    let loop = c.loop-expr in
    arguments_reach_on c.args.needs c.args.variables.now loop.variables loop.invariant.scope c.args.expected c.args.sig.now loop.sig c.term.new.sig c.sorts.ensures.consistent c.sorts-in-loop-expr.ensures.consistent c.requires.variables c.requires.expected loop.met loop.invariant.met
    c.args.exprs.now loop.expr-index c.expr-item.result c.loop-expr-test.true c.expr-item.is loop.trees.items loop.invariant.value loop.invariant.reaches c.in_ok-tree.ensures.reaches

pub terms-returns-in_err-push-clause-grown : goal.terms-returns-in_err-push-clause-grown
terms-returns-in_err-push-clause-grown t c =
    let loop = c.loop-expr in
    extends_further c.term.new.sig loop.sig c.args.sig.now c.in_ok-tree.ensures.grown (reaches_grows (arguments.so_far c.args.variables.now c.args.expected (take loop.expr-index c.args.exprs.now)) c.args.sig.now loop.sig loop.invariant.reaches).extends

pub terms-loop-expr-preserved : goal.terms-loop-expr-preserved
terms-loop-expr-preserved t c =
    let loop = c.loop-expr in
    rw c.in_ok-push.ensures.items (record {
      scope = c.in_ok-tree.ensures.restored ∙ loop.invariant.scope;
      value = argument_met c.args.needs c.args.variables.now loop.variables loop.invariant.scope c.args.expected c.args.sig.now loop.sig c.term.new.sig c.sorts.ensures.consistent c.sorts-in-loop-expr.ensures.consistent c.requires.variables c.requires.expected loop.met loop.invariant.met
          c.args.exprs.now loop.expr-index c.expr-item.result c.loop-expr-test.true c.expr-item.is loop.trees.items loop.invariant.value loop.invariant.reaches c.in_ok-tree.ensures.reaches (c.in_ok-tree.tree, c.in_ok-tree.sort) c.in_ok-tree.ensures.value c.in_ok-met.met (c.in_ok-met.ensures.value c.args.needs);
      reaches = argument_reaches c.args.needs c.args.variables.now loop.variables loop.invariant.scope c.args.expected c.args.sig.now loop.sig c.term.new.sig c.sorts.ensures.consistent c.sorts-in-loop-expr.ensures.consistent c.requires.variables c.requires.expected loop.met loop.invariant.met
          c.args.exprs.now loop.expr-index c.expr-item.result c.loop-expr-test.true c.expr-item.is loop.trees.items loop.invariant.value loop.invariant.reaches c.in_ok-tree.ensures.reaches;
      met = c.in_ok-met.ensures.inside;
      kept = λ e. c.in_ok-tree.ensures.kept e ∙ loop.invariant.kept e;
    })

pub terms-returns-clause-value : goal.terms-returns-clause-value
terms-returns-clause-value t c =
    let loop = c.loop-expr in
    ap (λ (xs : List Sexpr). arguments.so_far c.args.variables.now c.args.expected xs loop.sig) (sym (all_taken c.args.exprs.now loop.expr-index c.loop-expr-test.false)) ∙ loop.invariant.value

pub terms-returns-clause-reaches : goal.terms-returns-clause-reaches
terms-returns-clause-reaches t c =
    let loop = c.loop-expr in
    subst (λ (xs : List Sexpr). Reaches (arguments.so_far c.args.variables.now c.args.expected xs) c.args.sig.now loop.sig) (all_taken c.args.exprs.now loop.expr-index c.loop-expr-test.false) loop.invariant.reaches

pub terms-returns-clause-grown : goal.terms-returns-clause-grown
terms-returns-clause-grown t c =
    let loop = c.loop-expr in
    (reaches_grows (arguments.so_far c.args.variables.now c.args.expected (take loop.expr-index c.args.exprs.now)) c.args.sig.now loop.sig loop.invariant.reaches).extends

-- ---- bound_terms

pub bound_terms-loop-binding-init : goal.bound_terms-loop-binding-init
bound_terms-loop-binding-init t c = rw (c.in_ok-trees.ensures.items, c.in_ok-sorts.ensures.items) (record { scope = refl; long = refl; value = refl; reaches = as_they_are c.args.sig.now; kept = λ e. refl })

pub bound_terms-returns-in_err-trees-clause-value : goal.bound_terms-returns-in_err-trees-clause-value
bound_terms-returns-in_err-trees-clause-value t c =
    let d = c.args.sig.now in
    let p = err_from_is_err_and c.from_residual.result c.from_residual.ensures.1 in
    rw (p.1, p.2) (stops_memory c.args.needs d sorted_list (bindings.so_far c.args.variables.now c.args.bindings.now d) _ refl)

pub bound_terms-returns-in_err-trees-clause-reaches : goal.bound_terms-returns-in_err-trees-clause-reaches
bound_terms-returns-in_err-trees-clause-reaches t c = as_they_are c.args.sig.now

pub bound_terms-returns-in_err-sorts-clause-value : goal.bound_terms-returns-in_err-sorts-clause-value
bound_terms-returns-in_err-sorts-clause-value t c =
    let d = c.args.sig.now in
    let p = err_from_is_err_and c.from_residual-in_err-sorts.result c.from_residual-in_err-sorts.ensures.1 in
    rw (p.1, p.2) (stops_memory c.args.needs d sorted_list (bindings.so_far c.args.variables.now c.args.bindings.now d) _ refl)

pub bound_terms-returns-in_err-sorts-clause-reaches : goal.bound_terms-returns-in_err-sorts-clause-reaches
bound_terms-returns-in_err-sorts-clause-reaches t c = as_they_are c.args.sig.now

pub bound_terms-returns-in_default : goal.bound_terms-returns-in_default
bound_terms-returns-in_default t c =
    let loop = c.loop-binding in
    record {
      value = binding_other c.args.needs c.args.variables.now loop.variables loop.invariant.scope c.args.sig.now loop.sig c.sorts.ensures.consistent c.sorts-in-loop-binding.ensures.consistent c.requires.variables c.args.bindings.now loop.binding-index c.binding-item.result c.loop-binding-test.true c.binding-item.is loop.trees.items loop.sorts.items loop.invariant.long loop.invariant.value loop.invariant.reaches (leaf-no_pair loop.sig c.binding-item.result c.in_default.not-List);
      one_each = tt;
      reaches = bindings_so_far c.args.needs c.args.variables.now loop.variables loop.invariant.scope c.args.sig.now loop.sig c.sorts.ensures.consistent c.sorts-in-loop-binding.ensures.consistent c.requires.variables c.args.bindings.now loop.binding-index c.binding-item.result c.loop-binding-test.true c.binding-item.is loop.trees.items loop.sorts.items loop.invariant.long loop.invariant.value loop.invariant.reaches;
      kept = λ e. loop.invariant.kept e;
      grown = (reaches_grows (bindings.so_far c.args.variables.now (take loop.binding-index c.args.bindings.now)) c.args.sig.now loop.sig loop.invariant.reaches).extends;
      restored = loop.invariant.scope;
    }

pub bound_terms-returns-then-items-ne2-clause-value : goal.bound_terms-returns-then-items-ne2-clause-value
bound_terms-returns-then-items-ne2-clause-value t c =
    let loop = c.loop-binding in
    binding_other c.args.needs c.args.variables.now loop.variables loop.invariant.scope c.args.sig.now loop.sig c.sorts.ensures.consistent c.sorts-in-loop-binding.ensures.consistent c.requires.variables c.args.bindings.now loop.binding-index c.binding-item.result c.loop-binding-test.true c.binding-item.is loop.trees.items loop.sorts.items loop.invariant.long loop.invariant.value loop.invariant.reaches (length-no_pair loop.sig c.binding-item.result c.in-List.items c.as_slice-items.result.now c.in-List.is c.as_slice-items.ensures.value c.if-items-ne2.true)

pub bound_terms-returns-then-items-ne2-clause-reaches : goal.bound_terms-returns-then-items-ne2-clause-reaches
bound_terms-returns-then-items-ne2-clause-reaches t c =
    let loop = c.loop-binding in
    bindings_so_far c.args.needs c.args.variables.now loop.variables loop.invariant.scope c.args.sig.now loop.sig c.sorts.ensures.consistent c.sorts-in-loop-binding.ensures.consistent c.requires.variables c.args.bindings.now loop.binding-index c.binding-item.result c.loop-binding-test.true c.binding-item.is loop.trees.items loop.sorts.items loop.invariant.long loop.invariant.value loop.invariant.reaches

pub bound_terms-returns-then-items-ne2-clause-grown : goal.bound_terms-returns-then-items-ne2-clause-grown
bound_terms-returns-then-items-ne2-clause-grown t c =
    let loop = c.loop-binding in
    (reaches_grows (bindings.so_far c.args.variables.now (take loop.binding-index c.args.bindings.now)) c.args.sig.now loop.sig loop.invariant.reaches).extends

pub bound_terms-term-requires : goal.bound_terms-term-requires
bound_terms-term-requires t c =
    let loop = c.loop-binding in
    (omega (arith, nests_item c.args.bindings.now c.loop-binding.binding-index c.binding-item.result c.loop-binding-test.true c.binding-item.is, nests_list c.binding-item.result c.in-List.items c.as_slice-items.result.now c.in-List.is c.as_slice-items.ensures.value, nests_item c.as_slice-items.result.now 1 c.index-items-1.result (omega arith) c.index-items-1.is, c.decreases), subst (ScopeIn loop.sig) (sym loop.invariant.scope) (scope_grows loop.sig c.args.sig.now (reaches_grows (bindings.so_far c.args.variables.now (take loop.binding-index c.args.bindings.now)) c.args.sig.now loop.sig loop.invariant.reaches).extends c.args.variables.now c.requires.variables))

pub bound_terms-returns-in_err-tree-clause-value : goal.bound_terms-returns-in_err-tree-clause-value
bound_terms-returns-in_err-tree-clause-value t c =
    let loop = c.loop-binding in
    let two = pair_at c.as_slice-items.result.now c.index-items-1.result c.if-items-ne2.false c.index-items-1.is in
    let p = err_from_is_err_and c.from_residual-in_err-tree.result c.from_residual-in_err-tree.ensures.1 in
    rw (p.1, p.2) (binding_stops c.args.needs c.args.variables.now loop.variables loop.invariant.scope c.args.sig.now loop.sig c.sorts.ensures.consistent c.sorts-in-loop-binding.ensures.consistent c.requires.variables c.args.bindings.now loop.binding-index c.binding-item.result c.loop-binding-test.true c.binding-item.is loop.trees.items loop.sorts.items loop.invariant.long loop.invariant.value loop.invariant.reaches two.0 c.index-items-1.result (pair_is c.binding-item.result c.in-List.items c.as_slice-items.result.now two.0 c.index-items-1.result c.in-List.is c.as_slice-items.ensures.value two.1) c.term.new.sig c.in_err-tree.ensures.reaches _ c.in_err-tree.ensures.value)

pub bound_terms-returns-in_err-tree-clause-reaches : goal.bound_terms-returns-in_err-tree-clause-reaches
bound_terms-returns-in_err-tree-clause-reaches t c =
    let loop = c.loop-binding in
    let two = pair_at c.as_slice-items.result.now c.index-items-1.result c.if-items-ne2.false c.index-items-1.is in
    bindings_reach c.args.needs c.args.variables.now loop.variables loop.invariant.scope c.args.sig.now loop.sig c.sorts.ensures.consistent c.sorts-in-loop-binding.ensures.consistent c.requires.variables c.args.bindings.now loop.binding-index c.binding-item.result c.loop-binding-test.true c.binding-item.is loop.trees.items loop.sorts.items loop.invariant.long loop.invariant.value loop.invariant.reaches two.0 c.index-items-1.result (pair_is c.binding-item.result c.in-List.items c.as_slice-items.result.now two.0 c.index-items-1.result c.in-List.is c.as_slice-items.ensures.value two.1) c.term.new.sig c.in_err-tree.ensures.reaches

pub bound_terms-returns-in_err-tree-clause-grown : goal.bound_terms-returns-in_err-tree-clause-grown
bound_terms-returns-in_err-tree-clause-grown t c =
    let loop = c.loop-binding in
    extends_further c.term.new.sig loop.sig c.args.sig.now c.in_err-tree.ensures.grown (reaches_grows (bindings.so_far c.args.variables.now (take loop.binding-index c.args.bindings.now)) c.args.sig.now loop.sig loop.invariant.reaches).extends

pub bound_terms-returns-in_err-push-clause-value : goal.bound_terms-returns-in_err-push-clause-value
bound_terms-returns-in_err-push-clause-value t c =
    let d = c.term.new.sig in
    let p = err_from_is_err_and c.from_residual-in_err-push.result c.from_residual-in_err-push.ensures.1 in
    rw (p.1, p.2) (stops_memory c.args.needs d sorted_list (bindings.so_far c.args.variables.now c.args.bindings.now d) _ refl)

pub bound_terms-returns-in_err-push-clause-reaches : goal.bound_terms-returns-in_err-push-clause-reaches
bound_terms-returns-in_err-push-clause-reaches t c =
    let loop = c.loop-binding in
    let two = pair_at c.as_slice-items.result.now c.index-items-1.result c.if-items-ne2.false c.index-items-1.is in
    bindings_reach c.args.needs c.args.variables.now loop.variables loop.invariant.scope c.args.sig.now loop.sig c.sorts.ensures.consistent c.sorts-in-loop-binding.ensures.consistent c.requires.variables c.args.bindings.now loop.binding-index c.binding-item.result c.loop-binding-test.true c.binding-item.is loop.trees.items loop.sorts.items loop.invariant.long loop.invariant.value loop.invariant.reaches two.0 c.index-items-1.result (pair_is c.binding-item.result c.in-List.items c.as_slice-items.result.now two.0 c.index-items-1.result c.in-List.is c.as_slice-items.ensures.value two.1) c.term.new.sig c.in_ok-tree.ensures.reaches

pub bound_terms-returns-in_err-push-clause-grown : goal.bound_terms-returns-in_err-push-clause-grown
bound_terms-returns-in_err-push-clause-grown t c =
    let loop = c.loop-binding in
    extends_further c.term.new.sig loop.sig c.args.sig.now c.in_ok-tree.ensures.grown (reaches_grows (bindings.so_far c.args.variables.now (take loop.binding-index c.args.bindings.now)) c.args.sig.now loop.sig loop.invariant.reaches).extends

pub bound_terms-returns-in_err-push-2-clause-value : goal.bound_terms-returns-in_err-push-2-clause-value
bound_terms-returns-in_err-push-2-clause-value t c =
    let d = c.term.new.sig in
    let p = err_from_is_err_and c.from_residual-in_err-push-2.result c.from_residual-in_err-push-2.ensures.1 in
    rw (p.1, p.2) (stops_memory c.args.needs d sorted_list (bindings.so_far c.args.variables.now c.args.bindings.now d) _ refl)

pub bound_terms-returns-in_err-push-2-clause-reaches : goal.bound_terms-returns-in_err-push-2-clause-reaches
bound_terms-returns-in_err-push-2-clause-reaches t c =
    let loop = c.loop-binding in
    let two = pair_at c.as_slice-items.result.now c.index-items-1.result c.if-items-ne2.false c.index-items-1.is in
    bindings_reach c.args.needs c.args.variables.now loop.variables loop.invariant.scope c.args.sig.now loop.sig c.sorts.ensures.consistent c.sorts-in-loop-binding.ensures.consistent c.requires.variables c.args.bindings.now loop.binding-index c.binding-item.result c.loop-binding-test.true c.binding-item.is loop.trees.items loop.sorts.items loop.invariant.long loop.invariant.value loop.invariant.reaches two.0 c.index-items-1.result (pair_is c.binding-item.result c.in-List.items c.as_slice-items.result.now two.0 c.index-items-1.result c.in-List.is c.as_slice-items.ensures.value two.1) c.term.new.sig c.in_ok-tree.ensures.reaches

pub bound_terms-returns-in_err-push-2-clause-grown : goal.bound_terms-returns-in_err-push-2-clause-grown
bound_terms-returns-in_err-push-2-clause-grown t c =
    let loop = c.loop-binding in
    extends_further c.term.new.sig loop.sig c.args.sig.now c.in_ok-tree.ensures.grown (reaches_grows (bindings.so_far c.args.variables.now (take loop.binding-index c.args.bindings.now)) c.args.sig.now loop.sig loop.invariant.reaches).extends

pub bound_terms-loop-binding-preserved : goal.bound_terms-loop-binding-preserved
bound_terms-loop-binding-preserved t c =
    let loop = c.loop-binding in
    let two = pair_at c.as_slice-items.result.now c.index-items-1.result c.if-items-ne2.false c.index-items-1.is in
    rw (c.in_ok-push.ensures.items, c.in_ok-push-2.ensures.items) (record {
      scope = c.in_ok-tree.ensures.restored ∙ loop.invariant.scope;
      long = one_more_each loop.trees.items loop.sorts.items _ _ loop.invariant.long;
      value = binding_met c.args.needs c.args.variables.now loop.variables loop.invariant.scope c.args.sig.now loop.sig c.sorts.ensures.consistent c.sorts-in-loop-binding.ensures.consistent c.requires.variables c.args.bindings.now loop.binding-index c.binding-item.result c.loop-binding-test.true c.binding-item.is loop.trees.items loop.sorts.items loop.invariant.long loop.invariant.value loop.invariant.reaches two.0 c.index-items-1.result (pair_is c.binding-item.result c.in-List.items c.as_slice-items.result.now two.0 c.index-items-1.result c.in-List.is c.as_slice-items.ensures.value two.1) c.term.new.sig c.in_ok-tree.ensures.reaches (c.in_ok-tree.tree, c.in_ok-tree.sort) c.in_ok-tree.ensures.value;
      reaches = binding_reaches c.args.needs c.args.variables.now loop.variables loop.invariant.scope c.args.sig.now loop.sig c.sorts.ensures.consistent c.sorts-in-loop-binding.ensures.consistent c.requires.variables c.args.bindings.now loop.binding-index c.binding-item.result c.loop-binding-test.true c.binding-item.is loop.trees.items loop.sorts.items loop.invariant.long loop.invariant.value loop.invariant.reaches two.0 c.index-items-1.result (pair_is c.binding-item.result c.in-List.items c.as_slice-items.result.now two.0 c.index-items-1.result c.in-List.is c.as_slice-items.ensures.value two.1) c.term.new.sig c.in_ok-tree.ensures.reaches;
      kept = λ e. c.in_ok-tree.ensures.kept e ∙ loop.invariant.kept e;
    })

pub bound_terms-returns-clause-value : goal.bound_terms-returns-clause-value
bound_terms-returns-clause-value t c =
    let loop = c.loop-binding in
    ap (λ (xs : List Sexpr). bindings.so_far c.args.variables.now xs loop.sig) (sym (all_taken c.args.bindings.now loop.binding-index c.loop-binding-test.false)) ∙ loop.invariant.value

pub bound_terms-returns-clause-one_each : goal.bound_terms-returns-clause-one_each
bound_terms-returns-clause-one_each t c = c.loop-binding.invariant.long

pub bound_terms-returns-clause-reaches : goal.bound_terms-returns-clause-reaches
bound_terms-returns-clause-reaches t c =
    let loop = c.loop-binding in
    subst (λ (xs : List Sexpr). Reaches (bindings.so_far c.args.variables.now xs) c.args.sig.now loop.sig) (all_taken c.args.bindings.now loop.binding-index c.loop-binding-test.false) loop.invariant.reaches

pub bound_terms-returns-clause-grown : goal.bound_terms-returns-clause-grown
bound_terms-returns-clause-grown t c =
    let loop = c.loop-binding in
    (reaches_grows (bindings.so_far c.args.variables.now (take loop.binding-index c.args.bindings.now)) c.args.sig.now loop.sig loop.invariant.reaches).extends

-- ---- checked_cases

pub checked_cases-loop-case-init : goal.checked_cases-loop-case-init
checked_cases-loop-case-init t c = rw (c.in_ok-with_capacity.ensures.items, c.in_ok-with_capacity-2.ensures.items) (record { scope = refl; value = refl; reaches = as_they_are c.args.sig.now; kept = λ e. refl })

pub checked_cases-returns-in_err-with_capacity-clause-value : goal.checked_cases-returns-in_err-with_capacity-clause-value
checked_cases-returns-in_err-with_capacity-clause-value t c =
    let d = c.args.sig.now in
    let p = err_from_is_err_and c.from_residual.result c.from_residual.ensures.1 in
    rw (p.1, p.2) (stops_memory c.args.needs d checked_of (cases.so_far c.args.variables.now c.args.side c.args.cases.now d) _ refl)

pub checked_cases-returns-in_err-with_capacity-clause-reaches : goal.checked_cases-returns-in_err-with_capacity-clause-reaches
checked_cases-returns-in_err-with_capacity-clause-reaches t c = as_they_are c.args.sig.now

pub checked_cases-returns-in_err-with_capacity-2-clause-value : goal.checked_cases-returns-in_err-with_capacity-2-clause-value
checked_cases-returns-in_err-with_capacity-2-clause-value t c =
    let d = c.args.sig.now in
    let p = err_from_is_err_and c.from_residual-in_err-with_capacity-2.result c.from_residual-in_err-with_capacity-2.ensures.1 in
    rw (p.1, p.2) (stops_memory c.args.needs d checked_of (cases.so_far c.args.variables.now c.args.side c.args.cases.now d) _ refl)

pub checked_cases-returns-in_err-with_capacity-2-clause-reaches : goal.checked_cases-returns-in_err-with_capacity-2-clause-reaches
checked_cases-returns-in_err-with_capacity-2-clause-reaches t c = as_they_are c.args.sig.now

pub checked_cases-returns-in_default : goal.checked_cases-returns-in_default
checked_cases-returns-in_default t c =
    let loop = c.loop-case in
    record {
      value = case_other c.args.needs c.args.variables.now c.args.side c.args.sig.now loop.sig c.sorts.ensures.consistent c.sorts-in-loop-case.ensures.consistent c.requires.variables c.requires.side c.args.cases.now loop.case-index c.case-item.result c.loop-case-test.true c.case-item.is (checked_of loop.checked) loop.invariant.value loop.invariant.reaches (leaf-no_pair loop.sig c.case-item.result c.in_default.not-List);
      reaches = cases_so_far c.args.needs c.args.variables.now c.args.side c.args.sig.now loop.sig c.sorts.ensures.consistent c.sorts-in-loop-case.ensures.consistent c.requires.variables c.requires.side c.args.cases.now loop.case-index c.case-item.result c.loop-case-test.true c.case-item.is (checked_of loop.checked) loop.invariant.value loop.invariant.reaches;
      kept = λ e. loop.invariant.kept e;
      grown = (reaches_grows (cases.so_far c.args.variables.now c.args.side (take loop.case-index c.args.cases.now)) c.args.sig.now loop.sig loop.invariant.reaches).extends;
      restored = loop.invariant.scope;
    }

pub checked_cases-returns-then-items-ne2-clause-value : goal.checked_cases-returns-then-items-ne2-clause-value
checked_cases-returns-then-items-ne2-clause-value t c =
    let loop = c.loop-case in
    case_other c.args.needs c.args.variables.now c.args.side c.args.sig.now loop.sig c.sorts.ensures.consistent c.sorts-in-loop-case.ensures.consistent c.requires.variables c.requires.side c.args.cases.now loop.case-index c.case-item.result c.loop-case-test.true c.case-item.is (checked_of loop.checked) loop.invariant.value loop.invariant.reaches (length-no_pair loop.sig c.case-item.result c.in-List.items c.as_slice-items.result.now c.in-List.is c.as_slice-items.ensures.value c.if-items-ne2.true)

pub checked_cases-returns-then-items-ne2-clause-reaches : goal.checked_cases-returns-then-items-ne2-clause-reaches
checked_cases-returns-then-items-ne2-clause-reaches t c =
    let loop = c.loop-case in
    cases_so_far c.args.needs c.args.variables.now c.args.side c.args.sig.now loop.sig c.sorts.ensures.consistent c.sorts-in-loop-case.ensures.consistent c.requires.variables c.requires.side c.args.cases.now loop.case-index c.case-item.result c.loop-case-test.true c.case-item.is (checked_of loop.checked) loop.invariant.value loop.invariant.reaches

pub checked_cases-returns-then-items-ne2-clause-grown : goal.checked_cases-returns-then-items-ne2-clause-grown
checked_cases-returns-then-items-ne2-clause-grown t c =
    let loop = c.loop-case in
    (reaches_grows (cases.so_far c.args.variables.now c.args.side (take loop.case-index c.args.cases.now)) c.args.sig.now loop.sig loop.invariant.reaches).extends

pub checked_cases-pattern-requires : goal.checked_cases-pattern-requires
checked_cases-pattern-requires t c =
    let loop = c.loop-case in
    record { side = sort_grows loop.sig c.args.sig.now (reaches_grows (cases.so_far c.args.variables.now c.args.side (take loop.case-index c.args.cases.now)) c.args.sig.now loop.sig loop.invariant.reaches).extends c.args.side c.requires.side }

pub checked_cases-returns-in_err-fitted-clause-value : goal.checked_cases-returns-in_err-fitted-clause-value
checked_cases-returns-in_err-fitted-clause-value t c =
    let loop = c.loop-case in
    let p = err_from_is_err_and c.from_residual-in_err-fitted.result c.from_residual-in_err-fitted.ensures.1 in
    rw (p.1, p.2) (refused_with c.args.needs loop.sig held_binding checked_of (pattern loop.sig c.args.side (part_of loop.sig (expression_of c.index-items-0.result))) (cases.so_far c.args.variables.now c.args.side c.args.cases.now loop.sig) _
    (λ h e. pattern_stops c.args.needs c.args.variables.now c.args.side c.args.sig.now loop.sig c.sorts.ensures.consistent c.sorts-in-loop-case.ensures.consistent c.requires.variables c.requires.side c.args.cases.now loop.case-index c.case-item.result c.loop-case-test.true c.case-item.is (checked_of loop.checked) loop.invariant.value loop.invariant.reaches c.index-items-0.result c.index-items-1.result (pair_is c.case-item.result c.in-List.items c.as_slice-items.result.now c.index-items-0.result c.index-items-1.result c.in-List.is c.as_slice-items.ensures.value (two_of c.as_slice-items.result.now c.index-items-0.result c.index-items-1.result c.if-items-ne2.false c.index-items-0.is c.index-items-1.is)) h e) c.in_err-fitted.ensures.value)

pub checked_cases-returns-in_err-fitted-clause-reaches : goal.checked_cases-returns-in_err-fitted-clause-reaches
checked_cases-returns-in_err-fitted-clause-reaches t c =
    let loop = c.loop-case in
    cases_so_far c.args.needs c.args.variables.now c.args.side c.args.sig.now loop.sig c.sorts.ensures.consistent c.sorts-in-loop-case.ensures.consistent c.requires.variables c.requires.side c.args.cases.now loop.case-index c.case-item.result c.loop-case-test.true c.case-item.is (checked_of loop.checked) loop.invariant.value loop.invariant.reaches

pub checked_cases-returns-in_err-fitted-clause-grown : goal.checked_cases-returns-in_err-fitted-clause-grown
checked_cases-returns-in_err-fitted-clause-grown t c =
    let loop = c.loop-case in
    (reaches_grows (cases.so_far c.args.variables.now c.args.side (take loop.case-index c.args.cases.now)) c.args.sig.now loop.sig loop.invariant.reaches).extends

pub checked_cases-under-requires : goal.checked_cases-under-requires
checked_cases-under-requires t c =
    let loop = c.loop-case in
    let inner = pattern_variables loop.sig c.sorts-in-loop-case.ensures.consistent c.args.side (sort_grows loop.sig c.args.sig.now (reaches_grows (cases.so_far c.args.variables.now c.args.side (take loop.case-index c.args.cases.now)) c.args.sig.now loop.sig loop.invariant.reaches).extends c.args.side c.requires.side) c.index-items-0.result (held_binding (c.in_ok-fitted.fitted, c.in_ok-fitted.inner)) c.in_ok-fitted.ensures.value in
    (omega (arith, nests_item c.args.cases.now c.loop-case.case-index c.case-item.result c.loop-case-test.true c.case-item.is, nests_list c.case-item.result c.in-List.items c.as_slice-items.result.now c.in-List.is c.as_slice-items.ensures.value, nests_item c.as_slice-items.result.now 1 c.index-items-1.result (omega arith) c.index-items-1.is, c.decreases), (subst (ScopeIn loop.sig) (sym loop.invariant.scope) (scope_grows loop.sig c.args.sig.now (reaches_grows (cases.so_far c.args.variables.now c.args.side (take loop.case-index c.args.cases.now)) c.args.sig.now loop.sig loop.invariant.reaches).extends c.args.variables.now c.requires.variables), subst (λ (xs : List BoundVariable). ScopeIn loop.sig (map variable_of xs)) (sym c.as_slice.ensures.value) inner))

pub checked_cases-returns-in_err-tree-clause-value : goal.checked_cases-returns-in_err-tree-clause-value
checked_cases-returns-in_err-tree-clause-value t c =
    let loop = c.loop-case in
    let p = err_from_is_err_and c.from_residual-in_err-tree.result c.from_residual-in_err-tree.ensures.1 in
    rw (p.1, p.2) (case_stops c.args.needs c.args.variables.now c.args.side c.args.sig.now loop.sig c.sorts.ensures.consistent c.sorts-in-loop-case.ensures.consistent c.requires.variables c.requires.side c.args.cases.now loop.case-index c.case-item.result c.loop-case-test.true c.case-item.is (checked_of loop.checked) loop.invariant.value loop.invariant.reaches c.index-items-0.result c.index-items-1.result (pair_is c.case-item.result c.in-List.items c.as_slice-items.result.now c.index-items-0.result c.index-items-1.result c.in-List.is c.as_slice-items.ensures.value (two_of c.as_slice-items.result.now c.index-items-0.result c.index-items-1.result c.if-items-ne2.false c.index-items-0.is c.index-items-1.is)) (held_binding (c.in_ok-fitted.fitted, c.in_ok-fitted.inner)) (ap step c.in_ok-fitted.ensures.value) (bind (map variable_of c.as_slice.result.now) loop.variables) (case-scope loop.variables c.args.variables.now c.in_ok-fitted.inner.items c.as_slice.result.now loop.invariant.scope c.as_slice.ensures.value) c.under.new.sig c.in_err-tree.ensures.reaches _ c.in_err-tree.ensures.value)

pub checked_cases-returns-then-not-goes_with-clause-value : goal.checked_cases-returns-then-not-goes_with-clause-value
checked_cases-returns-then-not-goes_with-clause-value t c =
    let loop = c.loop-case in
    case_unmet c.args.needs c.args.variables.now c.args.side c.args.sig.now loop.sig c.sorts.ensures.consistent c.sorts-in-loop-case.ensures.consistent c.requires.variables c.requires.side c.args.cases.now loop.case-index c.case-item.result c.loop-case-test.true c.case-item.is (checked_of loop.checked) loop.invariant.value loop.invariant.reaches c.index-items-0.result c.index-items-1.result (pair_is c.case-item.result c.in-List.items c.as_slice-items.result.now c.index-items-0.result c.index-items-1.result c.in-List.is c.as_slice-items.ensures.value (two_of c.as_slice-items.result.now c.index-items-0.result c.index-items-1.result c.if-items-ne2.false c.index-items-0.is c.index-items-1.is)) (held_binding (c.in_ok-fitted.fitted, c.in_ok-fitted.inner)) (ap step c.in_ok-fitted.ensures.value) (bind (map variable_of c.as_slice.result.now) loop.variables) (case-scope loop.variables c.args.variables.now c.in_ok-fitted.inner.items c.as_slice.result.now loop.invariant.scope c.as_slice.ensures.value) c.under.new.sig c.in_ok-tree.ensures.reaches (c.in_ok-tree.tree, c.in_ok-tree.sort) c.in_ok-tree.ensures.value (sym c.goes_with.ensures.value ∙ c.if-not-goes_with.true)

pub checked_cases-returns-in_err-add_case-clause-value : goal.checked_cases-returns-in_err-add_case-clause-value
checked_cases-returns-in_err-add_case-clause-value t c =
    let d = c.under.new.sig in
    let p = err_from_is_err_and c.from_residual-in_err-add_case.result c.from_residual-in_err-add_case.ensures.1 in
    rw (p.1, p.2) (stops_memory c.args.needs d checked_of (cases.so_far c.args.variables.now c.args.side c.args.cases.now d) _ c.in_err-add_case.ensures.err)

pub checked_cases-returns-in_err-tree-clause-reaches : goal.checked_cases-returns-in_err-tree-clause-reaches
checked_cases-returns-in_err-tree-clause-reaches t c =
    let loop = c.loop-case in
    cases_reach c.args.needs c.args.variables.now c.args.side c.args.sig.now loop.sig c.sorts.ensures.consistent c.sorts-in-loop-case.ensures.consistent c.requires.variables c.requires.side c.args.cases.now loop.case-index c.case-item.result c.loop-case-test.true c.case-item.is (checked_of loop.checked) loop.invariant.value loop.invariant.reaches c.index-items-0.result c.index-items-1.result (pair_is c.case-item.result c.in-List.items c.as_slice-items.result.now c.index-items-0.result c.index-items-1.result c.in-List.is c.as_slice-items.ensures.value (two_of c.as_slice-items.result.now c.index-items-0.result c.index-items-1.result c.if-items-ne2.false c.index-items-0.is c.index-items-1.is)) (held_binding (c.in_ok-fitted.fitted, c.in_ok-fitted.inner)) (ap step c.in_ok-fitted.ensures.value) (bind (map variable_of c.as_slice.result.now) loop.variables) (case-scope loop.variables c.args.variables.now c.in_ok-fitted.inner.items c.as_slice.result.now loop.invariant.scope c.as_slice.ensures.value) c.under.new.sig c.in_err-tree.ensures.reaches

pub checked_cases-returns-in_err-tree-clause-grown : goal.checked_cases-returns-in_err-tree-clause-grown
checked_cases-returns-in_err-tree-clause-grown t c =
    let loop = c.loop-case in
    extends_further c.under.new.sig loop.sig c.args.sig.now c.in_err-tree.ensures.grown (reaches_grows (cases.so_far c.args.variables.now c.args.side (take loop.case-index c.args.cases.now)) c.args.sig.now loop.sig loop.invariant.reaches).extends

pub checked_cases-returns-then-not-goes_with-clause-reaches : goal.checked_cases-returns-then-not-goes_with-clause-reaches
checked_cases-returns-then-not-goes_with-clause-reaches t c =
    let loop = c.loop-case in
    cases_reach c.args.needs c.args.variables.now c.args.side c.args.sig.now loop.sig c.sorts.ensures.consistent c.sorts-in-loop-case.ensures.consistent c.requires.variables c.requires.side c.args.cases.now loop.case-index c.case-item.result c.loop-case-test.true c.case-item.is (checked_of loop.checked) loop.invariant.value loop.invariant.reaches c.index-items-0.result c.index-items-1.result (pair_is c.case-item.result c.in-List.items c.as_slice-items.result.now c.index-items-0.result c.index-items-1.result c.in-List.is c.as_slice-items.ensures.value (two_of c.as_slice-items.result.now c.index-items-0.result c.index-items-1.result c.if-items-ne2.false c.index-items-0.is c.index-items-1.is)) (held_binding (c.in_ok-fitted.fitted, c.in_ok-fitted.inner)) (ap step c.in_ok-fitted.ensures.value) (bind (map variable_of c.as_slice.result.now) loop.variables) (case-scope loop.variables c.args.variables.now c.in_ok-fitted.inner.items c.as_slice.result.now loop.invariant.scope c.as_slice.ensures.value) c.under.new.sig c.in_ok-tree.ensures.reaches

pub checked_cases-returns-then-not-goes_with-clause-grown : goal.checked_cases-returns-then-not-goes_with-clause-grown
checked_cases-returns-then-not-goes_with-clause-grown t c =
    let loop = c.loop-case in
    extends_further c.under.new.sig loop.sig c.args.sig.now c.in_ok-tree.ensures.grown (reaches_grows (cases.so_far c.args.variables.now c.args.side (take loop.case-index c.args.cases.now)) c.args.sig.now loop.sig loop.invariant.reaches).extends

pub checked_cases-returns-in_err-add_case-clause-reaches : goal.checked_cases-returns-in_err-add_case-clause-reaches
checked_cases-returns-in_err-add_case-clause-reaches t c =
    let loop = c.loop-case in
    cases_reach c.args.needs c.args.variables.now c.args.side c.args.sig.now loop.sig c.sorts.ensures.consistent c.sorts-in-loop-case.ensures.consistent c.requires.variables c.requires.side c.args.cases.now loop.case-index c.case-item.result c.loop-case-test.true c.case-item.is (checked_of loop.checked) loop.invariant.value loop.invariant.reaches c.index-items-0.result c.index-items-1.result (pair_is c.case-item.result c.in-List.items c.as_slice-items.result.now c.index-items-0.result c.index-items-1.result c.in-List.is c.as_slice-items.ensures.value (two_of c.as_slice-items.result.now c.index-items-0.result c.index-items-1.result c.if-items-ne2.false c.index-items-0.is c.index-items-1.is)) (held_binding (c.in_ok-fitted.fitted, c.in_ok-fitted.inner)) (ap step c.in_ok-fitted.ensures.value) (bind (map variable_of c.as_slice.result.now) loop.variables) (case-scope loop.variables c.args.variables.now c.in_ok-fitted.inner.items c.as_slice.result.now loop.invariant.scope c.as_slice.ensures.value) c.under.new.sig c.in_ok-tree.ensures.reaches

pub checked_cases-returns-in_err-add_case-clause-grown : goal.checked_cases-returns-in_err-add_case-clause-grown
checked_cases-returns-in_err-add_case-clause-grown t c =
    let loop = c.loop-case in
    extends_further c.under.new.sig loop.sig c.args.sig.now c.in_ok-tree.ensures.grown (reaches_grows (cases.so_far c.args.variables.now c.args.side (take loop.case-index c.args.cases.now)) c.args.sig.now loop.sig loop.invariant.reaches).extends

pub checked_cases-loop-case-preserved : goal.checked_cases-loop-case-preserved
checked_cases-loop-case-preserved t c =
    let loop = c.loop-case in
    let later = c.under.new.sig in
    let before = scope_grows loop.sig c.args.sig.now (reaches_grows (cases.so_far c.args.variables.now c.args.side (take loop.case-index c.args.cases.now)) c.args.sig.now loop.sig loop.invariant.reaches).extends c.args.variables.now c.requires.variables in
    record {
      scope = c.in_ok-tree.ensures.restored ∙ loop.invariant.scope;
      value = case_met c.args.needs c.args.variables.now c.args.side c.args.sig.now loop.sig c.sorts.ensures.consistent c.sorts-in-loop-case.ensures.consistent c.requires.variables c.requires.side c.args.cases.now loop.case-index c.case-item.result c.loop-case-test.true c.case-item.is (checked_of loop.checked) loop.invariant.value loop.invariant.reaches c.index-items-0.result c.index-items-1.result (pair_is c.case-item.result c.in-List.items c.as_slice-items.result.now c.index-items-0.result c.index-items-1.result c.in-List.is c.as_slice-items.ensures.value (two_of c.as_slice-items.result.now c.index-items-0.result c.index-items-1.result c.if-items-ne2.false c.index-items-0.is c.index-items-1.is)) (held_binding (c.in_ok-fitted.fitted, c.in_ok-fitted.inner)) (ap step c.in_ok-fitted.ensures.value) (bind (map variable_of c.as_slice.result.now) loop.variables) (case-scope loop.variables c.args.variables.now c.in_ok-fitted.inner.items c.as_slice.result.now loop.invariant.scope c.as_slice.ensures.value) c.under.new.sig c.in_ok-tree.ensures.reaches (c.in_ok-tree.tree, c.in_ok-tree.sort) c.in_ok-tree.ensures.value (sym c.goes_with.ensures.value ∙ c.if-not-goes_with.false)
          ∙ ap (λ (k : Checked). Ok k) (checked_after (map case_of loop.checked.cases.items) _ loop.checked.patterns.items _ loop.checked.sort _ c.in_ok-fitted.fitted (formula_of c.in_ok-tree.tree, c.in_ok-tree.sort)
          c.in_ok-add_case.ensures.cases c.in_ok-add_case.ensures.patterns c.in_ok-add_case.ensures.sort);
      reaches = case_reaches c.args.needs c.args.variables.now c.args.side c.args.sig.now loop.sig c.sorts.ensures.consistent c.sorts-in-loop-case.ensures.consistent c.requires.variables c.requires.side c.args.cases.now loop.case-index c.case-item.result c.loop-case-test.true c.case-item.is (checked_of loop.checked) loop.invariant.value loop.invariant.reaches c.index-items-0.result c.index-items-1.result (pair_is c.case-item.result c.in-List.items c.as_slice-items.result.now c.index-items-0.result c.index-items-1.result c.in-List.is c.as_slice-items.ensures.value (two_of c.as_slice-items.result.now c.index-items-0.result c.index-items-1.result c.if-items-ne2.false c.index-items-0.is c.index-items-1.is)) (held_binding (c.in_ok-fitted.fitted, c.in_ok-fitted.inner)) (ap step c.in_ok-fitted.ensures.value) (bind (map variable_of c.as_slice.result.now) loop.variables) (case-scope loop.variables c.args.variables.now c.in_ok-fitted.inner.items c.as_slice.result.now loop.invariant.scope c.as_slice.ensures.value) c.under.new.sig c.in_ok-tree.ensures.reaches;
      kept = λ e. c.in_ok-tree.ensures.kept e ∙ loop.invariant.kept e;
    }

pub checked_cases-returns-clause-value : goal.checked_cases-returns-clause-value
checked_cases-returns-clause-value t c =
    let loop = c.loop-case in
    ap (λ (xs : List Sexpr). cases.so_far c.args.variables.now c.args.side xs loop.sig) (sym (all_taken c.args.cases.now loop.case-index c.loop-case-test.false)) ∙ loop.invariant.value

pub checked_cases-returns-clause-reaches : goal.checked_cases-returns-clause-reaches
checked_cases-returns-clause-reaches t c =
    let loop = c.loop-case in
    subst (λ (xs : List Sexpr). Reaches (cases.so_far c.args.variables.now c.args.side xs) c.args.sig.now loop.sig) (all_taken c.args.cases.now loop.case-index c.loop-case-test.false) loop.invariant.reaches

pub checked_cases-returns-clause-grown : goal.checked_cases-returns-clause-grown
checked_cases-returns-clause-grown t c =
    let loop = c.loop-case in
    (reaches_grows (cases.so_far c.args.variables.now c.args.side (take loop.case-index c.args.cases.now)) c.args.sig.now loop.sig loop.invariant.reaches).extends

-- ---- let_form

pub let_form-returns-then-args-ne2-clause-value : goal.let_form-returns-then-args-ne2-clause-value
let_form-returns-then-args-ne2-clause-value t c = let-length c.args.sig.now c.args.variables.now c.args.args.now c.if-args-ne2.true

pub let_form-returns-then-args-ne2-clause-reaches : goal.let_form-returns-then-args-ne2-clause-reaches
let_form-returns-then-args-ne2-clause-reaches t c = as_they_are c.args.sig.now

pub let_form-returns-in_default-clause-value : goal.let_form-returns-in_default-clause-value
let_form-returns-in_default-clause-value t c =
    let args = c.args.args.now in
    let-leaf c.args.sig.now c.args.variables.now args c.index-args-0.result c.index-args-1.result (two_of c.args.args.now c.index-args-0.result c.index-args-1.result c.if-args-ne2.false c.index-args-0.is c.index-args-1.is) c.in_default.not-List

pub let_form-returns-in_default-clause-reaches : goal.let_form-returns-in_default-clause-reaches
let_form-returns-in_default-clause-reaches t c = as_they_are c.args.sig.now

pub let_form-returns-in_err-names-clause-value : goal.let_form-returns-in_err-names-clause-value
let_form-returns-in_err-names-clause-value t c =
    let d = c.args.sig.now in
    let scope = c.args.variables.now in
    let bs = parts_of d (expressions_of c.as_slice-bindings.result.now) in
    let body = part_of d (expression_of c.index-args-1.result) in
    let p = err_from_is_err_and c.from_residual.result c.from_residual.ensures.1 in
    rw (p.1, p.2) (stops_before c.args.needs d (λ (names : Vec (Option (Bor (List ℕ))) Global). let_of_names d scope (map held_name names.items) bs body) sorted_of (let_form d c.args.variables.now (parts_of d (expressions_of c.args.args.now))) (let_of d scope bs body) _
    (let-list d scope c.args.args.now c.index-args-0.result c.index-args-1.result c.in-List.bindings c.as_slice-bindings.result.now (two_of c.args.args.now c.index-args-0.result c.index-args-1.result c.if-args-ne2.false c.index-args-0.is c.index-args-1.is) c.in-List.is c.as_slice-bindings.ensures.value)
    (c.in_err-names.ensures.value c.args.needs d (λ names. let_of_names d scope names bs body)))

pub let_form-returns-in_err-names-clause-reaches : goal.let_form-returns-in_err-names-clause-reaches
let_form-returns-in_err-names-clause-reaches t c = as_they_are c.args.sig.now

pub let_form-bound_terms-requires : goal.let_form-bound_terms-requires
let_form-bound_terms-requires t c =
    (omega (arith, nests_item c.args.args.now 0 c.index-args-0.result (omega arith) c.index-args-0.is, nests_list c.index-args-0.result c.in-List.bindings c.as_slice-bindings.result.now c.in-List.is c.as_slice-bindings.ensures.value, c.decreases), c.requires.variables)

pub let_form-returns-in_err-trees-clause-value : goal.let_form-returns-in_err-trees-clause-value
let_form-returns-in_err-trees-clause-value t c =
    let d = c.bound_terms.new.sig in
    let p = err_from_is_err_and c.from_residual-in_err-trees.result c.from_residual-in_err-trees.ensures.1 in
    rw (p.1, p.2) (stops_with c.args.needs d sorted_list sorted_of (bindings.so_far c.args.variables.now c.as_slice-bindings.result.now d) (let_form d c.args.variables.now (parts_of d (expressions_of c.args.args.now))) _
    (λ h e. let_stop (λ n. let_form n c.args.variables.now (parts_of n (expressions_of c.args.args.now))) c.args.variables.now (map held_name c.in_ok-names.names.items) c.as_slice-bindings.result.now c.index-args-1.result (λ n. let-list n c.args.variables.now c.args.args.now c.index-args-0.result c.index-args-1.result c.in-List.bindings c.as_slice-bindings.result.now (two_of c.args.args.now c.index-args-0.result c.index-args-1.result c.if-args-ne2.false c.index-args-0.is c.index-args-1.is) c.in-List.is c.as_slice-bindings.ensures.value ∙ c.in_ok-names.ensures.value c.args.needs n (λ names. let_of_names n c.args.variables.now names (parts_of n (expressions_of c.as_slice-bindings.result.now)) (part_of n (expression_of c.index-args-1.result)))) c.args.sig.now c.bound_terms.new.sig c.in_err-trees.ensures.reaches h e) c.in_err-trees.ensures.value)

pub let_form-returns-in_err-trees-clause-reaches : goal.let_form-returns-in_err-trees-clause-reaches
let_form-returns-in_err-trees-clause-reaches t c = let_terms (λ n. let_form n c.args.variables.now (parts_of n (expressions_of c.args.args.now))) c.args.variables.now (map held_name c.in_ok-names.names.items) c.as_slice-bindings.result.now c.index-args-1.result (λ n. let-list n c.args.variables.now c.args.args.now c.index-args-0.result c.index-args-1.result c.in-List.bindings c.as_slice-bindings.result.now (two_of c.args.args.now c.index-args-0.result c.index-args-1.result c.if-args-ne2.false c.index-args-0.is c.index-args-1.is) c.in-List.is c.as_slice-bindings.ensures.value ∙ c.in_ok-names.ensures.value c.args.needs n (λ names. let_of_names n c.args.variables.now names (parts_of n (expressions_of c.as_slice-bindings.result.now)) (part_of n (expression_of c.index-args-1.result)))) c.args.sig.now c.bound_terms.new.sig c.in_err-trees.ensures.reaches

pub let_form-returns-in_err-inner-clause-value : goal.let_form-returns-in_err-inner-clause-value
let_form-returns-in_err-inner-clause-value t c =
    let d = c.bound_terms.new.sig in
    let p = err_from_is_err_and c.from_residual-in_err-inner.result c.from_residual-in_err-inner.ensures.1 in
    rw (p.1, p.2, c.in_err-inner.ensures.err) tt

pub let_form-returns-in_err-inner-clause-reaches : goal.let_form-returns-in_err-inner-clause-reaches
let_form-returns-in_err-inner-clause-reaches t c = let_terms (λ n. let_form n c.args.variables.now (parts_of n (expressions_of c.args.args.now))) c.args.variables.now (map held_name c.in_ok-names.names.items) c.as_slice-bindings.result.now c.index-args-1.result (λ n. let-list n c.args.variables.now c.args.args.now c.index-args-0.result c.index-args-1.result c.in-List.bindings c.as_slice-bindings.result.now (two_of c.args.args.now c.index-args-0.result c.index-args-1.result c.if-args-ne2.false c.index-args-0.is c.index-args-1.is) c.in-List.is c.as_slice-bindings.ensures.value ∙ c.in_ok-names.ensures.value c.args.needs n (λ names. let_of_names n c.args.variables.now names (parts_of n (expressions_of c.as_slice-bindings.result.now)) (part_of n (expression_of c.index-args-1.result)))) c.args.sig.now c.bound_terms.new.sig c.in_ok-trees.ensures.reaches

pub let_form-under-requires : goal.let_form-under-requires
let_form-under-requires t c =
    let d = c.bound_terms.new.sig in
    let scope = c.args.variables.now in
    let inside = scope_grows d c.args.sig.now c.in_ok-trees.ensures.grown scope c.requires.variables in
    let bound : map variable_of c.as_slice-3.result.now ≡ variables (map held_name c.in_ok-names.names.items) c.in_ok-trees.sorts.items =
    ap (λ (xs : List BoundVariable). map variable_of xs) c.as_slice-3.ensures.value ∙ c.in_ok-inner.ensures.ok ∙ ap (λ (ns : List (Option (Bor (List ℕ)))). variables (map held_name ns) c.as_slice-2.result.now) c.as_slice.ensures.value ∙ ap (λ (ss : List SortId). variables (map held_name c.in_ok-names.names.items) ss) c.as_slice-2.ensures.value in
    (omega (arith, nests_item c.args.args.now 1 c.index-args-1.result (omega arith) c.index-args-1.is, c.decreases), (subst (ScopeIn d) (sym c.in_ok-trees.ensures.restored) inside, subst (ScopeIn d) (sym bound) (let_variables (λ n. let_form n c.args.variables.now (parts_of n (expressions_of c.args.args.now))) c.args.variables.now (map held_name c.in_ok-names.names.items) c.as_slice-bindings.result.now c.index-args-1.result (λ n. let-list n c.args.variables.now c.args.args.now c.index-args-0.result c.index-args-1.result c.in-List.bindings c.as_slice-bindings.result.now (two_of c.args.args.now c.index-args-0.result c.index-args-1.result c.if-args-ne2.false c.index-args-0.is c.index-args-1.is) c.in-List.is c.as_slice-bindings.ensures.value ∙ c.in_ok-names.ensures.value c.args.needs n (λ names. let_of_names n c.args.variables.now names (parts_of n (expressions_of c.as_slice-bindings.result.now)) (part_of n (expression_of c.index-args-1.result)))) c.args.sig.now c.bound_terms.new.sig c.in_ok-trees.ensures.reaches c.sorts.ensures.consistent c.sorts-2.ensures.consistent c.requires.variables c.in_ok-trees.trees.items c.in_ok-trees.sorts.items c.in_ok-trees.ensures.one_each c.in_ok-trees.ensures.value inside)))

pub let_form-returns-in_err-tree-clause-value : goal.let_form-returns-in_err-tree-clause-value
let_form-returns-in_err-tree-clause-value t c =
    let d = c.under.new.sig in
    let p = err_from_is_err_and c.from_residual-in_err-tree.result c.from_residual-in_err-tree.ensures.1 in
    rw (p.1, p.2) (stops_with c.args.needs d sorted_of sorted_of (elaborated d (bind (map variable_of c.as_slice-3.result.now) c.bound_terms.new.variables) (expression_of c.index-args-1.result)) (let_form d c.args.variables.now (parts_of d (expressions_of c.args.args.now))) _
    (λ h e. let_is (λ n. let_form n c.args.variables.now (parts_of n (expressions_of c.args.args.now))) c.args.variables.now (map held_name c.in_ok-names.names.items) c.as_slice-bindings.result.now c.index-args-1.result (λ n. let-list n c.args.variables.now c.args.args.now c.index-args-0.result c.index-args-1.result c.in-List.bindings c.as_slice-bindings.result.now (two_of c.args.args.now c.index-args-0.result c.index-args-1.result c.if-args-ne2.false c.index-args-0.is c.index-args-1.is) c.in-List.is c.as_slice-bindings.ensures.value ∙ c.in_ok-names.ensures.value c.args.needs n (λ names. let_of_names n c.args.variables.now names (parts_of n (expressions_of c.as_slice-bindings.result.now)) (part_of n (expression_of c.index-args-1.result)))) c.args.sig.now c.bound_terms.new.sig c.in_ok-trees.ensures.reaches c.sorts.ensures.consistent c.sorts-2.ensures.consistent c.requires.variables c.in_ok-trees.trees.items c.in_ok-trees.sorts.items c.in_ok-trees.ensures.one_each c.in_ok-trees.ensures.value (bind (map variable_of c.as_slice-3.result.now) c.bound_terms.new.variables) (inner-scope c.bound_terms.new.variables c.args.variables.now c.in_ok-names.names.items c.as_slice.result.now c.in_ok-trees.sorts.items c.as_slice-2.result.now c.in_ok-inner.inner.items c.as_slice-3.result.now c.in_ok-trees.ensures.restored c.as_slice.ensures.value c.as_slice-2.ensures.value c.in_ok-inner.ensures.ok c.as_slice-3.ensures.value) c.under.new.sig c.in_err-tree.ensures.reaches ∙ ap (λ (o : Elaborated Sorted). and_then o (λ u. Ok (formula.Let (formulas_of_trees c.in_ok-trees.trees.items) u.0, u.1))) e) c.in_err-tree.ensures.value)

pub let_form-returns-in_err-tree-clause-reaches : goal.let_form-returns-in_err-tree-clause-reaches
let_form-returns-in_err-tree-clause-reaches t c = let_reached (λ n. let_form n c.args.variables.now (parts_of n (expressions_of c.args.args.now))) c.args.variables.now (map held_name c.in_ok-names.names.items) c.as_slice-bindings.result.now c.index-args-1.result (λ n. let-list n c.args.variables.now c.args.args.now c.index-args-0.result c.index-args-1.result c.in-List.bindings c.as_slice-bindings.result.now (two_of c.args.args.now c.index-args-0.result c.index-args-1.result c.if-args-ne2.false c.index-args-0.is c.index-args-1.is) c.in-List.is c.as_slice-bindings.ensures.value ∙ c.in_ok-names.ensures.value c.args.needs n (λ names. let_of_names n c.args.variables.now names (parts_of n (expressions_of c.as_slice-bindings.result.now)) (part_of n (expression_of c.index-args-1.result)))) c.args.sig.now c.bound_terms.new.sig c.in_ok-trees.ensures.reaches c.sorts.ensures.consistent c.sorts-2.ensures.consistent c.requires.variables c.in_ok-trees.trees.items c.in_ok-trees.sorts.items c.in_ok-trees.ensures.one_each c.in_ok-trees.ensures.value (bind (map variable_of c.as_slice-3.result.now) c.bound_terms.new.variables) (inner-scope c.bound_terms.new.variables c.args.variables.now c.in_ok-names.names.items c.as_slice.result.now c.in_ok-trees.sorts.items c.as_slice-2.result.now c.in_ok-inner.inner.items c.as_slice-3.result.now c.in_ok-trees.ensures.restored c.as_slice.ensures.value c.as_slice-2.ensures.value c.in_ok-inner.ensures.ok c.as_slice-3.ensures.value) c.under.new.sig c.in_err-tree.ensures.reaches

pub let_form-returns-in_err-tree-clause-grown : goal.let_form-returns-in_err-tree-clause-grown
let_form-returns-in_err-tree-clause-grown t c = extends_further c.under.new.sig c.bound_terms.new.sig c.args.sig.now c.in_err-tree.ensures.grown c.in_ok-trees.ensures.grown

pub let_form-returns-in_err-let_tree-clause-value : goal.let_form-returns-in_err-let_tree-clause-value
let_form-returns-in_err-let_tree-clause-value t c =
    let p = err_from_is_err_and c.from_residual-in_err-let_tree.result c.from_residual-in_err-let_tree.ensures.1 in
    rw (p.1, p.2) (stops_memory c.args.needs c.under.new.sig sorted_of (let_form c.under.new.sig c.args.variables.now (parts_of c.under.new.sig (expressions_of c.args.args.now))) _ c.in_err-let_tree.ensures.err)

pub let_form-returns-in_err-let_tree-clause-reaches : goal.let_form-returns-in_err-let_tree-clause-reaches
let_form-returns-in_err-let_tree-clause-reaches t c = let_reached (λ n. let_form n c.args.variables.now (parts_of n (expressions_of c.args.args.now))) c.args.variables.now (map held_name c.in_ok-names.names.items) c.as_slice-bindings.result.now c.index-args-1.result (λ n. let-list n c.args.variables.now c.args.args.now c.index-args-0.result c.index-args-1.result c.in-List.bindings c.as_slice-bindings.result.now (two_of c.args.args.now c.index-args-0.result c.index-args-1.result c.if-args-ne2.false c.index-args-0.is c.index-args-1.is) c.in-List.is c.as_slice-bindings.ensures.value ∙ c.in_ok-names.ensures.value c.args.needs n (λ names. let_of_names n c.args.variables.now names (parts_of n (expressions_of c.as_slice-bindings.result.now)) (part_of n (expression_of c.index-args-1.result)))) c.args.sig.now c.bound_terms.new.sig c.in_ok-trees.ensures.reaches c.sorts.ensures.consistent c.sorts-2.ensures.consistent c.requires.variables c.in_ok-trees.trees.items c.in_ok-trees.sorts.items c.in_ok-trees.ensures.one_each c.in_ok-trees.ensures.value (bind (map variable_of c.as_slice-3.result.now) c.bound_terms.new.variables) (inner-scope c.bound_terms.new.variables c.args.variables.now c.in_ok-names.names.items c.as_slice.result.now c.in_ok-trees.sorts.items c.as_slice-2.result.now c.in_ok-inner.inner.items c.as_slice-3.result.now c.in_ok-trees.ensures.restored c.as_slice.ensures.value c.as_slice-2.ensures.value c.in_ok-inner.ensures.ok c.as_slice-3.ensures.value) c.under.new.sig c.in_ok-tree.ensures.reaches

pub let_form-returns-in_err-let_tree-clause-grown : goal.let_form-returns-in_err-let_tree-clause-grown
let_form-returns-in_err-let_tree-clause-grown t c = extends_further c.under.new.sig c.bound_terms.new.sig c.args.sig.now c.in_ok-tree.ensures.grown c.in_ok-trees.ensures.grown

pub let_form-returns-clause-value : goal.let_form-returns-clause-value
let_form-returns-clause-value t c =
    let_is (λ n. let_form n c.args.variables.now (parts_of n (expressions_of c.args.args.now))) c.args.variables.now (map held_name c.in_ok-names.names.items) c.as_slice-bindings.result.now c.index-args-1.result (λ n. let-list n c.args.variables.now c.args.args.now c.index-args-0.result c.index-args-1.result c.in-List.bindings c.as_slice-bindings.result.now (two_of c.args.args.now c.index-args-0.result c.index-args-1.result c.if-args-ne2.false c.index-args-0.is c.index-args-1.is) c.in-List.is c.as_slice-bindings.ensures.value ∙ c.in_ok-names.ensures.value c.args.needs n (λ names. let_of_names n c.args.variables.now names (parts_of n (expressions_of c.as_slice-bindings.result.now)) (part_of n (expression_of c.index-args-1.result)))) c.args.sig.now c.bound_terms.new.sig c.in_ok-trees.ensures.reaches c.sorts.ensures.consistent c.sorts-2.ensures.consistent c.requires.variables c.in_ok-trees.trees.items c.in_ok-trees.sorts.items c.in_ok-trees.ensures.one_each c.in_ok-trees.ensures.value (bind (map variable_of c.as_slice-3.result.now) c.bound_terms.new.variables) (inner-scope c.bound_terms.new.variables c.args.variables.now c.in_ok-names.names.items c.as_slice.result.now c.in_ok-trees.sorts.items c.as_slice-2.result.now c.in_ok-inner.inner.items c.as_slice-3.result.now c.in_ok-trees.ensures.restored c.as_slice.ensures.value c.as_slice-2.ensures.value c.in_ok-inner.ensures.ok c.as_slice-3.ensures.value) c.under.new.sig c.in_ok-tree.ensures.reaches
    ∙ ap (λ (o : Elaborated Sorted). and_then o (λ u. Ok (formula.Let (formulas_of_trees c.in_ok-trees.trees.items) u.0, u.1))) c.in_ok-tree.ensures.value
    ∙ ap (λ f. Ok (f, c.in_ok-tree.sort)) (sym c.in_ok-let_tree.ensures.ok)

pub let_form-returns-clause-reaches : goal.let_form-returns-clause-reaches
let_form-returns-clause-reaches t c = let_reached (λ n. let_form n c.args.variables.now (parts_of n (expressions_of c.args.args.now))) c.args.variables.now (map held_name c.in_ok-names.names.items) c.as_slice-bindings.result.now c.index-args-1.result (λ n. let-list n c.args.variables.now c.args.args.now c.index-args-0.result c.index-args-1.result c.in-List.bindings c.as_slice-bindings.result.now (two_of c.args.args.now c.index-args-0.result c.index-args-1.result c.if-args-ne2.false c.index-args-0.is c.index-args-1.is) c.in-List.is c.as_slice-bindings.ensures.value ∙ c.in_ok-names.ensures.value c.args.needs n (λ names. let_of_names n c.args.variables.now names (parts_of n (expressions_of c.as_slice-bindings.result.now)) (part_of n (expression_of c.index-args-1.result)))) c.args.sig.now c.bound_terms.new.sig c.in_ok-trees.ensures.reaches c.sorts.ensures.consistent c.sorts-2.ensures.consistent c.requires.variables c.in_ok-trees.trees.items c.in_ok-trees.sorts.items c.in_ok-trees.ensures.one_each c.in_ok-trees.ensures.value (bind (map variable_of c.as_slice-3.result.now) c.bound_terms.new.variables) (inner-scope c.bound_terms.new.variables c.args.variables.now c.in_ok-names.names.items c.as_slice.result.now c.in_ok-trees.sorts.items c.as_slice-2.result.now c.in_ok-inner.inner.items c.as_slice-3.result.now c.in_ok-trees.ensures.restored c.as_slice.ensures.value c.as_slice-2.ensures.value c.in_ok-inner.ensures.ok c.as_slice-3.ensures.value) c.under.new.sig c.in_ok-tree.ensures.reaches

pub let_form-returns-clause-grown : goal.let_form-returns-clause-grown
let_form-returns-clause-grown t c = extends_further c.under.new.sig c.bound_terms.new.sig c.args.sig.now c.in_ok-tree.ensures.grown c.in_ok-trees.ensures.grown

-- ---- match_form

pub match_form-returns-then-args-ne2-clause-value : goal.match_form-returns-then-args-ne2-clause-value
match_form-returns-then-args-ne2-clause-value t c = match-length c.args.sig.now c.args.variables.now c.args.args.now c.if-args-ne2.true

pub match_form-returns-then-args-ne2-clause-reaches : goal.match_form-returns-then-args-ne2-clause-reaches
match_form-returns-then-args-ne2-clause-reaches t c = as_they_are c.args.sig.now

pub match_form-returns-in_default-clause-value : goal.match_form-returns-in_default-clause-value
match_form-returns-in_default-clause-value t c = match-leaf c.args.sig.now c.args.variables.now c.args.args.now c.index-args-0.result c.index-args-1.result (two_of c.args.args.now c.index-args-0.result c.index-args-1.result c.if-args-ne2.false c.index-args-0.is c.index-args-1.is) c.in_default.not-List

pub match_form-returns-in_default-clause-reaches : goal.match_form-returns-in_default-clause-reaches
match_form-returns-in_default-clause-reaches t c = as_they_are c.args.sig.now

pub match_form-returns-then-not-are_cases-clause-value : goal.match_form-returns-then-not-are_cases-clause-value
match_form-returns-then-not-are_cases-clause-value t c =
    let d = c.args.sig.now in
    let scope = c.args.variables.now in
    match-list d scope c.args.args.now c.index-args-0.result c.index-args-1.result c.in-List.cases c.as_slice-cases.result.now (two_of c.args.args.now c.index-args-0.result c.index-args-1.result c.if-args-ne2.false c.index-args-0.is c.index-args-1.is) c.in-List.is c.as_slice-cases.ensures.value
    ∙ cases-other d scope (part_of d (expression_of c.index-args-0.result)) (parts_of d (expressions_of c.as_slice-cases.result.now)) (sym (c.are_cases.ensures.value d) ∙ c.if-not-are_cases.true)

pub match_form-returns-then-not-are_cases-clause-reaches : goal.match_form-returns-then-not-are_cases-clause-reaches
match_form-returns-then-not-are_cases-clause-reaches t c = as_they_are c.args.sig.now

pub match_form-term-requires : goal.match_form-term-requires
match_form-term-requires t c =
    (omega (arith, nests_item c.args.args.now 0 c.index-args-0.result (omega arith) c.index-args-0.is, c.decreases), c.requires.variables)

pub match_form-returns-in_err-subject-clause-value : goal.match_form-returns-in_err-subject-clause-value
match_form-returns-in_err-subject-clause-value t c =
    let d = c.term.new.sig in
    let p = err_from_is_err_and c.from_residual.result c.from_residual.ensures.1 in
    rw (p.1, p.2) (stops_with c.args.needs d sorted_of sorted_of (elaborated d c.args.variables.now (expression_of c.index-args-0.result)) (match_form d c.args.variables.now (parts_of d (expressions_of c.args.args.now))) _
    (λ h e. match_stop (λ n. match_form n c.args.variables.now (parts_of n (expressions_of c.args.args.now))) c.args.variables.now c.index-args-0.result c.as_slice-cases.result.now (λ n. match-list n c.args.variables.now c.args.args.now c.index-args-0.result c.index-args-1.result c.in-List.cases c.as_slice-cases.result.now (two_of c.args.args.now c.index-args-0.result c.index-args-1.result c.if-args-ne2.false c.index-args-0.is c.index-args-1.is) c.in-List.is c.as_slice-cases.ensures.value ∙ cases-subject n c.args.variables.now (part_of n (expression_of c.index-args-0.result)) (parts_of n (expressions_of c.as_slice-cases.result.now)) (sym (c.are_cases.ensures.value n) ∙ c.if-not-are_cases.false)) c.args.sig.now c.term.new.sig c.in_err-subject.ensures.reaches h e) c.in_err-subject.ensures.value)

pub match_form-returns-in_err-subject-clause-reaches : goal.match_form-returns-in_err-subject-clause-reaches
match_form-returns-in_err-subject-clause-reaches t c = match_subject (λ n. match_form n c.args.variables.now (parts_of n (expressions_of c.args.args.now))) c.args.variables.now c.index-args-0.result c.as_slice-cases.result.now (λ n. match-list n c.args.variables.now c.args.args.now c.index-args-0.result c.index-args-1.result c.in-List.cases c.as_slice-cases.result.now (two_of c.args.args.now c.index-args-0.result c.index-args-1.result c.if-args-ne2.false c.index-args-0.is c.index-args-1.is) c.in-List.is c.as_slice-cases.ensures.value ∙ cases-subject n c.args.variables.now (part_of n (expression_of c.index-args-0.result)) (parts_of n (expressions_of c.as_slice-cases.result.now)) (sym (c.are_cases.ensures.value n) ∙ c.if-not-are_cases.false)) c.args.sig.now c.term.new.sig c.in_err-subject.ensures.reaches

pub match_form-returns-in_err-side-clause-value : goal.match_form-returns-in_err-side-clause-value
match_form-returns-in_err-side-clause-value t c =
    let d = c.term.new.sig in
    let p = err_from_is_err_and c.from_residual-in_err-side.result c.from_residual-in_err-side.ensures.1 in
    rw (p.1, p.2) (refused_with c.args.needs d as_it_is sorted_of (matchable d c.in_ok-subject.subject_sort) (match_form d c.args.variables.now (parts_of d (expressions_of c.args.args.now))) _
    (λ h e. match_refused (λ n. match_form n c.args.variables.now (parts_of n (expressions_of c.args.args.now))) c.args.variables.now c.index-args-0.result c.as_slice-cases.result.now (λ n. match-list n c.args.variables.now c.args.args.now c.index-args-0.result c.index-args-1.result c.in-List.cases c.as_slice-cases.result.now (two_of c.args.args.now c.index-args-0.result c.index-args-1.result c.if-args-ne2.false c.index-args-0.is c.index-args-1.is) c.in-List.is c.as_slice-cases.ensures.value ∙ cases-subject n c.args.variables.now (part_of n (expression_of c.index-args-0.result)) (parts_of n (expressions_of c.as_slice-cases.result.now)) (sym (c.are_cases.ensures.value n) ∙ c.if-not-are_cases.false)) c.args.sig.now c.term.new.sig c.in_ok-subject.ensures.reaches (formula_of c.in_ok-subject.subject, c.in_ok-subject.subject_sort) h c.in_ok-subject.ensures.value e) c.in_err-side.ensures.value)

pub match_form-returns-in_err-side-clause-reaches : goal.match_form-returns-in_err-side-clause-reaches
match_form-returns-in_err-side-clause-reaches t c = match_subject (λ n. match_form n c.args.variables.now (parts_of n (expressions_of c.args.args.now))) c.args.variables.now c.index-args-0.result c.as_slice-cases.result.now (λ n. match-list n c.args.variables.now c.args.args.now c.index-args-0.result c.index-args-1.result c.in-List.cases c.as_slice-cases.result.now (two_of c.args.args.now c.index-args-0.result c.index-args-1.result c.if-args-ne2.false c.index-args-0.is c.index-args-1.is) c.in-List.is c.as_slice-cases.ensures.value ∙ cases-subject n c.args.variables.now (part_of n (expression_of c.index-args-0.result)) (parts_of n (expressions_of c.as_slice-cases.result.now)) (sym (c.are_cases.ensures.value n) ∙ c.if-not-are_cases.false)) c.args.sig.now c.term.new.sig c.in_ok-subject.ensures.reaches

pub match_form-checked_cases-requires : goal.match_form-checked_cases-requires
match_form-checked_cases-requires t c =
    (omega (arith, nests_item c.args.args.now 1 c.index-args-1.result (omega arith) c.index-args-1.is, nests_list c.index-args-1.result c.in-List.cases c.as_slice-cases.result.now c.in-List.is c.as_slice-cases.ensures.value, c.decreases), (subst (ScopeIn c.term.new.sig) (sym c.in_ok-subject.ensures.restored) (scope_grows c.term.new.sig c.args.sig.now c.in_ok-subject.ensures.grown c.args.variables.now c.requires.variables), c.in_ok-side.ensures.inside))

pub match_form-returns-in_err-checked-clause-value : goal.match_form-returns-in_err-checked-clause-value
match_form-returns-in_err-checked-clause-value t c =
    let d = c.checked_cases.new.sig in
    let p = err_from_is_err_and c.from_residual-in_err-checked.result c.from_residual-in_err-checked.ensures.1 in
    rw (p.1, p.2) (stops_with c.args.needs d checked_of sorted_of (cases.so_far c.term.new.variables c.in_ok-side.side c.as_slice-cases.result.now d) (match_form d c.args.variables.now (parts_of d (expressions_of c.args.args.now))) _
    (λ h e. match_cases (λ n. match_form n c.args.variables.now (parts_of n (expressions_of c.args.args.now))) c.args.variables.now c.index-args-0.result c.as_slice-cases.result.now (λ n. match-list n c.args.variables.now c.args.args.now c.index-args-0.result c.index-args-1.result c.in-List.cases c.as_slice-cases.result.now (two_of c.args.args.now c.index-args-0.result c.index-args-1.result c.if-args-ne2.false c.index-args-0.is c.index-args-1.is) c.in-List.is c.as_slice-cases.ensures.value ∙ cases-subject n c.args.variables.now (part_of n (expression_of c.index-args-0.result)) (parts_of n (expressions_of c.as_slice-cases.result.now)) (sym (c.are_cases.ensures.value n) ∙ c.if-not-are_cases.false)) c.args.sig.now c.term.new.sig c.in_ok-subject.ensures.reaches c.sorts-2.ensures.consistent (scope_grows c.term.new.sig c.args.sig.now c.in_ok-subject.ensures.grown c.args.variables.now c.requires.variables) (formula_of c.in_ok-subject.subject, c.in_ok-subject.subject_sort) c.in_ok-subject.ensures.value c.in_ok-side.side (ap step c.in_ok-side.ensures.value) c.checked_cases.new.sig (subst (λ (s : List Variable). Reaches (λ n. checked_cases n s c.in_ok-side.side None (parts_of n (expressions_of c.as_slice-cases.result.now))) c.term.new.sig c.checked_cases.new.sig) c.in_ok-subject.ensures.restored c.in_err-checked.ensures.reaches)
    ∙ ap (λ (o : Elaborated Checked). and_then o (λ k. exhausted d (formula_of c.in_ok-subject.subject, c.in_ok-subject.subject_sort) k)) (ap (λ (s : List Variable). cases.so_far s c.in_ok-side.side c.as_slice-cases.result.now d) (sym c.in_ok-subject.ensures.restored) ∙ e)) c.in_err-checked.ensures.value)

pub match_form-returns-in_err-checked-clause-reaches : goal.match_form-returns-in_err-checked-clause-reaches
match_form-returns-in_err-checked-clause-reaches t c = match_reached (λ n. match_form n c.args.variables.now (parts_of n (expressions_of c.args.args.now))) c.args.variables.now c.index-args-0.result c.as_slice-cases.result.now (λ n. match-list n c.args.variables.now c.args.args.now c.index-args-0.result c.index-args-1.result c.in-List.cases c.as_slice-cases.result.now (two_of c.args.args.now c.index-args-0.result c.index-args-1.result c.if-args-ne2.false c.index-args-0.is c.index-args-1.is) c.in-List.is c.as_slice-cases.ensures.value ∙ cases-subject n c.args.variables.now (part_of n (expression_of c.index-args-0.result)) (parts_of n (expressions_of c.as_slice-cases.result.now)) (sym (c.are_cases.ensures.value n) ∙ c.if-not-are_cases.false)) c.args.sig.now c.term.new.sig c.in_ok-subject.ensures.reaches c.sorts-2.ensures.consistent (scope_grows c.term.new.sig c.args.sig.now c.in_ok-subject.ensures.grown c.args.variables.now c.requires.variables) (formula_of c.in_ok-subject.subject, c.in_ok-subject.subject_sort) c.in_ok-subject.ensures.value c.in_ok-side.side (ap step c.in_ok-side.ensures.value) c.checked_cases.new.sig (subst (λ (s : List Variable). Reaches (λ n. checked_cases n s c.in_ok-side.side None (parts_of n (expressions_of c.as_slice-cases.result.now))) c.term.new.sig c.checked_cases.new.sig) c.in_ok-subject.ensures.restored c.in_err-checked.ensures.reaches)

pub match_form-returns-in_err-checked-clause-grown : goal.match_form-returns-in_err-checked-clause-grown
match_form-returns-in_err-checked-clause-grown t c = extends_further c.checked_cases.new.sig c.term.new.sig c.args.sig.now c.in_err-checked.ensures.grown c.in_ok-subject.ensures.grown

pub match_form-returns-clause-value : goal.match_form-returns-clause-value
match_form-returns-clause-value t c =
    let d = c.checked_cases.new.sig in
    stops_along c.args.needs d sorted_of (match_form d c.args.variables.now (parts_of d (expressions_of c.args.args.now))) (exhausted d (formula_of c.in_ok-subject.subject, c.in_ok-subject.subject_sort) (checked_of c.in_ok-checked.checked)) c.match_tree.result
    (match_cases (λ n. match_form n c.args.variables.now (parts_of n (expressions_of c.args.args.now))) c.args.variables.now c.index-args-0.result c.as_slice-cases.result.now (λ n. match-list n c.args.variables.now c.args.args.now c.index-args-0.result c.index-args-1.result c.in-List.cases c.as_slice-cases.result.now (two_of c.args.args.now c.index-args-0.result c.index-args-1.result c.if-args-ne2.false c.index-args-0.is c.index-args-1.is) c.in-List.is c.as_slice-cases.ensures.value ∙ cases-subject n c.args.variables.now (part_of n (expression_of c.index-args-0.result)) (parts_of n (expressions_of c.as_slice-cases.result.now)) (sym (c.are_cases.ensures.value n) ∙ c.if-not-are_cases.false)) c.args.sig.now c.term.new.sig c.in_ok-subject.ensures.reaches c.sorts-2.ensures.consistent (scope_grows c.term.new.sig c.args.sig.now c.in_ok-subject.ensures.grown c.args.variables.now c.requires.variables) (formula_of c.in_ok-subject.subject, c.in_ok-subject.subject_sort) c.in_ok-subject.ensures.value c.in_ok-side.side (ap step c.in_ok-side.ensures.value) c.checked_cases.new.sig (subst (λ (s : List Variable). Reaches (λ n. checked_cases n s c.in_ok-side.side None (parts_of n (expressions_of c.as_slice-cases.result.now))) c.term.new.sig c.checked_cases.new.sig) c.in_ok-subject.ensures.restored c.in_ok-checked.ensures.reaches)
    ∙ ap (λ (o : Elaborated Checked). and_then o (λ k. exhausted d (formula_of c.in_ok-subject.subject, c.in_ok-subject.subject_sort) k)) (ap (λ (s : List Variable). cases.so_far s c.in_ok-side.side c.as_slice-cases.result.now d) (sym c.in_ok-subject.ensures.restored) ∙ c.in_ok-checked.ensures.value))
    (c.match_tree.ensures.value c.args.needs)

pub match_form-returns-clause-reaches : goal.match_form-returns-clause-reaches
match_form-returns-clause-reaches t c = match_reached (λ n. match_form n c.args.variables.now (parts_of n (expressions_of c.args.args.now))) c.args.variables.now c.index-args-0.result c.as_slice-cases.result.now (λ n. match-list n c.args.variables.now c.args.args.now c.index-args-0.result c.index-args-1.result c.in-List.cases c.as_slice-cases.result.now (two_of c.args.args.now c.index-args-0.result c.index-args-1.result c.if-args-ne2.false c.index-args-0.is c.index-args-1.is) c.in-List.is c.as_slice-cases.ensures.value ∙ cases-subject n c.args.variables.now (part_of n (expression_of c.index-args-0.result)) (parts_of n (expressions_of c.as_slice-cases.result.now)) (sym (c.are_cases.ensures.value n) ∙ c.if-not-are_cases.false)) c.args.sig.now c.term.new.sig c.in_ok-subject.ensures.reaches c.sorts-2.ensures.consistent (scope_grows c.term.new.sig c.args.sig.now c.in_ok-subject.ensures.grown c.args.variables.now c.requires.variables) (formula_of c.in_ok-subject.subject, c.in_ok-subject.subject_sort) c.in_ok-subject.ensures.value c.in_ok-side.side (ap step c.in_ok-side.ensures.value) c.checked_cases.new.sig (subst (λ (s : List Variable). Reaches (λ n. checked_cases n s c.in_ok-side.side None (parts_of n (expressions_of c.as_slice-cases.result.now))) c.term.new.sig c.checked_cases.new.sig) c.in_ok-subject.ensures.restored c.in_ok-checked.ensures.reaches)

pub match_form-returns-clause-grown : goal.match_form-returns-clause-grown
match_form-returns-clause-grown t c = extends_further c.checked_cases.new.sig c.term.new.sig c.args.sig.now c.in_ok-checked.ensures.grown c.in_ok-subject.ensures.grown

-- ---- quantified_form

pub quantified_form-returns-then-args-ne2-clause-value : goal.quantified_form-returns-then-args-ne2-clause-value
quantified_form-returns-then-args-ne2-clause-value t c = quantified-length c.args.sig.now c.args.variables.now c.args.quantifier c.args.args.now c.if-args-ne2.true

pub quantified_form-returns-then-args-ne2-clause-reaches : goal.quantified_form-returns-then-args-ne2-clause-reaches
quantified_form-returns-then-args-ne2-clause-reaches t c = as_they_are c.args.sig.now

pub quantified_form-returns-in_err-inner-clause-value : goal.quantified_form-returns-in_err-inner-clause-value
quantified_form-returns-in_err-inner-clause-value t c =
    let d = c.quantified_variables.new.sig in
    let scope = c.args.variables.now in
    let q = c.args.quantifier in
    let body = expression_of c.index-args-1.result in
    let p = err_from_is_err_and c.from_residual.result c.from_residual.ensures.1 in
    rw (p.1, p.2) (stops_head c.args.needs d (λ n. quantified_form n scope q (parts_of n (expressions_of c.args.args.now))) (with_list scope q c.index-args-0.result body) (λ n r. with_body scope q body r n) sorted_of _
    (quantified-items d scope q c.args.args.now c.index-args-0.result c.index-args-1.result (two_of c.args.args.now c.index-args-0.result c.index-args-1.result c.if-args-ne2.false c.index-args-0.is c.index-args-1.is))
    (c.in_err-inner.ensures.value scope q body))

pub quantified_form-returns-in_err-inner-clause-reaches : goal.quantified_form-returns-in_err-inner-clause-reaches
quantified_form-returns-in_err-inner-clause-reaches t c =
    let scope = c.args.variables.now in
    let q = c.args.quantifier in
    reaches_same (with_list scope q c.index-args-0.result (expression_of c.index-args-1.result)) (λ n. quantified_form n scope q (parts_of n (expressions_of c.args.args.now))) c.args.sig.now c.quantified_variables.new.sig
    (λ n _. quantified-items n scope q c.args.args.now c.index-args-0.result c.index-args-1.result (two_of c.args.args.now c.index-args-0.result c.index-args-1.result c.if-args-ne2.false c.index-args-0.is c.index-args-1.is))
    (c.in_err-inner.ensures.reaches scope q (expression_of c.index-args-1.result))

pub quantified_form-under-requires : goal.quantified_form-under-requires
quantified_form-under-requires t c =
    let d = c.quantified_variables.new.sig in (
      omega (arith, nests_item c.args.args.now 1 c.index-args-1.result (omega arith) c.index-args-1.is, c.decreases),
      (
        scope_grows d c.args.sig.now c.in_ok-inner.ensures.grown c.args.variables.now c.requires.variables,
        subst (λ (xs : List BoundVariable). ScopeIn d (map variable_of xs)) (sym c.as_slice-bound.ensures.value) c.in_ok-inner.ensures.inside,
      ),
    )

pub quantified_form-returns-in_err-tree-clause-value : goal.quantified_form-returns-in_err-tree-clause-value
quantified_form-returns-in_err-tree-clause-value t c =
    let d = c.under.new.sig in
    let scope = c.args.variables.now in
    let q = c.args.quantifier in
    let body = expression_of c.index-args-1.result in
    let p = err_from_is_err_and c.from_residual-in_err-tree.result c.from_residual-in_err-tree.ensures.1 in
    rw (p.1, p.2) (stops_with c.args.needs d sorted_of sorted_of (elaborated d (bind (map variable_of c.as_slice-bound.result.now) scope) body) (quantified_form d scope q (parts_of d (expressions_of c.args.args.now))) _
    (body_stop (λ n. quantified_form n scope q (parts_of n (expressions_of c.args.args.now))) scope q c.index-args-0.result body
    (λ n. quantified-items n scope q c.args.args.now c.index-args-0.result c.index-args-1.result (two_of c.args.args.now c.index-args-0.result c.index-args-1.result c.if-args-ne2.false c.index-args-0.is c.index-args-1.is))
    c.in_ok-inner.inner c.args.sig.now c.quantified_variables.new.sig (c.in_ok-inner.ensures.value scope q body) (c.in_ok-inner.ensures.reaches scope q body) c.as_slice-bound.result.now c.as_slice-bound.ensures.value d c.in_err-tree.ensures.reaches)
    c.in_err-tree.ensures.value)

pub quantified_form-returns-in_err-tree-clause-reaches : goal.quantified_form-returns-in_err-tree-clause-reaches
quantified_form-returns-in_err-tree-clause-reaches t c =
    let d = c.under.new.sig in
    let scope = c.args.variables.now in
    let q = c.args.quantifier in
    let body = expression_of c.index-args-1.result in
    body_reached (λ n. quantified_form n scope q (parts_of n (expressions_of c.args.args.now))) scope q c.index-args-0.result body
    (λ n. quantified-items n scope q c.args.args.now c.index-args-0.result c.index-args-1.result (two_of c.args.args.now c.index-args-0.result c.index-args-1.result c.if-args-ne2.false c.index-args-0.is c.index-args-1.is))
    c.in_ok-inner.inner c.args.sig.now c.quantified_variables.new.sig (c.in_ok-inner.ensures.value scope q body) (c.in_ok-inner.ensures.reaches scope q body) c.as_slice-bound.result.now c.as_slice-bound.ensures.value d c.in_err-tree.ensures.reaches

pub quantified_form-returns-in_err-tree-clause-grown : goal.quantified_form-returns-in_err-tree-clause-grown
quantified_form-returns-in_err-tree-clause-grown t c = extends_further c.under.new.sig c.quantified_variables.new.sig c.args.sig.now c.in_err-tree.ensures.grown c.in_ok-inner.ensures.grown

pub quantified_form-returns-clause-value : goal.quantified_form-returns-clause-value
quantified_form-returns-clause-value t c =
    let d = c.under.new.sig in
    let scope = c.args.variables.now in
    let q = c.args.quantifier in
    let body = expression_of c.index-args-1.result in
    stops_along c.args.needs d sorted_of (quantified_form d scope q (parts_of d (expressions_of c.args.args.now))) (quantified_with q c.in_ok-inner.inner.sorts.items (sorted_of (c.in_ok-tree.tree, c.in_ok-tree.sort))) c.quantified_tree.result
    (body_met (λ n. quantified_form n scope q (parts_of n (expressions_of c.args.args.now))) scope q c.index-args-0.result body
    (λ n. quantified-items n scope q c.args.args.now c.index-args-0.result c.index-args-1.result (two_of c.args.args.now c.index-args-0.result c.index-args-1.result c.if-args-ne2.false c.index-args-0.is c.index-args-1.is))
    c.in_ok-inner.inner c.args.sig.now c.quantified_variables.new.sig (c.in_ok-inner.ensures.value scope q body) (c.in_ok-inner.ensures.reaches scope q body) c.as_slice-bound.result.now c.as_slice-bound.ensures.value d c.in_ok-tree.ensures.reaches (sorted_of (c.in_ok-tree.tree, c.in_ok-tree.sort)) c.in_ok-tree.ensures.value)
    (c.quantified_tree.ensures.value c.args.needs d)

pub quantified_form-returns-clause-reaches : goal.quantified_form-returns-clause-reaches
quantified_form-returns-clause-reaches t c =
    let d = c.under.new.sig in
    let scope = c.args.variables.now in
    let q = c.args.quantifier in
    let body = expression_of c.index-args-1.result in
    body_reached (λ n. quantified_form n scope q (parts_of n (expressions_of c.args.args.now))) scope q c.index-args-0.result body
    (λ n. quantified-items n scope q c.args.args.now c.index-args-0.result c.index-args-1.result (two_of c.args.args.now c.index-args-0.result c.index-args-1.result c.if-args-ne2.false c.index-args-0.is c.index-args-1.is))
    c.in_ok-inner.inner c.args.sig.now c.quantified_variables.new.sig (c.in_ok-inner.ensures.value scope q body) (c.in_ok-inner.ensures.reaches scope q body) c.as_slice-bound.result.now c.as_slice-bound.ensures.value d c.in_ok-tree.ensures.reaches

pub quantified_form-returns-clause-grown : goal.quantified_form-returns-clause-grown
quantified_form-returns-clause-grown t c = extends_further c.under.new.sig c.quantified_variables.new.sig c.args.sig.now c.in_ok-tree.ensures.grown c.in_ok-inner.ensures.grown
