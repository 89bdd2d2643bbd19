use Rattle.std.proofs.Common.{[], map}
use Rattle.std.proofs.lemmas.Result.{err_from_is_err_and}
use Rattle.ct_lemmas.proofs.Options.{IfOk-map}
use Rattle.ct_formulas.specs.TreeFormula.{formula_of}
use Rattle.ct_names.specs.Needs.{ends_with}
use Rattle.ct_names.specs.Refusals.{out_of_scope}
use Rattle.ct_names.specs.Elaboration.{elaborated}
use Rattle.ct_command.specs.Seen.{all_seen}
use Rattle.ct_stack.specs.Outcomes.{each_of}
use Rattle.ct_stack.specs.Stack.{cores}
use Rattle.ct_stack.specs.Held.{context_in}
use Rattle.ct_stack.specs.Sorts.{terms_seen}
use Rattle.ct_stack.proofs.ErrorLemmas.{refusal_of, same_refusal}
use Rattle.ct_stack.proofs.ValueLemmas.{there, AreSortedTerms-each, AreSortedTerms-long, terms-long, terms_refused, terms_too_many, terms_accepted, values_of_terms}
use Rattle.ct_stack.proofs.ModelLemmas.{many_beside, in_any_case}
use Rattle.ct_stack.proofs.value.values_text.Goals as goal

pub returns-in_err-terms-clause-refused : goal.returns-in_err-terms-clause-refused
returns-in_err-terms-clause-refused c =
    let p = err_from_is_err_and c.from_residual.result c.from_residual.ensures.1 in
    rw (p.1, p.2)
    (λ n e roots of.
    terms_refused (context_in c.args.scope.now) roots (all_seen c.args.exprs.now) n
    (refusal_of terms_seen (ends_with out_of_scope (each_of (elaborated c.args.scope.now.sig []) (all_seen c.args.exprs.now))) _ n e c.in_err-terms.ensures.value))

pub has_room-requires-clause-sorted : goal.has_room-requires-clause-sorted
has_room-requires-clause-sorted c =
    let terms = c.in_ok-terms.terms in
    rw (c.as_slice-trees.ensures.value, c.valued_terms.ensures.kept) (AreSortedTerms-each c.args.scope.now.sig terms.0.items terms.1.items c.in_ok-terms.ensures.sorted)

pub returns-in_err-has_room-clause-refused : goal.returns-in_err-has_room-clause-refused
returns-in_err-has_room-clause-refused c =
    let terms = c.in_ok-terms.terms in
    let p = err_from_is_err_and c.from_residual-in_err-has_room.result c.from_residual-in_err-has_room.ensures.1 in
    let said = rw (c.as_slice-trees.ensures.value, c.valued_terms.ensures.kept) at c.in_err-has_room.ensures.refused in
    rw (p.1, p.2)
    (λ n e roots of.
    terms_too_many (context_in c.args.scope.now) roots (all_seen c.args.exprs.now) terms.0.items terms.1.items (AreSortedTerms-long c.args.scope.now.sig terms.0.items terms.1.items c.in_ok-terms.ensures.sorted) (there out_of_scope (each_of (elaborated c.args.scope.now.sig []) (all_seen c.args.exprs.now)) (terms_seen c.in_ok-terms.terms) c.in_ok-terms.ensures.value) n (said n (same_refusal _ n e)).0 ((said n (same_refusal _ n e)).1 roots of))

pub compiled_values-requires-clause-sorted : goal.compiled_values-requires-clause-sorted
compiled_values-requires-clause-sorted c =
    let terms = c.in_ok-terms.terms in
    rw (c.as_slice-trees.ensures.value, c.valued_terms.ensures.kept) (AreSortedTerms-each c.args.scope.now.sig terms.0.items terms.1.items c.in_ok-terms.ensures.sorted)

pub compiled_values-requires-clause-one_each : goal.compiled_values-requires-clause-one_each
compiled_values-requires-clause-one_each c =
    let terms = c.in_ok-terms.terms in
    rw c.as_slice-trees.ensures.value (terms-long c.args.scope.now.sig c.args.exprs.now terms.0.items terms.1.items (there out_of_scope (each_of (elaborated c.args.scope.now.sig []) (all_seen c.args.exprs.now)) (terms_seen c.in_ok-terms.terms) c.in_ok-terms.ensures.value) c.in_ok-terms.ensures.sorted)

pub returns-clause-values : goal.returns-clause-values
returns-clause-values c =
    let terms = c.in_ok-terms.terms in
    let said = rw (c.as_slice-trees.ensures.value, c.valued_terms.ensures.kept) at c.compiled_values.ensures.values in
    IfOk-map c.compiled_values.result _ _
    (λ t h. record { pairs = h.pairs; pairs_are = values_of_terms (context_in c.args.scope.now) c.args.interp.now c.args.exprs.now terms.0.items terms.1.items h.pairs (there out_of_scope (each_of (elaborated c.args.scope.now.sig []) (all_seen c.args.exprs.now)) (terms_seen c.in_ok-terms.terms) c.in_ok-terms.ensures.value) h.pairs_are; text_is = h.text_is })
    said

pub returns-clause-accepted : goal.returns-clause-accepted
returns-clause-accepted c =
    let terms = c.in_ok-terms.terms in
    let said = rw (c.as_slice-trees.ensures.value, c.valued_terms.ensures.kept) at c.in_ok-has_room.ensures.accepted in
    in_any_case c.compiled_values.result _
    (λ roots of n. terms_accepted (context_in c.args.scope.now) roots (all_seen c.args.exprs.now) terms.0.items terms.1.items (AreSortedTerms-long c.args.scope.now.sig terms.0.items terms.1.items c.in_ok-terms.ensures.sorted) (there out_of_scope (each_of (elaborated c.args.scope.now.sig []) (all_seen c.args.exprs.now)) (terms_seen c.in_ok-terms.terms) c.in_ok-terms.ensures.value) (said roots of) n)

pub returns-clause-refused : goal.returns-clause-refused
returns-clause-refused c =
    let terms = c.in_ok-terms.terms in
    let said = rw (c.as_slice-trees.ensures.value, c.valued_terms.ensures.kept) at c.compiled_values.ensures.refused in
    λ n e roots of.
    terms_too_many (context_in c.args.scope.now) roots (all_seen c.args.exprs.now) terms.0.items terms.1.items (AreSortedTerms-long c.args.scope.now.sig terms.0.items terms.1.items c.in_ok-terms.ensures.sorted) (there out_of_scope (each_of (elaborated c.args.scope.now.sig []) (all_seen c.args.exprs.now)) (terms_seen c.in_ok-terms.terms) c.in_ok-terms.ensures.value) n (said n e).0
    (many_beside roots (cores (context_in c.args.scope.now) (map formula_of terms.0.items)) (said n e).1)
