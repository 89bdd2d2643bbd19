use Rattle.std.proofs.Common.{ℕ, List, Option, Vec, Global, map, sym, ap, ◌∙◌}
use Rattle.std.proofs.lemmas.Result.{err_from_is_err_and}
use Rattle.std.specs.Borrow.{Bor}
use Rattle.ct_sexpr.specs.View.{expressions_of}
use Rattle.ct_check.specs.Binders.{with_names}
use Rattle.ct_names.specs.Bounds.{held_name}
use Rattle.ct_names.specs.Elaboration.{parts_of}
use Rattle.ct_names.specs.Variables.{present_names, has_repeated}
use Rattle.ct_check.proofs.HaltLemmas.{continues_memory, stop_memory}
use Rattle.ct_check.proofs.BinderLemmas.{bound-empty, bound-other, bound-repeated, bound-names, empty_is, some_are}
use Rattle.ct_check.proofs.binders.binding_names.Goals as goal

pub returns-then-is_empty : goal.returns-then-is_empty
returns-then-is_empty c = record { value = λ needs d next. bound-empty d c.args.bindings.now next (empty_is c.args.bindings.now c.is_empty.result c.is_empty.ensures c.if-is_empty.true) }

pub returns-then-not-are_bindings : goal.returns-then-not-are_bindings
returns-then-not-are_bindings c = record { value = λ needs d next. bound-other (parts_of d (expressions_of c.args.bindings.now)) next (sym (c.are_bindings.ensures.value d) ∙ c.if-not-are_bindings.true) }

pub returns-in_err-names : goal.returns-in_err-names
returns-in_err-names c =
    let p = err_from_is_err_and c.from_residual.result c.from_residual.ensures.1 in
    record { value = λ needs d next. rw (p.1, p.2) (continues_memory needs d (with_names (parts_of d (expressions_of c.args.bindings.now)) next) (λ (names : Vec (Option (Bor (List ℕ))) Global). next (map held_name names.items)) _ (stop_memory _ c.in_err-names.ensures.err)) }

pub returns-in_err-repeated : goal.returns-in_err-repeated
returns-in_err-repeated c =
    let p = err_from_is_err_and c.from_residual-in_err-repeated.result c.from_residual-in_err-repeated.ensures.1 in
    record { value = λ needs d next. rw (p.1, p.2) (continues_memory needs d (with_names (parts_of d (expressions_of c.args.bindings.now)) next) (λ (names : Vec (Option (Bor (List ℕ))) Global). next (map held_name names.items)) _ (stop_memory _ c.in_err-repeated.ensures.err)) }

pub returns-then-repeated : goal.returns-then-repeated
returns-then-repeated c = record { value = λ needs d next. bound-repeated d c.args.bindings.now next (map held_name c.in_ok-names.names.items) (some_are c.args.bindings.now c.is_empty.result c.is_empty.ensures c.if-is_empty.false) (sym (c.are_bindings.ensures.value d) ∙ c.if-not-are_bindings.false) (c.in_ok-names.ensures.ok d) (ap (λ ns. has_repeated (present_names (map held_name ns))) (sym c.as_slice.ensures.value) ∙ sym c.in_ok-repeated.ensures.value ∙ c.if-repeated.true) }

pub returns : goal.returns
returns c = record { value = λ needs d next. bound-names d c.args.bindings.now next (map held_name c.in_ok-names.names.items) (some_are c.args.bindings.now c.is_empty.result c.is_empty.ensures c.if-is_empty.false) (sym (c.are_bindings.ensures.value d) ∙ c.if-not-are_bindings.false) (c.in_ok-names.ensures.ok d) (ap (λ ns. has_repeated (present_names (map held_name ns))) (sym c.as_slice.ensures.value) ∙ sym c.in_ok-repeated.ensures.value ∙ c.if-repeated.false) }
