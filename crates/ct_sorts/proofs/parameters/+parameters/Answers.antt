use Rattle.std.proofs.Common.{Some, slice_get, sym, ap, subst, refl, ◌∙◌, ⊎_elim, arith}
use Rattle.std.proofs.lemmas.Bool.{false≢true}
use Rattle.std.proofs.lemmas.Option.{same_Some, slice_get-get_or, slice_get_within}
use Rattle.ct_lemmas.proofs.Numbers.{last_or_before}
use Rattle.ct_generics.specs.declared.expr.SortExpr.{SortExpr}
use Rattle.ct_sorts.specs.Written.{AreParametersBelow}
use Rattle.ct_sorts.proofs.ParameterLemmas.{all_below, one_below}
use Rattle.ct_sorts.proofs.parameters.+parameters.Goals as goal

pub are_all_below-returns-then-not-are_parameters_below : goal.are_all_below-returns-then-not-are_parameters_below
are_all_below-returns-then-not-are_parameters_below t c =
    let exprs = c.args.exprs.now in
    let i = c.loop-expr.expr-index in
    let expr = c.expr-item.result in
    let at = slice_get-get_or exprs i expr c.loop-expr-test.true ∙ ap (λ (e : SortExpr). Some e) (sym c.expr-item.is) in
    record { below = (λ h. absurd (false≢true h), λ all. absurd (false≢true (sym c.if-not-are_parameters_below.true ∙ c.are_parameters_below.ensures.below.1 (one_below c.args.params exprs i expr all at)))) }

pub are_all_below-loop-expr-preserved : goal.are_all_below-loop-expr-preserved
are_all_below-loop-expr-preserved t c j e less at =
    let exprs = c.args.exprs.now in
    let i = c.loop-expr.expr-index in
    let expr = c.expr-item.result in
    let at_i = slice_get-get_or exprs i expr c.loop-expr-test.true ∙ ap (λ (x : SortExpr). Some x) (sym c.expr-item.is) in
    ⊎_elim (λ before. c.loop-expr.invariant j e before at)
    (λ last. subst (AreParametersBelow c.args.params) (same_Some expr e (sym at_i ∙ ap (slice_get exprs) (sym last) ∙ at)) (c.are_parameters_below.ensures.below.0 c.if-not-are_parameters_below.false)) (last_or_before j i less)

pub are_all_below-returns : goal.are_all_below-returns
are_all_below-returns t c =
    let exprs = c.args.exprs.now in
    record { below = (λ _. all_below c.args.params exprs (λ j e at. c.loop-expr.invariant j e (omega (arith, slice_get_within exprs j e at, c.loop-expr-test.false)) at), λ _. refl) }
