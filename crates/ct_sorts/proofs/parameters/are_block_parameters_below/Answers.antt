use Rattle.std.proofs.Common.{Some, slice_get, sym, ap, subst, refl, ◌∙◌, ⊎_elim, arith}
use Rattle.std.proofs.lemmas.Bool.{false≢true}
use Rattle.std.proofs.lemmas.Option.{same_Some, slice_get-get_or, slice_get_within}
use Rattle.ct_lemmas.proofs.Each.{All-at, All-from_slice_get}
use Rattle.ct_lemmas.proofs.Numbers.{last_or_before}
use Rattle.ct_generics.specs.declared.decl.SortDecl.{SortDecl}
use Rattle.ct_sorts.proofs.ParameterLemmas.{IsDeclBelow}
use Rattle.ct_sorts.proofs.parameters.are_block_parameters_below.Goals as goal

pub returns-then-not-are_decl_parameters_below : goal.returns-then-not-are_decl_parameters_below
returns-then-not-are_decl_parameters_below c =
    let block = c.args.block.now in
    let i = c.loop-decl.decl-index in
    let decl = c.decl-item.result in
    let at = slice_get-get_or block i decl c.loop-decl-test.true ∙ ap (λ (s : SortDecl). Some s) (sym c.decl-item.is) in
    record { below = (λ h. absurd (false≢true h), λ all. absurd (false≢true (sym c.if-not-are_decl_parameters_below.true ∙ c.are_decl_parameters_below.ensures.below.1 (All-at IsDeclBelow block i decl all at)))) }

pub loop-decl-preserved : goal.loop-decl-preserved
loop-decl-preserved c j s less at =
    let block = c.args.block.now in
    let i = c.loop-decl.decl-index in
    let decl = c.decl-item.result in
    let at_i = slice_get-get_or block i decl c.loop-decl-test.true ∙ ap (λ (x : SortDecl). Some x) (sym c.decl-item.is) in
    ⊎_elim (λ before. c.loop-decl.invariant j s before at)
    (λ last. subst IsDeclBelow (same_Some decl s (sym at_i ∙ ap (slice_get block) (sym last) ∙ at)) (c.are_decl_parameters_below.ensures.below.0 c.if-not-are_decl_parameters_below.false)) (last_or_before j i less)

pub returns : goal.returns
returns c =
    let block = c.args.block.now in
    record { below = (λ _. All-from_slice_get IsDeclBelow block (λ j s at. c.loop-decl.invariant j s (omega (arith, slice_get_within block j s at, c.loop-decl-test.false)) at), λ _. refl) }
