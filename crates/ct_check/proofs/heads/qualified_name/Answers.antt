use Rattle.std.proofs.Common.{◌≡◌, false, is_some, sym, ap, ◌∙◌}
use Rattle.std.proofs.lemmas.Result.{err_from_is_err_and}
use Rattle.ct_sexpr.specs.View.{expression_of}
use Rattle.ct_names.specs.Answer.{as_it_is}
use Rattle.ct_names.specs.Outcome.{and_then, step}
use Rattle.ct_names.specs.Parts.{with_part, no_parts}
use Rattle.ct_names.specs.Sorts.{sort_of, sort_of_part}
use Rattle.ct_names.specs.Symbols.{symbol_of}
use Rattle.ct_names.specs.Variables.{find}
use Rattle.ct_names.specs.Elaboration.{part_of, may_qualify, of_result, qualified_symbol}
use Rattle.ct_names.proofs.AnswerLemmas.{stops_along, stops_error}
use Rattle.ct_names.proofs.LastingLemmas.{symbol_declared}
use Rattle.ct_names.proofs.NeedLemmas.{reaches_first, reaches_same, reaches_grows}
use Rattle.ct_check.proofs.HeadLemmas.{unfound}
use Rattle.ct_check.proofs.HeadCases.{qualified_named, qualified_at}
use Rattle.ct_check.proofs.heads.qualified_name.Goals as goal

pub returns-in_err-symbol-clause-value : goal.returns-in_err-symbol-clause-value
returns-in_err-symbol-clause-value c =
    let d = c.args.sig.now in
    let scope = c.args.variables.now in
    let f = part_of d (expression_of c.args.f.now) in
    let sort = part_of d (expression_of c.args.sort.now) in
    let name = c.in-Some.name.now in
    let free : is_some (find scope name) ≡ false = unfound c.find.result _ c.find.ensures.found (sym c.is_some.ensures ∙ c.if-is_some.false) in
    let p = err_from_is_err_and c.from_residual.result c.from_residual.ensures.1 in
    rw (p.1, p.2) (stops_error c.args.needs d as_it_is as_it_is _ (step (may_qualify (symbol_of d name))) (λ s. and_then (sort_of_part d sort) (λ t. step (of_result d s t))) c.in_err-symbol.field-0.0 (qualified_named d scope f sort name (c.in-Some.ensures.name d) free) (c.in_err-symbol.ensures.value c.args.needs))

pub returns-in_err-wanted-clause-value : goal.returns-in_err-wanted-clause-value
returns-in_err-wanted-clause-value c =
    let old = c.args.sig.now in
    let d = c.named_sort.new.sig in
    let scope = c.args.variables.now in
    let f = expression_of c.args.f.now in
    let e = expression_of c.args.sort.now in
    let free : is_some (find scope c.in-Some.name.now) ≡ false = unfound c.find.result _ c.find.ensures.found (sym c.is_some.ensures ∙ c.if-is_some.false) in
    let s = c.in_ok-symbol.symbol in
    let at = qualified_at old c.sorts.ensures.consistent scope f e c.in-Some.name.now s c.in-Some.ensures.name free (c.in_ok-symbol.ensures.value c.args.needs) in
    let p = err_from_is_err_and c.from_residual-in_err-wanted.result c.from_residual-in_err-wanted.ensures.1 in
    rw (p.1, p.2) (stops_error c.args.needs d as_it_is as_it_is _ (sort_of d e) (λ t. step (of_result d s t)) c.in_err-wanted.field-0.0 (at d (reaches_grows (λ n. sort_of n e) old d c.in_err-wanted.ensures.reaches)) c.in_err-wanted.ensures.value)

pub of_result-requires-clause-symbol : goal.of_result-requires-clause-symbol
of_result-requires-clause-symbol c =
    let old = c.args.sig.now in
    let d = c.named_sort.new.sig in
    symbol_declared d old (reaches_grows (λ n. sort_of n (expression_of c.args.sort.now)) old d c.in_ok-wanted.ensures.reaches) c.sorts.ensures.consistent c.in_ok-symbol.symbol c.in_ok-symbol.ensures.inside

pub returns-clause-value : goal.returns-clause-value
returns-clause-value c =
    let old = c.args.sig.now in
    let d = c.named_sort.new.sig in
    let scope = c.args.variables.now in
    let f = expression_of c.args.f.now in
    let e = expression_of c.args.sort.now in
    let free : is_some (find scope c.in-Some.name.now) ≡ false = unfound c.find.result _ c.find.ensures.found (sym c.is_some.ensures ∙ c.if-is_some.false) in
    let s = c.in_ok-symbol.symbol in
    let at = qualified_at old c.sorts.ensures.consistent scope f e c.in-Some.name.now s c.in-Some.ensures.name free (c.in_ok-symbol.ensures.value c.args.needs) in
    stops_along c.args.needs d as_it_is _ (step (of_result d s c.in_ok-wanted.wanted)) c.of_result.result
    (at d (reaches_grows (λ n. sort_of n e) old d c.in_ok-wanted.ensures.reaches) ∙ ap (λ o. and_then o (λ t. step (of_result d s t))) c.in_ok-wanted.ensures.value)
    (c.of_result.ensures.value c.args.needs)

pub returns-clause-reaches : goal.returns-clause-reaches
returns-clause-reaches c =
    let old = c.args.sig.now in
    let d = c.named_sort.new.sig in
    let scope = c.args.variables.now in
    let f = expression_of c.args.f.now in
    let e = expression_of c.args.sort.now in
    let free : is_some (find scope c.in-Some.name.now) ≡ false = unfound c.find.result _ c.find.ensures.found (sym c.is_some.ensures ∙ c.if-is_some.false) in
    let s = c.in_ok-symbol.symbol in
    let at = qualified_at old c.sorts.ensures.consistent scope f e c.in-Some.name.now s c.in-Some.ensures.name free (c.in_ok-symbol.ensures.value c.args.needs) in
    reaches_same (λ m. and_then (sort_of m e) (λ t. step (of_result m s t))) (λ m. qualified_symbol m scope (with_part (part_of m f) (with_part (part_of m e) no_parts))) old d at
    (reaches_first (λ m. sort_of m e) (λ m t. step (of_result m s t)) old d c.in_ok-wanted.ensures.reaches)
