use Rattle.std.proofs.Common.{true, false, Ok, refl, sym, ◌∙◌, ap}
use Rattle.std.proofs.lemmas.Result.{err_from_is_err_and}
use Rattle.ct_sorts.specs.Declarations.{bool_sort}
use Rattle.ct_formulas.specs.TreeFormula.{formula_of}
use Rattle.ct_names.proofs.AnswerLemmas.{stops_memory}
use Rattle.ct_check.specs.Quantifiers.{quantified_with}
use Rattle.ct_check.specs.Trees.{sorted_of}
use Rattle.ct_check.proofs.QuantifierLemmas.{body_is}
use Rattle.ct_check.proofs.quantifiers.quantified_tree.Goals as goal

pub returns-then-not-is_sort : goal.returns-then-not-is_sort
returns-then-not-is_sort c = record { value = λ needs d. body_is c.args.quantifier c.args.sorts.items (formula_of c.args.body) c.args.sort false (sym c.is_sort.ensures.value ∙ c.if-not-is_sort.true) }

pub returns-in_err-over : goal.returns-in_err-over
returns-in_err-over c =
    let p = err_from_is_err_and c.from_residual.result c.from_residual.ensures.1 in
    record { value = λ needs d. rw (p.1, p.2) (stops_memory needs d sorted_of (quantified_with c.args.quantifier c.args.sorts.items (formula_of c.args.body, c.args.sort)) _ c.in_err-over.ensures.err) }

pub returns : goal.returns
returns c = record { value = λ needs d. body_is c.args.quantifier c.args.sorts.items (formula_of c.args.body) c.args.sort true (sym c.is_sort.ensures.value ∙ c.if-not-is_sort.false) ∙ ap (λ f. Ok (f, bool_sort)) (sym c.in_ok-over.ensures.ok) }
