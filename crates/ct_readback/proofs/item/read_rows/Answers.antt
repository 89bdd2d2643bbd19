use Rattle.std.proofs.Common.{◌≡◌, Some, option_map, length, refl, sym, ap, subst, ◌∙◌}
use Rattle.ct_sexpr.specs.Expression.{Expression, Expressions}
use Rattle.ct_sexpr.specs.View.{expression_of, expressions_of}
use Rattle.ct_readback.specs.Rows.{first_row, body_row, after_tests}
use Rattle.ct_readback.specs.BodySoFar.{StandsBefore}
use Rattle.ct_readback.proofs.item.read_rows.Goals as goal

pub returns-in-Some-clause-read : goal.returns-in-Some-clause-read
returns-in-Some-clause-read c = λ body left rest so_far chosen.
    let n = length c.args.sorts.now in
    let test = expression_of c.args.test.now in
    let value = expression_of c.args.value.now in
    let (first, others, are, row) = c.in-Some.ensures.some (test, value, rest) refl in
    let written : body_row n left ≡ Some (first, value, after_tests others value rest) = ap (option_map first_row) chosen ∙ ap (λ (x : Expression × Expression × Expression). Some x) row in
    let stands = subst (λ (es : Expressions). StandsBefore n es value rest left) (sym are) written in
    c.in_ok-fits.ensures.read body left rest so_far stands

pub returns-clause-read : goal.returns-clause-read
returns-clause-read c = λ body left rest so_far chosen.
    let n = length c.args.sorts.now in
    let test = expression_of c.args.test.now in
    let value = expression_of c.args.value.now in
    let row = c.in_default.ensures.none (test, value, rest) refl in
    let written : body_row n left ≡ Some (test, value, rest) = ap (option_map first_row) chosen ∙ ap (λ (x : Expression × Expression × Expression). Some x) row in
    c.in_ok-fits-2.ensures.read body left rest so_far written
