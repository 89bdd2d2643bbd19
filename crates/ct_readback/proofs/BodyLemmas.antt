-- Bodies: a row and the rest, or a default.
use Rattle.std.proofs.Common.{◌≡◌, ℕ, ◌<◌, ◌≤◌, List, [], ◌∷◌, length, Bool, true, false, not, ◌==◌, ◌&&◌, Option, None, Some, option_map, option_and_then, refl, ap, ◌∙◌, if◌then◌else◌, codes, arith}
use Rattle.std.proofs.lemmas.Option.{none-some, same_Some}
use Rattle.ct_sexpr.specs.Expression.{Expression, leaf, list, Expressions, none, more, nesting, nesting_of_each}
use Rattle.ct_sexpr.specs.declared.sexpr.Sexpr.{Sexpr}
use Rattle.ct_sexpr.specs.View.{expression_of, expressions_of}
use Rattle.ct_readback.specs.Words.{is_word}
use Rattle.ct_readback.specs.Parts.{only_if, three_of}
use Rattle.ct_readback.specs.ValueAt.{is_value}
use Rattle.ct_readback.specs.BodySoFar.{StandsBefore}
use Rattle.ct_readback.specs.Rows.{choice_in, body_choice, body_row, first_by, or_of, first_row, after_tests, tests_in, are_all_tests, are_tests_by, are_tests, is_choice}

-- the test, the result and the rest of a row, as the form asks of them
abbrev pub has_choice_form : ℕ → Expression × Expression × Expression → Bool
has_choice_form parameters row = are_tests parameters row.0 && (is_value row.1 && is_choice parameters row.2)

-- the form of a body, by its first row
abbrev pub choice_form : ℕ → Expression → Option (Expression × Expression × Expression) → Bool
choice_form parameters body None = is_value body
choice_form parameters body (Some row) = has_choice_form parameters row

by_word : (b : Bool) (parameters : ℕ) (body test result rest : Expression)
    → (if b then are_tests parameters test && (is_value result && is_choice parameters rest) else is_value body)
    ≡ choice_form parameters body (option_and_then three_of (only_if b (more test (more result (more rest none)))))
by_word true parameters body test result rest = refl
by_word false parameters body test result rest = refl

short : (b : Bool) (parameters : ℕ) (body : Expression) (es : Expressions) → three_of es ≡ None → is_value body ≡ choice_form parameters body (option_and_then three_of (only_if b es))
short true parameters body es e = rw e refl
short false parameters body es e = refl

pub choice_by_row : (parameters : ℕ) (body : Expression) → is_choice parameters body ≡ choice_form parameters body (choice_in body)
choice_by_row parameters (leaf a) = refl
choice_by_row parameters (list none) = refl
choice_by_row parameters (list (more word none)) = short (is_word (codes "ite") word) parameters (list (more word none)) none refl
choice_by_row parameters (list (more word (more test none))) = short (is_word (codes "ite") word) parameters (list (more word (more test none))) (more test none) refl
choice_by_row parameters (list (more word (more test (more result none)))) =
    short (is_word (codes "ite") word) parameters (list (more word (more test (more result none)))) (more test (more result none)) refl
choice_by_row parameters (list (more word (more test (more result (more rest none))))) =
    by_word (is_word (codes "ite") word) parameters (list (more word (more test (more result (more rest none))))) test result rest
choice_by_row parameters (list (more word (more test (more result (more rest (more e es)))))) =
    short (is_word (codes "ite") word) parameters (list (more word (more test (more result (more rest (more e es)))))) (more test (more result (more rest (more e es)))) refl

-- the rest of a row nests less
rest_of_three : (b : Bool) (word : Expression) (es : Expressions) (row : Expression × Expression × Expression) → option_and_then three_of (only_if b es) ≡ Some row → nesting row.2 ≤ nesting_of_each es
rest_of_three false word es row e = absurd (none-some row e)
rest_of_three true word none row e = absurd (none-some row e)
rest_of_three true word (more a none) row e = absurd (none-some row e)
rest_of_three true word (more a (more b none)) row e = absurd (none-some row e)
rest_of_three true word (more a (more b (more c none))) row e =
    let same : nesting c ≡ nesting row.2 = ap (λ (r : Expression × Expression × Expression). nesting r.2) (same_Some (a, b, c) row e) in
    omega (arith, same)
rest_of_three true word (more a (more b (more c (more x es)))) row e = absurd (none-some row e)

pub rest_nests_less : (body : Expression) (row : Expression × Expression × Expression) → choice_in body ≡ Some row → nesting row.2 < nesting body
rest_nests_less (leaf a) row e = absurd (none-some row e)
rest_nests_less (list none) row e = absurd (none-some row e)
rest_nests_less (list (more word es)) row e =
    let below = rest_of_three (is_word (codes "ite") word) word es row e in
    omega (arith, below)

only_row : (b : Bool) (x row : Expression × Expression × Expression) → only_if b x ≡ Some row → x ≡ row
only_row true x row h = same_Some x row h
only_row false x row h = absurd (none-some row h)

pub body_rest_less : (parameters : ℕ) (body : Expression) (row : Expression × Expression × Expression) → body_choice parameters body ≡ Some row → nesting row.2 < nesting body
body_rest_less parameters body row h = by (choice_in body) refl h
  where
    by : (o : Option (Expression × Expression × Expression)) → choice_in body ≡ o → option_and_then (λ (x : Expression × Expression × Expression). only_if (not (parameters == 0)) x) o ≡ Some row → nesting row.2 < nesting body
    by None e k = absurd (none-some row k)
    by (Some x) e k = rest_nests_less body row (e ∙ ap (λ (y : Expression × Expression × Expression). Some y) (only_row (not (parameters == 0)) x row k))

-- the first row of a body is that of its first choice
pub row_of_choice : (parameters : ℕ) (body test result rest : Expression) (tests : Option Expressions) → body_choice parameters body ≡ Some (test, result, rest) → tests_in test ≡ tests
    → body_row parameters body ≡ Some (first_by (test, result, rest) tests)
row_of_choice parameters body test result rest tests e t = ap (option_map first_row) e ∙ ap (λ (o : Option Expressions). Some (first_by (test, result, rest) o)) t

-- what stands where some tests of a choice have failed begins with the next of them
pub row_after : (parameters : ℕ) (test : Expression) (tests : Expressions) (result rest : Expression) → (parameters == 0) ≡ false
    → body_row parameters (after_tests (more test tests) result rest) ≡ Some (test, result, after_tests tests result rest)
row_after parameters test tests result rest some = ap (λ (b : Bool). option_map first_row (only_if (not b) (or_of (more test tests), result, rest))) some

pub stands_after : (parameters : ℕ) (tests : Expressions) (result rest : Expression) → (parameters == 0) ≡ false → StandsBefore parameters tests result rest (after_tests tests result rest)
stands_after parameters none result rest some = refl
stands_after parameters (more test tests) result rest some = row_after parameters test tests result rest some

-- a body with a row has parameters
pub some_for_row : (parameters : ℕ) (body : Expression) (row : Expression × Expression × Expression) → body_row parameters body ≡ Some row → (parameters == 0) ≡ false
some_for_row parameters body row h = by (parameters == 0) refl (choice_in body) h
  where
    by : (b : Bool) → (parameters == 0) ≡ b → (o : Option (Expression × Expression × Expression)) → option_map first_row (option_and_then (λ (x : Expression × Expression × Expression). only_if (not b) x) o) ≡ Some row → (parameters == 0) ≡ false
    by false e o k = e
    by true e None k = absurd (none-some row k)
    by true e (Some x) k = absurd (none-some row k)

-- what several tests in an `or` say, of which there is one at least
pub several_tests : (choice : Expression × Expression × Expression) (test : Expression) (tests : List Sexpr) → tests_in test ≡ Some (expressions_of tests) → 1 ≤ length tests → choice.0 ≡ test
    → (first : Expression) × (others : Expressions) × (expressions_of tests ≡ more first others) × (first_row choice ≡ (first, choice.1, after_tests others choice.1 choice.2))
several_tests choice test [] h some e = absurd (omega (arith, some))
several_tests choice test (t ∷ ts) h some e = (expression_of t, expressions_of ts, refl, ap (first_by choice) (ap tests_in e ∙ h))

pub several_form : (parameters : ℕ) (test : Expression) (tests : List Sexpr) → tests_in test ≡ Some (expressions_of tests) → 1 ≤ length tests → are_tests parameters test ≡ are_all_tests parameters (expressions_of tests)
several_form parameters test [] h some = absurd (omega (arith, some))
several_form parameters test (t ∷ ts) h some = ap (are_tests_by parameters test) h
