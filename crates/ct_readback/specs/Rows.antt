-- The body of an item of a model: `(ite test result rest)` for each row or for several with one result, and a value as the default. Without
-- parameters it is a value.
use Rattle.std.specs.Prelude.{ℕ, suc, Bool, true, not, ◌&&◌, ◌==◌, Option, None, Some, option_map, option_and_then, if◌then◌else◌, codes}
use Rattle.ct_sexpr.specs.Expression.{Expression, list, Expressions, none, more, word}
use Rattle.ct_readback.specs.Words.{is_word, is_numbered}
use Rattle.ct_readback.specs.Parts.{holds, only_if, three_of, three_in, parts_after, count, are_some}
use Rattle.ct_readback.specs.ValueAt.{is_value}

-- the test and the result of a choice, and what stands where the test fails
abbrev pub choice_in : Expression → Option (Expression × Expression × Expression)
choice_in body = option_and_then three_of (parts_after (codes "ite") body)

-- `(ite test result rest)`
abbrev pub choice_of : Expression → Expression → Expression → Expression
choice_of test result rest = list (more (word (codes "ite")) (more test (more result (more rest none))))

-- what stands in `(or test ..)`: the tests of rows with one result
abbrev pub tests_in : Expression → Option Expressions
tests_in test = parts_after (codes "or") test

-- `(or test ..)`
abbrev pub or_of : Expressions → Expression
or_of tests = list (more (word (codes "or")) tests)

-- what stands where the tests before these have failed: these tests with their result, and then the rest
abbrev pub after_tests : Expressions → Expression → Expression → Expression
after_tests none result rest = rest
after_tests (more test tests) result rest = choice_of (or_of (more test tests)) result rest

-- the first row of a choice: the first of its tests, its result, and what stands where this test fails
abbrev pub first_by : Expression × Expression × Expression → Option Expressions → Expression × Expression × Expression
first_by choice None = choice
first_by choice (Some none) = choice
first_by choice (Some (more test tests)) = (test, choice.1, after_tests tests choice.1 choice.2)

abbrev pub first_row : Expression × Expression × Expression → Expression × Expression × Expression
first_row choice = first_by choice (tests_in choice.0)

-- the value text of `(= @xi value)`
abbrev pub value_between : ℕ → Expression × Expression × Expression → Option Expression
value_between i parts = only_if (is_word (codes "=") parts.0 && is_numbered (codes "@x") i parts.1) parts.2

abbrev pub equation_value : ℕ → Expression → Option Expression
equation_value i e = option_and_then (value_between i) (three_in e)

-- the equations of a test of several parameters, `(and equation ..)`, one for each
abbrev pub conjuncts : ℕ → Expression → Option Expressions
conjuncts parameters test = option_and_then (λ es. only_if (count es == parameters) es) (parts_after (codes "and") test)

-- the expression is an equation of the parameter number i and a value, and the expressions are those of the parameters from i on
abbrev pub is_equation : ℕ → Expression → Bool
is_equation i e = holds is_value (equation_value i e)

abbrev pub are_equations : ℕ → Expressions → Bool
are_equations i none = true
are_equations i (more e es) = is_equation i e && are_equations (suc i) es

-- the expression has the form of a test; that of one parameter is one equation
abbrev pub is_test : ℕ → Expression → Bool
is_test parameters test = if parameters == 1 then is_equation 0 test else holds (are_equations 0) (conjuncts parameters test)

-- so have all of them
abbrev pub are_all_tests : ℕ → Expressions → Bool
are_all_tests parameters none = true
are_all_tests parameters (more e es) = is_test parameters e && are_all_tests parameters es

-- the expression is a test, or several in an `or`
abbrev pub are_tests_by : ℕ → Expression → Option Expressions → Bool
are_tests_by parameters test None = is_test parameters test
are_tests_by parameters test (Some tests) = are_some tests && are_all_tests parameters tests

abbrev pub are_tests : ℕ → Expression → Bool
are_tests parameters test = are_tests_by parameters test (tests_in test)

-- the expression has the form of choices, one inside the other, and a default
abbrev pub is_choice : ℕ → Expression → Bool
is_choice parameters (list (more word (more test (more result (more rest none))))) =
    if is_word (codes "ite") word then are_tests parameters test && (is_value result && is_choice parameters rest)
    else is_value (list (more word (more test (more result (more rest none)))))
is_choice parameters e = is_value e

-- the expression has the form of a body
abbrev pub is_body : ℕ → Expression → Bool
is_body parameters body = if parameters == 0 then is_value body else is_choice parameters body

-- the first choice of a body, and its first row; one without parameters has none
abbrev pub body_choice : ℕ → Expression → Option (Expression × Expression × Expression)
body_choice parameters body = option_and_then (λ choice. only_if (not (parameters == 0)) choice) (choice_in body)

abbrev pub body_row : ℕ → Expression → Option (Expression × Expression × Expression)
body_row parameters body = option_map first_row (body_choice parameters body)
