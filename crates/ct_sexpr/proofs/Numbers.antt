-- Digits, and the numbers that they write.
use Rattle.std.proofs.Common.{◌≡◌, ℕ, suc, ◌+◌, ◌-◌, ◌*◌, ◌/◌, ◌%◌, ◌<◌, ◌≤◌, Bool, true, List, [], ◌∷◌, ◌++◌, length, length-append, get_or, drop, drop-cons, refl, ◌∙◌, arith}
use Rattle.std.specs.List.{list_all}
use Rattle.std.specs.Char.{is_ascii_digit}
use Rattle.std.specs.Fmt.{decimal}
use Rattle.std.specs.Cmp.Derive.{both_true}
use Rattle.std.proofs.lemmas.List.Folds.{list_all-append}
use Rattle.std.proofs.lemmas.Fmt.{decimal_by_steps_wide}
use Rattle.std.proofs.lemmas.Bool.Decides.{nat_tests}
use Rattle.ct_sexpr.specs.Atom.{are_digits, value_after, numeral_value, numeral_bound}

-- where something stands, digits are no more than bytes that are each a digit
pub are_digits-some : (test : ℕ → Bool) (ds : List ℕ) → 0 < length ds → are_digits test ds ≡ list_all test ds
are_digits-some test [] some = absurd (omega arith)
are_digits-some test (d ∷ ds) some = refl

-- more digits make no number smaller
value_after-grows : (ds : List ℕ) (n : ℕ) → n ≤ value_after n ds
value_after-grows [] n = omega arith
value_after-grows (d ∷ ds) n = omega (arith, value_after-grows ds (n * 10 + (d - 48)))

-- the digits of a number that is written in parts
value_after-append : (ds es : List ℕ) (n : ℕ) → value_after n (ds ++ es) ≡ value_after (value_after n ds) es
value_after-append [] es n = refl
value_after-append (d ∷ ds) es n = value_after-append ds es (n * 10 + (d - 48))

-- a bound that is reached by one more digit is reached by all digits
pub value_after-reaches : (ds : List ℕ) (i n bound : ℕ) → i < length ds → bound ≤ n * 10 + (get_or ds i 0 - 48) → bound ≤ value_after n (drop i ds)
value_after-reaches ds i n bound within h =
    let grows = value_after-grows (drop (suc i) ds) (n * 10 + (get_or ds i 0 - 48)) in
    rw (drop-cons ds i 0 within) (omega arith)

-- digits, at least one, that write the number
abbrev pub AreDigitsOf : ℕ → List ℕ → Type 0
AreDigitsOf n ds = (list_all is_ascii_digit ds ≡ true) × (0 < length ds) × (numeral_value ds ≡ n)

AreDigitsOf-digit : (n : ℕ) → n < 10 → AreDigitsOf n ((48 + n) ∷ [])
AreDigitsOf-digit n small = (grind (arith, nat_tests), omega arith, omega arith)

AreDigitsOf-push : (n : ℕ) (ds : List ℕ) → 10 ≤ n → AreDigitsOf (n / 10) ds → AreDigitsOf n (ds ++ ((48 + n % 10) ∷ []))
AreDigitsOf-push n ds big h =
    let last = 48 + n % 10 in (
      list_all-append is_ascii_digit ds (last ∷ []) ∙ both_true h.0 (AreDigitsOf-digit (n % 10) (omega arith)).0,
      omega (arith, length-append ds (last ∷ [])),
      value_after-append ds (last ∷ []) 0 ∙ omega (arith, h.2),
    )

-- what is written of a number reads as the number
pub decimal-AreDigitsOf : (n : ℕ) → n < numeral_bound → AreDigitsOf n (decimal n)
decimal-AreDigitsOf n small = decimal_by_steps_wide AreDigitsOf AreDigitsOf-digit AreDigitsOf-push n (omega arith)
