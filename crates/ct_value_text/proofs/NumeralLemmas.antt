-- Numerals: different numbers have different ones, they have digits alone, and up to 64 bits they are what `{}` writes.
use Rattle.std.proofs.Common.{◌≡◌, ℕ, zero, suc, ◌+◌, ◌<◌, ◌^◌, Bool, true, List, [], ◌∷◌, map, get_or, refl, sym, ap, arith, decimal}
use Rattle.std.specs.List.{list_all}
use Rattle.std.specs.Int.Digits.{digits_of, AllBelowBase}
use Rattle.std.proofs.lemmas.Fmt.{decimal_digit, decimal-digits_of}
use Rattle.std.proofs.lemmas.Int.Digits.{all_below_base_digits_of, first_digits_of, same_from_digits_of}
use Rattle.ct_lemmas.proofs.Booleans.{both_true}
use Rattle.ct_value_text.specs.Numeral.{numeral}

-- a number of up to 64 bits is written so
pub numeral_is_decimal : (n : ℕ) → n < 2 ^ 64 → numeral n ≡ decimal n
numeral_is_decimal zero small = sym (decimal_digit 0 (omega arith))
numeral_is_decimal (suc n) small = sym (decimal-digits_of (suc n) (omega arith) small)

-- digits are distinguished from what stands for them
digits_same : (ds es : List ℕ) → map (λ d. 48 + d) ds ≡ map (λ d. 48 + d) es → ds ≡ es
digits_same [] [] e = refl
digits_same [] (x ∷ es) e = cc
digits_same (d ∷ ds) [] e = cc
digits_same (d ∷ ds) (x ∷ es) e =
    let first : 48 + d ≡ 48 + x = cc in
    let same : d ≡ x = omega (arith, first) in
    let rest : ds ≡ es = digits_same ds es cc in
    cc

-- the number 0 alone has a first digit 0
not_zero : (n : ℕ) → map (λ d. 48 + d) (digits_of 10 (suc n)) ≡ 48 ∷ [] → ⊥
not_zero n e =
    let one : digits_of 10 (suc n) ≡ 0 ∷ [] = digits_same (digits_of 10 (suc n)) (0 ∷ []) e in
    let first : get_or (digits_of 10 (suc n)) 0 0 ≡ 0 = ap (λ ds. get_or ds 0 0) one in
    omega (arith, first_digits_of 10 (suc n) (omega arith) (omega arith), first)

-- different numbers have different numerals
pub numeral_injective : (m n : ℕ) → numeral m ≡ numeral n → m ≡ n
numeral_injective zero zero e = refl
numeral_injective zero (suc n) e = absurd (not_zero n (sym e))
numeral_injective (suc m) zero e = absurd (not_zero m e)
numeral_injective (suc m) (suc n) e = same_from_digits_of 10 (suc m) (suc n) (omega arith) (digits_same (digits_of 10 (suc m)) (digits_of 10 (suc n)) e)

-- what holds of each digit holds of all
digits_all : (P : ℕ → Bool) → ((d : ℕ) → d < 10 → P (48 + d) ≡ true) → (ds : List ℕ) → AllBelowBase 10 ds → list_all P (map (λ d. 48 + d) ds) ≡ true
digits_all P each [] below = refl
digits_all P each (d ∷ ds) below = both_true (P (48 + d)) (list_all P (map (λ d. 48 + d) ds)) (each d below.0) (digits_all P each ds below.1)

-- so it does of a numeral
pub numeral_all : (P : ℕ → Bool) → ((d : ℕ) → d < 10 → P (48 + d) ≡ true) → (n : ℕ) → list_all P (numeral n) ≡ true
numeral_all P each zero = both_true (P 48) true (each 0 (omega arith)) refl
numeral_all P each (suc n) = digits_all P each (digits_of 10 (suc n)) (all_below_base_digits_of 10 (suc n) (omega arith))
