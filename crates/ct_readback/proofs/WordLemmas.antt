-- Numerals, and prefixes of bytes.
use Rattle.std.proofs.Common.{◌≡◌, ℕ, Bool, true, false, not, ◌==◌, List, [], ◌∷◌, ◌++◌, None, option_and_then, refl, sym, true≢false, if◌then◌else◌}
use Rattle.std.specs.List.{list_all}
use Rattle.std.specs.Char.{is_ascii_digit}
use Rattle.ct_lemmas.proofs.Booleans.{both_parts, both_true}
use Rattle.ct_readback.specs.Words.{is_numeral, after}

-- a numeral is digits alone
pub numeral_digits : (bytes : List ℕ) → is_numeral bytes ≡ true → list_all is_ascii_digit bytes ≡ true
numeral_digits [] h = absurd (true≢false (sym h))
numeral_digits (d ∷ []) h = both_true (is_ascii_digit d) true h refl
numeral_digits (d ∷ (e ∷ ds)) h = (both_parts (not (d == 48)) (list_all is_ascii_digit (d ∷ (e ∷ ds))) h).1

after_step : (t : Bool) (ps b bs : List ℕ) → after (ps ++ b) bs ≡ option_and_then (after b) (after ps bs)
    → (if t then after (ps ++ b) bs else None) ≡ option_and_then (after b) (if t then after ps bs else None)
after_step true ps b bs h = h
after_step false ps b bs h = refl

-- what stands after two prefixes
pub after_append : (a b bytes : List ℕ) → after (a ++ b) bytes ≡ option_and_then (after b) (after a bytes)
after_append [] b bytes = refl
after_append (p ∷ ps) b [] = refl
after_append (p ∷ ps) b (x ∷ bs) = after_step (p == x) ps b bs (after_append ps b bs)
