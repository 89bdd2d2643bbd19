-- What names and numbers read back as where they were printed.
use Rattle.std.proofs.Common.{◌≡◌, ℕ, zero, suc, ◌+◌, ◌<◌, ◌^◌, Bool, true, false, not, ◌&&◌, ◌==◌, nat_lt, List, [], ◌∷◌, ◌++◌, map, get_or, Option, None, Some, option_map, option_and_then, unwrap_or, bytes_eq, refl, sym, ap, ◌∙◌, arith, true≢false, if◌then◌else◌}
use Rattle.std.specs.List.{list_all}
use Rattle.std.specs.Char.{is_ascii_digit}
use Rattle.std.specs.Int.Digits.{digits_of, AllBelowBase}
use Rattle.std.proofs.lemmas.Bool.Decides.{nat_tests}
use Rattle.std.proofs.lemmas.Cmp.{nat_eq_equiv}
use Rattle.std.proofs.lemmas.Slice.Eq.{bytes_eq-Decides}
use Rattle.std.proofs.lemmas.Int.Digits.{all_below_base_digits_of, first_digits_of}
use Rattle.ct_lemmas.proofs.Booleans.{both_true, not_true}
use Rattle.ct_sexpr.specs.Atom.{symbol, quoted, keyword, text, numeral as numeral_atom, decimal as decimal_atom, binary, hexadecimal, numeral_value}
use Rattle.ct_sexpr.specs.Expression.{Expression, leaf, list, word}
use Rattle.ct_sexpr.specs.Written.{canonical}
use Rattle.ct_sexpr.proofs.Numbers.{decimal-AreDigitsOf}
use Rattle.ct_sexpr.proofs.Names.{simple_name}
use Rattle.ct_value_text.specs.Numeral.{numeral}
use Rattle.ct_value_text.specs.ValueText.{name}
use Rattle.ct_value_text.proofs.NumeralLemmas.{numeral_is_decimal}
use Rattle.ct_readback.specs.Words.{is_word, name_in, is_name, is_named, is_numeral, number_bound, number_in, after, number_after}

-- ---- numbers

digit_is : (d : ℕ) → d < 10 → is_ascii_digit (48 + d) ≡ true
digit_is d small = grind (arith, nat_tests)

not_zero : (d : ℕ) → 0 < d → not (48 + d == 48) ≡ true
not_zero d some = grind (arith, nat_tests)

digits_are : (ds : List ℕ) → AllBelowBase 10 ds → list_all is_ascii_digit (map (λ d. 48 + d) ds) ≡ true
digits_are [] below = refl
digits_are (d ∷ ds) below = both_true (is_ascii_digit (48 + d)) (list_all is_ascii_digit (map (λ e. 48 + e) ds)) (digit_is d below.0) (digits_are ds below.1)

digits_form : (ds : List ℕ) → AllBelowBase 10 ds → 0 < get_or ds 0 0 → is_numeral (map (λ d. 48 + d) ds) ≡ true
digits_form [] below some = absurd (omega (arith, some))
digits_form (d ∷ []) below some = digit_is d below.0
digits_form (d ∷ (e ∷ ds)) below some =
    both_true (not (48 + d == 48)) (list_all is_ascii_digit (map (λ x. 48 + x) (d ∷ (e ∷ ds)))) (not_zero d some) (digits_are (d ∷ (e ∷ ds)) below)

numeral_form : (n : ℕ) → is_numeral (numeral n) ≡ true
numeral_form zero = refl
numeral_form (suc n) = digits_form (digits_of 10 (suc n)) (all_below_base_digits_of 10 (suc n) (omega arith)) (first_digits_of 10 (suc n) (omega arith) (omega arith))

numeral_says : (n : ℕ) → n < number_bound → numeral_value (numeral n) ≡ n
numeral_says n small =
    let few : n < 2 ^ 64 = small in
    ap numeral_value (numeral_is_decimal n few) ∙ (decimal-AreDigitsOf n (omega (arith, small))).2

below_is : (n : ℕ) → n < number_bound → nat_lt n number_bound ≡ true
below_is n small = grind (arith, nat_tests)

-- what is printed of a number reads as that number
pub numeral_reads : (n : ℕ) → n < number_bound → number_in (numeral n) ≡ Some n
numeral_reads n small =
    let value = numeral_says n small in
    let test : (is_numeral (numeral n) && nat_lt (numeral_value (numeral n)) number_bound) ≡ true =
    both_true (is_numeral (numeral n)) (nat_lt (numeral_value (numeral n)) number_bound) (numeral_form n) (ap (λ k. nat_lt k number_bound) value ∙ below_is n small) in
    ap (λ (b : Bool). if b then Some (numeral_value (numeral n)) else None) test ∙ ap Some value

-- what stands after a prefix
pub after_own : (mark bytes : List ℕ) → after mark (mark ++ bytes) ≡ Some bytes
after_own [] bytes = refl
after_own (p ∷ ps) bytes = ap (λ (b : Bool). if b then after ps (ps ++ bytes) else None) (nat_eq_equiv.refl p) ∙ after_own ps bytes

pub number_after_own : (mark : List ℕ) (n : ℕ) → n < number_bound → number_after mark (mark ++ numeral n) ≡ Some n
number_after_own mark n small = ap (option_and_then number_in) (after_own mark (numeral n)) ∙ numeral_reads n small

pub is_own : (n : ℕ) (o : Option ℕ) → o ≡ Some n → unwrap_or (option_map (λ m. m == n) o) false ≡ true
is_own n o is = ap (λ (x : Option ℕ). unwrap_or (option_map (λ m. m == n) x) false) is ∙ nat_eq_equiv.refl n

-- ---- names

-- a name as it reads back
abbrev pub read_name : List ℕ → Expression
read_name bytes = canonical (name bytes)

pub named : (bytes : List ℕ) → name_in (read_name bytes) ≡ Some bytes
named bytes = simple_name (quoted bytes)

pub name_is : (bytes : List ℕ) → is_name (read_name bytes) ≡ true
name_is bytes = ap (λ (o : Option (List ℕ)). elim o [ None ↦ false | Some x ↦ true ]) (named bytes)

pub named_own : (bytes : List ℕ) → is_named bytes (read_name bytes) ≡ true
named_own bytes = ap (λ (o : Option (List ℕ)). unwrap_or (option_map (bytes_eq bytes) o) false) (named bytes) ∙ (bytes_eq-Decides bytes bytes).1 refl

-- a word is that symbol
pub word_is : (w : List ℕ) (e : Expression) → is_word w e ≡ true → e ≡ word w
word_is w (list es) h = absurd (true≢false (sym h))
word_is w (leaf (symbol b)) h = ap (λ bytes. leaf (symbol bytes)) ((bytes_eq-Decides b w).0 h)
word_is w (leaf (quoted b)) h = absurd (true≢false (sym h))
word_is w (leaf (keyword b)) h = absurd (true≢false (sym h))
word_is w (leaf (text b)) h = absurd (true≢false (sym h))
word_is w (leaf (numeral_atom n)) h = absurd (true≢false (sym h))
word_is w (leaf (decimal_atom b)) h = absurd (true≢false (sym h))
word_is w (leaf (binary b)) h = absurd (true≢false (sym h))
word_is w (leaf (hexadecimal b)) h = absurd (true≢false (sym h))

-- a name is no other word
pub name_no_word : (w bytes : List ℕ) → (name_in (word w) ≡ Some bytes → ⊥) → is_word w (read_name bytes) ≡ false
name_no_word w bytes never = not_true (is_word w (read_name bytes)) (λ h. never (sym (ap name_in (word_is w (read_name bytes) h)) ∙ named bytes))
