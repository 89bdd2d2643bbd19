-- What `parse` reads of a text in digits alone.
use Rattle.std.proofs.Common.{◌≡◌, ◌<◌, ◌≤◌, ◌^◌, ◌&&◌, ℕ, Bool, true, false, refl, ap, arith, List, [], ◌∷◌, Option, Some, None, Result, Ok, Err, length, nat_le, cond, get_or}
use Rattle.std.specs.Prelude.{◌≢◌, slice_get, if◌then◌else◌}
use Rattle.std.specs.Str.{all_ascii_digits}
use Rattle.std.specs.Str.Parse.{ParsesUnsigned, digits_value}
use Rattle.std.specs.Result.{OkIff}
use Rattle.std.proofs.lemmas.Bool.{le-leb, leb-true}
use Rattle.std.proofs.lemmas.Str.Parse.{IsNumeralModel, numerals_by_value, parse_plain, tells_all_ascii_digits}

own : IsNumeralModel (λ ds. all_ascii_digits ds ≡ true) (digits_value 10)
own = numerals_by_value (λ ds. all_ascii_digits ds ≡ true) tells_all_ascii_digits

first_is : (bs : List ℕ) → slice_get bs 0 ≢ Some 43 → get_or bs 0 0 ≢ 43
first_is [] none e = absurd (omega (arith, e))
first_is (b ∷ bs) none e = none (ap Some e)

-- what is read of a text that does not begin with `+`
plain : {E : Type 0} (bs : List ℕ) (r : Result ℕ E) → ParsesUnsigned 64 10 bs r → slice_get bs 0 ≢ Some 43
    → OkIff r ((all_ascii_digits bs ≡ true) × (0 < length bs) × (digits_value 10 bs < 2 ^ 64)) (digits_value 10 bs)
plain bs r parses none = parse_plain own 64 bs r parses (first_is bs none)

-- the number that the text writes in digits alone, from 1 to this one
abbrev numeral_to : ℕ → List ℕ → Option ℕ
numeral_to most bs =
    let n = digits_value 10 bs in
    if all_ascii_digits bs && (nat_le 1 n && nat_le n most) then Some n else None

-- a number that was read is the one that the text writes, where it is in the range
pub numbered : {E : Type 0} (most : ℕ) (bs : List ℕ) (n : ℕ) (r : Result ℕ E) → ParsesUnsigned 64 10 bs r → r ≡ Ok n → slice_get bs 0 ≢ Some 43 → 1 ≤ n → n ≤ most
    → Some n ≡ numeral_to most bs
numbered {E} most bs n r parses is none some few =
    let read : OkIff {E = E} (Ok n) ((all_ascii_digits bs ≡ true) × (0 < length bs) × (digits_value 10 bs < 2 ^ 64)) (digits_value 10 bs) =
    plain {E = E} bs (Ok n) (rw is at parses) none in
    rw (read.0.0, ← read.1, le-leb 1 n some, le-leb n most few) refl

-- a number that was read has 64 bits
pub bounded : {E : Type 0} (bs : List ℕ) (n : ℕ) (r : Result ℕ E) → ParsesUnsigned 64 10 bs r → r ≡ Ok n → slice_get bs 0 ≢ Some 43 → n ≤ 18446744073709551615
bounded {E} bs n r parses is none =
    let read : OkIff {E = E} (Ok n) ((all_ascii_digits bs ≡ true) × (0 < length bs) × (digits_value 10 bs < 2 ^ 64)) (digits_value 10 bs) =
    plain {E = E} bs (Ok n) (rw is at parses) none in
    omega (arith, read.0.2, read.1)

positive : (bs : List ℕ) → 1 ≤ digits_value 10 bs → 0 < length bs
positive [] some = absurd (omega (arith, some))
positive (b ∷ bs) some = omega arith

-- a text that was not read writes no number of 64 bits
pub unnumbered : {E : Type 0} (most : ℕ) (bs : List ℕ) (e : E) (r : Result ℕ E) → ParsesUnsigned 64 10 bs r → r ≡ Err e → slice_get bs 0 ≢ Some 43 → most < 2 ^ 64
    → None ≡ numeral_to most bs
unnumbered {E} most bs e r parses is none short = go (all_ascii_digits bs) refl
  where
    n : ℕ
    n = digits_value 10 bs

    unread : (all_ascii_digits bs ≡ true) × (0 < length bs) × (n < 2 ^ 64) → ⊥
    unread = plain {E = E} bs (Err e) (rw is at parses) none

    few : (b : Bool) → nat_le n most ≡ b → all_ascii_digits bs ≡ true → 1 ≤ n → None ≡ cond b (Some n) None
    few true at digits some = absurd (unread (digits, positive bs some, omega (arith, leb-true n most at, short)))
    few false at digits some = refl

    some : (b : Bool) → nat_le 1 n ≡ b → all_ascii_digits bs ≡ true → None ≡ cond (b && nat_le n most) (Some n) None
    some true at digits = few (nat_le n most) refl digits (leb-true 1 n at)
    some false at digits = refl

    go : (b : Bool) → all_ascii_digits bs ≡ b → None ≡ cond (b && (nat_le 1 n && nat_le n most)) (Some n) None
    go true digits = some (nat_le 1 n) refl digits
    go false digits = refl
