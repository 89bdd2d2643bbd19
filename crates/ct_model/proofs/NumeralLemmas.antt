-- A number of up to 64 bits is written in decimal by `{}`.
use Rattle.std.proofs.Common.{◌≡◌, ℕ, zero, suc, ◌<◌, ◌^◌, sym, arith, decimal}
use Rattle.std.proofs.lemmas.Fmt.{decimal_digit, decimal-digits_of}
use Rattle.ct_value_text.specs.Numeral.{numeral}

pub numeral_is_decimal : (n : ℕ) → n < 2 ^ 64 → numeral n ≡ decimal n
numeral_is_decimal zero small = sym (decimal_digit 0 (omega arith))
numeral_is_decimal (suc n) small = sym (decimal-digits_of (suc n) (omega arith) small)
