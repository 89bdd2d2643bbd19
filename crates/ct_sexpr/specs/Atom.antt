-- Atoms (SMT-LIB 2.7, section 3.1): symbols, keywords, strings and numbers. The project's own choice, and wider than the
-- standard, are leading zeros of a number (`007`, `00.5`), control bytes in quoted symbols and strings, and a reserved
-- word after a colon (`:let`); its own is, too, the bound of numerals.
use Rattle.std.specs.Prelude.{ℕ, ◌+◌, ◌-◌, ◌*◌, ◌^◌, Bool, false, ◌||◌, ◌&&◌, ◌==◌, nat_lt, List, [], ◌∷◌, Result, Ok, Err, if◌then◌else◌, codes}
use Rattle.std.specs.List.{list_any, list_all}
use Rattle.std.specs.Char.{is_ascii_alphanumeric, is_ascii_digit, is_ascii_hexdigit}
use Rattle.ct_sexpr.specs.ErrorNumber.{begins_no_token, numeral_too_great}
use Rattle.ct_sexpr.specs.TakeWhile.{take_while, drop_while}

-- A quoted symbol is given without the `|` around it, a string without its marks and with each mark inside it once, and a
-- numeral by its value; every other atom as it is written.
pub data Atom : Type 0 where
  symbol : List ℕ → Atom
  quoted : List ℕ → Atom
  keyword : List ℕ → Atom
  text : List ℕ → Atom
  numeral : ℕ → Atom
  decimal : List ℕ → Atom
  binary : List ℕ → Atom
  hexadecimal : List ℕ → Atom

-- the first byte of a keyword
abbrev pub colon : ℕ
colon = 58

-- the first byte of a binary or hexadecimal literal
abbrev pub number_sign : ℕ
number_sign = 35

-- the byte between the digits of a decimal
abbrev pub decimal_point : ℕ
decimal_point = 46

-- a letter, a digit or one of these marks: the bytes of the standard's simple symbols
abbrev pub is_word_byte : ℕ → Bool
is_word_byte b = is_ascii_alphanumeric b || list_any (λ mark. mark == b) (codes "~!@$%^&*_-+=<>.?/")

-- The byte begins a word, a keyword or a literal: this is wider than a word of the standard, which is word bytes alone.
-- A word begins with a word byte, a keyword with a colon, and a binary or hexadecimal literal with a number sign.
abbrev pub begins_word : ℕ → Bool
begins_word b = is_word_byte b || (b == colon || b == number_sign)

-- the longest run of word bytes at the start
abbrev pub word_of : List ℕ → List ℕ
word_of bytes = take_while is_word_byte bytes

-- what is left after that run
abbrev pub after_word : List ℕ → List ℕ
after_word bytes = drop_while is_word_byte bytes

-- one digit at least, and nothing else
abbrev pub are_digits : (ℕ → Bool) → List ℕ → Bool
are_digits is_digit [] = false
are_digits is_digit (d ∷ ds) = list_all is_digit (d ∷ ds)

-- a point and then decimal digits, one at least
abbrev pub is_point_and_digits : List ℕ → Bool
is_point_and_digits [] = false
is_point_and_digits (b ∷ bs) = b == decimal_point && are_digits is_ascii_digit bs

-- `0` or `1`
abbrev pub is_binary_digit : ℕ → Bool
is_binary_digit b = b == 48 || b == 49

-- the number that digits go on with, after a number that earlier digits wrote
abbrev pub value_after : ℕ → List ℕ → ℕ
value_after n [] = n
value_after n (d ∷ ds) = value_after (n * 10 + (d - 48)) ds

-- the number that digits write
abbrev pub numeral_value : List ℕ → ℕ
numeral_value digits = value_after 0 digits

-- numerals end below this number
abbrev pub numeral_bound : ℕ
numeral_bound = 2 ^ 128

-- a word that begins with a digit: a numeral, or a decimal, which is digits, a point and digits
abbrev pub number : List ℕ → Result Atom ℕ
number word =
    if list_all is_ascii_digit word then (if nat_lt (numeral_value word) numeral_bound then Ok (numeral (numeral_value word)) else Err numeral_too_great) else
    (if is_point_and_digits (drop_while is_ascii_digit word) then Ok (decimal word) else Err begins_no_token)

-- the keyword with this word after its colon, which begins with no digit
abbrev pub keyword_of : List ℕ → Result Atom ℕ
keyword_of [] = Err begins_no_token
keyword_of (b ∷ bs) = if is_ascii_digit b then Err begins_no_token else Ok (keyword (colon ∷ (b ∷ bs)))

-- the literal with these bytes after its number sign: `b` and binary digits, or `x` and hexadecimal digits
abbrev pub literal : List ℕ → Result Atom ℕ
literal [] = Err begins_no_token
literal (b ∷ bs) =
    if b == 98 && are_digits is_binary_digit bs then Ok (binary (number_sign ∷ (b ∷ bs))) else
    (if b == 120 && are_digits is_ascii_hexdigit bs then Ok (hexadecimal (number_sign ∷ (b ∷ bs))) else Err begins_no_token)

-- The atom that bytes write, or the number of the error. The first byte begins a word, a keyword or a literal, and the
-- others are word bytes; of other bytes this says nothing.
abbrev pub atom_of : List ℕ → Result Atom ℕ
atom_of [] = Err begins_no_token
atom_of (b ∷ bs) =
    if b == colon then keyword_of bs else
    (if b == number_sign then literal bs else
    (if is_ascii_digit b then number (b ∷ bs) else Ok (symbol (b ∷ bs))))
