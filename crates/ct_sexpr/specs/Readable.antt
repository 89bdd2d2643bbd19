-- Which expressions a text can say, however deep they nest (SMT-LIB 2.7, sections 3.1 and 3.2), and which symbols are one
-- name. Where this is wider than the standard it is the project's own choice, as in `Atom`.
use Rattle.std.specs.Prelude.{◌≡◌, ℕ, ◌<◌, Bool, true, false, ◌&&◌, ◌==◌, List, [], ◌∷◌, Option, Some, None, if◌then◌else◌}
use Rattle.std.specs.List.{list_all}
use Rattle.std.specs.Char.{is_ascii_digit, is_ascii_hexdigit}
use Rattle.ct_sexpr.specs.TakeWhile.{drop_while}
use Rattle.ct_sexpr.specs.Atom.{Atom, symbol, quoted, keyword, text, numeral, decimal, binary, hexadecimal, colon, number_sign, are_digits, is_binary_digit, is_point_and_digits, numeral_bound}
use Rattle.ct_sexpr.specs.Token.{is_in_quoted_symbol}
use Rattle.ct_sexpr.specs.Expression.{Expression, leaf, list, Expressions, none, more}
use Rattle.ct_sexpr.specs.Written.{is_reserved, forms_symbol}

-- a colon, and then word bytes of which the first is no digit
abbrev pub is_keyword : List ℕ → Bool
is_keyword [] = false
is_keyword (b ∷ bs) = b == colon && forms_symbol bs

-- decimal digits, one at least, and then a point and decimal digits, one at least
abbrev pub is_decimal : List ℕ → Bool
is_decimal [] = false
is_decimal (d ∷ ds) = is_ascii_digit d && is_point_and_digits (drop_while is_ascii_digit ds)

-- a number sign, this letter, and then digits, one at least
abbrev pub is_literal : ℕ → (ℕ → Bool) → List ℕ → Bool
is_literal letter is_digit [] = false
is_literal letter is_digit (b ∷ []) = false
is_literal letter is_digit (b ∷ (c ∷ ds)) = b == number_sign && (c == letter && are_digits is_digit ds)

-- the atom has the form of its kind; 98 is `b`, and 120 is `x`
abbrev pub HasForm : Atom → Type 0
HasForm (symbol w) = forms_symbol w ≡ true
HasForm (quoted w) = list_all is_in_quoted_symbol w ≡ true
HasForm (keyword w) = is_keyword w ≡ true
HasForm (text w) = Unit {0}
HasForm (numeral n) = n < numeral_bound
HasForm (decimal w) = is_decimal w ≡ true
HasForm (binary w) = is_literal 98 is_binary_digit w ≡ true
HasForm (hexadecimal w) = is_literal 120 is_ascii_hexdigit w ≡ true

-- each atom of the expression has the form of its kind
abbrev mutual
  pub IsReadable : Expression → Type 0
  IsReadable (leaf a) = HasForm a
  IsReadable (list es) = AreReadable es

  pub AreReadable : Expressions → Type 0
  AreReadable none = Unit {0}
  AreReadable (more e es) = IsReadable e × AreReadable es

-- The name that a symbol is. The symbols `a` and `|a|` are one name; a reserved word that is not quoted is none.
abbrev pub name_of_atom : Atom → Option (List ℕ)
name_of_atom (symbol w) = if is_reserved w then None else Some w
name_of_atom (quoted w) = Some w
name_of_atom (keyword w) = None
name_of_atom (text w) = None
name_of_atom (numeral n) = None
name_of_atom (decimal w) = None
name_of_atom (binary w) = None
name_of_atom (hexadecimal w) = None
