-- Words, names and numbers in the expressions of a model (SMT-LIB 2.7, sections 3.1 and 3.2).
use Rattle.std.specs.Prelude.{ℕ, Bool, false, not, ◌&&◌, ◌==◌, nat_lt, List, [], ◌∷◌, Option, Some, None, is_some, option_map, option_and_then, unwrap_or, if◌then◌else◌, bytes_eq}
use Rattle.std.specs.List.{list_all}
use Rattle.std.specs.Char.{is_ascii_digit}
use Rattle.ct_sexpr.specs.Atom.{symbol, numeral_value}
use Rattle.ct_sexpr.specs.Expression.{Expression, leaf, list}
use Rattle.ct_sexpr.specs.Readable.{name_of_atom}
use Rattle.ct_sexpr.specs.Written.{is_reserved}

-- the expression is the simple symbol with these bytes
abbrev pub is_word : List ℕ → Expression → Bool
is_word text (leaf (symbol w)) = bytes_eq w text
is_word text (leaf a) = false
is_word text (list es) = false

-- the word, where it is not reserved
abbrev pub unreserved : List ℕ → Option (List ℕ)
unreserved word = if is_reserved word then None else Some word

-- the name that the expression is; `a` and `|a|` are one name, and a reserved word that is not quoted is none
abbrev pub name_in : Expression → Option (List ℕ)
name_in (leaf a) = name_of_atom a
name_in (list es) = None

abbrev pub is_name : Expression → Bool
is_name e = is_some (name_in e)

-- the expression is this name
abbrev pub is_named : List ℕ → Expression → Bool
is_named name e = unwrap_or (option_map (bytes_eq name) (name_in e)) false

-- decimal digits, one at least, and no leading zero
abbrev pub is_numeral : List ℕ → Bool
is_numeral [] = false
is_numeral (d ∷ []) = is_ascii_digit d
is_numeral (d ∷ (e ∷ ds)) = not (d == 48) && list_all is_ascii_digit (d ∷ (e ∷ ds))

-- numbers of elements, nodes and parameters are below 2^64
abbrev pub number_bound : ℕ
number_bound = 18446744073709551616

-- the number that these bytes are the numeral of
abbrev pub number_in : List ℕ → Option ℕ
number_in bytes = if is_numeral bytes && nat_lt (numeral_value bytes) number_bound then Some (numeral_value bytes) else None

-- the bytes after this prefix, with which they begin
abbrev pub after : List ℕ → List ℕ → Option (List ℕ)
after [] bytes = Some bytes
after (p ∷ ps) [] = None
after (p ∷ ps) (b ∷ bs) = if p == b then after ps bs else None

-- the number whose numeral stands after the mark
abbrev pub number_after : List ℕ → List ℕ → Option ℕ
number_after mark bytes = option_and_then number_in (after mark bytes)

-- the number of the expression, where it is a simple symbol of this mark and a numeral, as `@3` and `@x3`
abbrev pub numbered : List ℕ → Expression → Option ℕ
numbered mark (leaf (symbol w)) = number_after mark w
numbered mark (leaf a) = None
numbered mark (list es) = None

-- it has this number
abbrev pub is_numbered : List ℕ → ℕ → Expression → Bool
is_numbered mark n e = unwrap_or (option_map (λ m. m == n) (numbered mark e)) false
