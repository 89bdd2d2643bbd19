-- How an expression is written (SMT-LIB 2.7, sections 3.1 and 3.2). That a name is quoted only where it needs to be, and
-- that one space stands between two items, is this project's choice.
use Rattle.std.specs.Prelude.{ℕ, Bool, false, not, ◌&&◌, ◌==◌, List, [], ◌∷◌, ◌++◌, if◌then◌else◌, codes}
use Rattle.std.specs.List.{list_all, list_any}
use Rattle.std.specs.Char.{is_ascii_digit}
use Rattle.std.specs.Str.{bytes_eq}
use Rattle.std.specs.Fmt.{decimal as decimal_digits}
use Rattle.ct_sexpr.specs.Atom.{Atom, symbol, quoted, keyword, text, numeral, decimal, binary, hexadecimal, is_word_byte}
use Rattle.ct_sexpr.specs.Token.{left_parenthesis, right_parenthesis, bar, quotation_mark}
use Rattle.ct_sexpr.specs.Expression.{Expression, leaf, list, Expressions, none, more}

-- the words that the language reserves (SMT-LIB 2.7, section 3.1), without the names of commands
abbrev pub reserved_words : List (List ℕ)
reserved_words =
    codes "!" ∷ (codes "_" ∷ (codes "as" ∷ (codes "BINARY" ∷ (codes "DECIMAL" ∷ (codes "exists" ∷ (codes "forall" ∷ (codes "HEXADECIMAL" ∷ (codes "lambda" ∷ (codes "let" ∷ (codes "match" ∷ (codes "NUMERAL" ∷ (codes "par" ∷ (codes "STRING" ∷ [])))))))))))))

-- the name is one of these words
abbrev pub is_reserved : List ℕ → Bool
is_reserved name = list_any (λ reserved. bytes_eq reserved name) reserved_words

-- the bytes form a symbol: word bytes, of which the first is no digit
abbrev pub forms_symbol : List ℕ → Bool
forms_symbol [] = false
forms_symbol (b ∷ bs) = not (is_ascii_digit b) && list_all is_word_byte (b ∷ bs)

-- a name that is a simple symbol
abbrev pub is_simple : List ℕ → Bool
is_simple name = forms_symbol name && not (is_reserved name)

-- each quotation mark twice
abbrev pub doubled : List ℕ → List ℕ
doubled [] = []
doubled (b ∷ bs) = if b == quotation_mark then b ∷ (b ∷ doubled bs) else b ∷ doubled bs

-- a name, quoted where it needs to be
abbrev pub written_name : List ℕ → List ℕ
written_name name = if is_simple name then name else bar ∷ (name ++ bar ∷ [])

-- a string, by what it says, between marks
abbrev pub written_text : List ℕ → List ℕ
written_text content = quotation_mark ∷ (doubled content ++ quotation_mark ∷ [])

-- an atom, a numeral without leading zeros
abbrev pub written_atom : Atom → List ℕ
written_atom (symbol w) = w
written_atom (quoted w) = written_name w
written_atom (keyword w) = w
written_atom (text w) = written_text w
written_atom (numeral n) = decimal_digits n
written_atom (decimal w) = w
written_atom (binary w) = w
written_atom (hexadecimal w) = w

-- the items of a list, with one space between two
abbrev mutual
  pub written : Expression → List ℕ
  written (leaf a) = written_atom a
  written (list es) = left_parenthesis ∷ (written_items es ++ right_parenthesis ∷ [])

  pub written_items : Expressions → List ℕ
  written_items none = []
  written_items (more e es) = written e ++ written_after es

  pub written_after : Expressions → List ℕ
  written_after none = []
  written_after (more e es) = 32 ∷ (written e ++ written_after es)

-- the atom, quoted only where it needs to be
abbrev pub canonical_atom : Atom → Atom
canonical_atom (symbol w) = symbol w
canonical_atom (quoted w) = if is_simple w then symbol w else quoted w
canonical_atom (keyword w) = keyword w
canonical_atom (text w) = text w
canonical_atom (numeral n) = numeral n
canonical_atom (decimal w) = decimal w
canonical_atom (binary w) = binary w
canonical_atom (hexadecimal w) = hexadecimal w

-- the same expression, with symbols quoted only where they need to be
abbrev mutual
  pub canonical : Expression → Expression
  canonical (leaf a) = leaf (canonical_atom a)
  canonical (list es) = list (canonical_each es)

  pub canonical_each : Expressions → Expressions
  canonical_each none = none
  canonical_each (more e es) = more (canonical e) (canonical_each es)
