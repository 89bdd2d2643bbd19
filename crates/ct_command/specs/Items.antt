-- Expressions by their parts: names, words, keywords, numerals, strings, and lists with so many items.
use Rattle.std.specs.Prelude.{ℕ, Bool, true, false, List, [], ◌∷◌, Option, Some, None, option_map, option_and_then}
use Rattle.ct_sexpr.specs.Atom.{Atom, symbol, quoted, keyword, text, numeral, decimal, binary, hexadecimal}
use Rattle.ct_sexpr.specs.Expression.{Expression, leaf, list, Expressions, none, more}
use Rattle.ct_sexpr.specs.Readable.{name_of_atom}

-- the name that the expression is: a symbol that is no reserved word
abbrev pub name_of : Expression → Option (List ℕ)
name_of (leaf a) = name_of_atom a
name_of (list es) = None

-- the number that an atom is
abbrev pub numeral_of_atom : Atom → Option ℕ
numeral_of_atom (symbol w) = None
numeral_of_atom (quoted w) = None
numeral_of_atom (keyword w) = None
numeral_of_atom (text w) = None
numeral_of_atom (numeral n) = Some n
numeral_of_atom (decimal w) = None
numeral_of_atom (binary w) = None
numeral_of_atom (hexadecimal w) = None

-- the number that the expression is
abbrev pub numeral_of : Expression → Option ℕ
numeral_of (leaf a) = numeral_of_atom a
numeral_of (list es) = None

-- the word that an atom is, written as a simple symbol
abbrev pub word_of_atom : Atom → Option (List ℕ)
word_of_atom (symbol w) = Some w
word_of_atom (quoted w) = None
word_of_atom (keyword w) = None
word_of_atom (text w) = None
word_of_atom (numeral n) = None
word_of_atom (decimal w) = None
word_of_atom (binary w) = None
word_of_atom (hexadecimal w) = None

abbrev pub word_of : Expression → Option (List ℕ)
word_of (leaf a) = word_of_atom a
word_of (list es) = None

-- the keyword that an atom is, with its colon
abbrev pub keyword_of_atom : Atom → Option (List ℕ)
keyword_of_atom (symbol w) = None
keyword_of_atom (quoted w) = None
keyword_of_atom (keyword w) = Some w
keyword_of_atom (text w) = None
keyword_of_atom (numeral n) = None
keyword_of_atom (decimal w) = None
keyword_of_atom (binary w) = None
keyword_of_atom (hexadecimal w) = None

abbrev pub keyword_of : Expression → Option (List ℕ)
keyword_of (leaf a) = keyword_of_atom a
keyword_of (list es) = None

-- what a string literal says, where the atom is one
abbrev pub text_of_atom : Atom → Option (List ℕ)
text_of_atom (symbol w) = None
text_of_atom (quoted w) = None
text_of_atom (keyword w) = None
text_of_atom (text w) = Some w
text_of_atom (numeral n) = None
text_of_atom (decimal w) = None
text_of_atom (binary w) = None
text_of_atom (hexadecimal w) = None

abbrev pub text_of : Expression → Option (List ℕ)
text_of (leaf a) = text_of_atom a
text_of (list es) = None

-- the atom is a string literal
abbrev pub is_text_atom : Atom → Bool
is_text_atom (symbol w) = false
is_text_atom (quoted w) = false
is_text_atom (keyword w) = false
is_text_atom (text w) = true
is_text_atom (numeral n) = false
is_text_atom (decimal w) = false
is_text_atom (binary w) = false
is_text_atom (hexadecimal w) = false

abbrev pub is_text : Expression → Bool
is_text (leaf a) = is_text_atom a
is_text (list es) = false

-- expressions in a row, as a list
abbrev pub listed : Expressions → List Expression
listed none = []
listed (more e es) = e ∷ listed es

-- the items of a list
abbrev pub items_of : Expression → Option (List Expression)
items_of (leaf a) = None
items_of (list es) = Some (listed es)

-- what each of the expressions forms, where each forms something
abbrev pub each : {X : Type 0} → (Expression → Option X) → List Expression → Option (List X)
each form [] = Some []
each form (e ∷ es) = option_and_then (λ x. option_map (λ xs. x ∷ xs) (each form es)) (form e)
