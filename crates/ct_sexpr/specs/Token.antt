-- Tokens (SMT-LIB 2.7, section 3.1): parentheses and atoms, one after another. That control bytes may stand in quoted
-- symbols and strings is the project's own choice.
use Rattle.std.specs.Prelude.{◌≡◌, ℕ, Bool, true, false, ◌||◌, not, ◌==◌, List, [], ◌∷◌, Option, Some, None, Result, Ok, Err, if◌then◌else◌}
use Rattle.ct_sexpr.specs.Whitespace.{after_whitespace}
use Rattle.ct_sexpr.specs.TakeWhile.{take_while, drop_while}
use Rattle.ct_sexpr.specs.ErrorNumber.{begins_no_token}
use Rattle.ct_sexpr.specs.Atom.{Atom, quoted, text, begins_word, word_of, after_word, atom_of}

-- what a script is made of, between whitespace and comments
pub data Token : Type 0 where
  opening : Token
  closing : Token
  atom : Atom → Token

-- the byte `(`
abbrev pub left_parenthesis : ℕ
left_parenthesis = 40

-- the byte `)`
abbrev pub right_parenthesis : ℕ
right_parenthesis = 41

-- the byte `|`, on both sides of a quoted symbol
abbrev pub bar : ℕ
bar = 124

-- the byte `\`, which may not stand in a quoted symbol
abbrev pub backslash : ℕ
backslash = 92

-- the byte `"`, on both sides of a string
abbrev pub quotation_mark : ℕ
quotation_mark = 34

-- any byte may stand in a quoted symbol but these two
abbrev pub is_in_quoted_symbol : ℕ → Bool
is_in_quoted_symbol b = not (b == bar || b == backslash)

-- what a string says, from after its first mark: two marks are one, and one mark ends it
abbrev mutual
  pub string_content : List ℕ → List ℕ
  string_content [] = []
  string_content (b ∷ bs) = if b == quotation_mark then string_after_mark bs else b ∷ string_content bs

  pub string_after_mark : List ℕ → List ℕ
  string_after_mark [] = []
  string_after_mark (b ∷ bs) = if b == quotation_mark then b ∷ string_content bs else []

-- what is left after the string, or None where no mark ends it
abbrev mutual
  pub after_text : List ℕ → Option (List ℕ)
  after_text [] = None
  after_text (b ∷ bs) = if b == quotation_mark then after_mark bs else after_text bs

  pub after_mark : List ℕ → Option (List ℕ)
  after_mark [] = Some []
  after_mark (b ∷ bs) = if b == quotation_mark then after_text bs else Some (b ∷ bs)

-- What stands at the start of bytes: a token, with what is left after it; an error, by its number, with the bytes
-- from its position on; or no bytes at all, or a quoted symbol or a string that has no end in the bytes, which is cut.
pub data Lexeme : Type 0 where
  token : Token → List ℕ → Lexeme
  wrong : ℕ → List ℕ → Lexeme
  cut : Lexeme

-- a quoted symbol, by its bytes and what is left after them
abbrev pub quoted_lexeme : List ℕ → List ℕ → Lexeme
quoted_lexeme content [] = cut
quoted_lexeme content (b ∷ bs) = if b == bar then token (atom (quoted content)) bs else wrong begins_no_token (b ∷ bs)

-- a string, by what it says and what is left after it
abbrev pub text_lexeme : List ℕ → Option (List ℕ) → Lexeme
text_lexeme content None = cut
text_lexeme content (Some remaining) = token (atom (text content)) remaining

-- a word, a keyword or a literal, by what it is, the bytes from it on, and what is left after it
abbrev pub word_lexeme : Result Atom ℕ → List ℕ → List ℕ → Lexeme
word_lexeme (Ok a) bytes remaining = token (atom a) remaining
word_lexeme (Err code) bytes remaining = wrong code bytes

-- what stands at the start of bytes that begin with no whitespace and no comment
abbrev pub lexeme_at : List ℕ → Lexeme
lexeme_at [] = cut
lexeme_at (b ∷ bs) =
    if b == left_parenthesis then token opening bs else
    (if b == right_parenthesis then token closing bs else
    (if b == bar then quoted_lexeme (take_while is_in_quoted_symbol bs) (drop_while is_in_quoted_symbol bs) else
    (if b == quotation_mark then text_lexeme (string_content bs) (after_text bs) else
    (if begins_word b then word_lexeme (atom_of (b ∷ word_of bs)) (b ∷ bs) (after_word bs) else wrong begins_no_token (b ∷ bs)))))

-- an atom begins with such a byte: a word, a keyword or a literal, a string or a quoted symbol
abbrev pub begins_atom : ℕ → Bool
begins_atom b = begins_word b || (b == quotation_mark || b == bar)

-- no bytes
abbrev pub is_empty : List ℕ → Bool
is_empty [] = true
is_empty (b ∷ bs) = false

-- the string has no end in the bytes, or nothing stands after its last mark, so that another mark may follow
abbrev pub text_may_go_on : Option (List ℕ) → Bool
text_may_go_on None = true
text_may_go_on (Some remaining) = is_empty remaining

-- Whether what stands at the start has not ended, so that the next byte may belong to it: a quoted symbol ends with its
-- `|`, and a string, a word, a keyword and a literal end before a byte that is none of theirs.
abbrev pub may_go_on : List ℕ → Bool
may_go_on [] = true
may_go_on (b ∷ bs) =
    if b == bar then is_empty (drop_while is_in_quoted_symbol bs) else
    (if b == quotation_mark then text_may_go_on (after_text bs) else
    (if begins_word b then is_empty (after_word bs) else false))

-- the bytes begin with these tokens, each after whitespace and comments, and the rest is what follows the last
abbrev pub AreTokens : List Token → List ℕ → List ℕ → Type 0
AreTokens [] bytes rest = bytes ≡ rest
AreTokens (t ∷ ts) bytes rest = (remaining : List ℕ) × (lexeme_at (after_whitespace bytes) ≡ token t remaining) × AreTokens ts remaining rest
