-- What bytes begin with: a whole command, which is a list (SMT-LIB 2.7, section 3.9), a part of one, or an error. The
-- errors, when they are definite and the limit of nesting are the project's own choice.
use Rattle.std.specs.Prelude.{◌≡◌, ℕ, ◌+◌, ◌-◌, ◌<◌, true, false, ◌==◌, nat_lt, List, [], ◌∷◌, ◌++◌, ◌⊎◌, Option, Some, None, if◌then◌else◌}
use Rattle.ct_sexpr.specs.ErrorNumber.{begins_no_token, closes_nothing, ends_inside, nests_too_deep, atom_outside}
use Rattle.ct_sexpr.specs.Whitespace.{after_whitespace}
use Rattle.ct_sexpr.specs.Token.{Token, opening, closing, atom, left_parenthesis, right_parenthesis, Lexeme, token, wrong, cut, lexeme_at, begins_atom, may_go_on, AreTokens}
use Rattle.ct_sexpr.specs.Expression.{Expression, tokens_of}

-- how deep parentheses may nest
abbrev pub nesting_limit : ℕ
nesting_limit = 1000

-- How many parentheses are open after the tokens, where so many were open before them. None where one is opened beyond
-- the limit, where an atom or a closing parenthesis stands outside all parentheses, and where the last one is closed.
abbrev pub open_after : List Token → ℕ → Option ℕ
open_after [] depth = Some depth
open_after (opening ∷ ts) depth = if nat_lt depth nesting_limit then open_after ts (depth + 1) else None
open_after (closing ∷ ts) depth = if nat_lt 1 depth then open_after ts (depth - 1) else None
open_after (atom a ∷ ts) depth = if nat_lt 0 depth then open_after ts depth else None

-- the bytes begin with these tokens of a command, which leave so many parentheses open
pub record BeginsPart (bytes : List ℕ) (tokens : List Token) (depth : ℕ) (rest : List ℕ) : Type 0 where
  pub spelled : AreTokens tokens bytes rest
  pub nested : open_after tokens 0 ≡ Some depth

-- the bytes begin with a whole command, which is a list; its last parenthesis closes its first
pub record BeginsCommand (bytes : List ℕ) (command : Expression) (rest : List ℕ) : Type 0 where
  pub before : List Token
  pub remaining : List ℕ
  pub tokens : tokens_of command ≡ before ++ closing ∷ []
  pub part : BeginsPart bytes before 1 remaining
  pub closed : AreTokens (closing ∷ []) remaining rest

-- the error of what stands at the start inside parentheses, where the input ends after the bytes
abbrev pub error_of : Lexeme → Option (ℕ × List ℕ)
error_of (token t remaining) = None
error_of (wrong code suffix) = Some (code, suffix)
error_of cut = Some (ends_inside, [])

-- The error at the start of bytes, after whitespace and comments, where so many parentheses are open and the input ends
-- after the bytes: its number, and the bytes from its position on. Outside all parentheses an atom is an error, and so
-- is a closing parenthesis; inside them the end of the input is one.
abbrev pub error_at : ℕ → List ℕ → Option (ℕ × List ℕ)
error_at depth [] = if nat_lt 0 depth then Some (ends_inside, []) else None
error_at depth (b ∷ bs) =
    if b == left_parenthesis then (if nat_lt depth nesting_limit then None else Some (nests_too_deep, b ∷ bs)) else
    (if b == right_parenthesis then (if nat_lt 0 depth then None else Some (closes_nothing, b ∷ bs)) else
    (if nat_lt 0 depth then error_of (lexeme_at (b ∷ bs)) else
    Some (if begins_atom b then atom_outside else begins_no_token, b ∷ bs)))

-- the input ends after the bytes, and before their first command is whole there is an error: its number, and the bytes
-- from its position on
pub record HasError (bytes : List ℕ) (code : ℕ) (suffix : List ℕ) : Type 0 where
  pub tokens : List Token
  pub depth : ℕ
  pub rest : List ℕ
  pub part : BeginsPart bytes tokens depth rest
  pub error : error_at depth (after_whitespace rest) ≡ Some (code, suffix)

-- The same of bytes that may go on, where the error is definite. An error outside parentheses is definite at once, and so are a byte
-- that begins no token, a backslash in a quoted symbol and a parenthesis beyond the limit; an error of a word, a keyword or a
-- literal is definite once a byte is there after its word bytes; that the input ends is never definite. What is definite stays,
-- whatever follows; an error may be sure before it is definite, as in `(1a`.
pub record HasDefiniteError (bytes : List ℕ) (code : ℕ) (suffix : List ℕ) : Type 0 where
  pub tokens : List Token
  pub depth : ℕ
  pub rest : List ℕ
  pub part : BeginsPart bytes tokens depth rest
  pub error : error_at depth (after_whitespace rest) ≡ Some (code, suffix)
  pub definite : (depth ≡ 0) ⊎ (may_go_on (after_whitespace rest) ≡ false)

-- nothing is left, or there is inside parentheses an atom that the next byte may belong to, or a quoted symbol or string
-- without an end
abbrev pub Waits : ℕ → List ℕ → Type 0
Waits depth [] = Unit {0}
Waits depth (b ∷ bs) = (0 < depth) × (may_go_on (b ∷ bs) ≡ true)

-- the bytes begin no whole command, and no error in them is definite yet; whitespace and comments alone are such bytes
pub record IsUnfinished (bytes : List ℕ) : Type 0 where
  pub tokens : List Token
  pub depth : ℕ
  pub rest : List ℕ
  pub part : BeginsPart bytes tokens depth rest
  pub waits : Waits depth (after_whitespace rest)

-- nothing but whitespace and comments
abbrev pub IsWhitespace : List ℕ → Type 0
IsWhitespace bytes = after_whitespace bytes ≡ []

-- the bytes begin with no whole command
abbrev pub HasNoCommand : List ℕ → Type 0
HasNoCommand bytes = (command : Expression) (rest : List ℕ) → BeginsCommand bytes command rest → ⊥
