-- Whole texts (SMT-LIB 2.7, section 3.9): commands one after another, and how the text ends or, where it may go on, how
-- it stands so far.
use Rattle.std.specs.Prelude.{◌≡◌, ℕ, List, [], ◌∷◌}
use Rattle.ct_sexpr.specs.Whitespace.{after_whitespace, line_of_rest}
use Rattle.ct_sexpr.specs.Expression.{Expression}
use Rattle.ct_sexpr.specs.Reading.{BeginsCommand, HasError, HasDefiniteError, IsUnfinished, IsWhitespace}

-- a command and the line of its opening parenthesis
pub record Located : Type 0 where
  pub command : Expression
  pub line : ℕ

-- a text ends with whitespace and comments alone, or at an error, by its number and its line
pub data Ending : Type 0 where
  clean : Ending
  lexical : ℕ → ℕ → Ending

-- the bytes begin on the line with no whole command, and this is their ending where the input ends after them
abbrev pub HasEnding : ℕ → List ℕ → Ending → Type 0
HasEnding line bytes clean = IsWhitespace bytes
HasEnding line bytes (lexical code at) = (suffix : List ℕ) × HasError bytes code suffix × (at ≡ line_of_rest line bytes suffix)

-- the text that begins on the line has these commands, and this ending
abbrev pub Reads : ℕ → List ℕ → List Located → Ending → Type 0
Reads line bytes [] ending = HasEnding line bytes ending
Reads line bytes (c ∷ cs) ending =
    (rest : List ℕ) × BeginsCommand bytes c.command rest × (c.line ≡ line_of_rest line bytes (after_whitespace bytes)) × Reads (line_of_rest line bytes rest) rest cs ending

-- a text that may go on waits for more bytes, or is refused at a definite error, by its number and its line
pub data EndingSoFar : Type 0 where
  waiting : EndingSoFar
  refused : ℕ → ℕ → EndingSoFar

-- the bytes begin on the line with no whole command, and so they stand where they may go on
abbrev pub HasEndingSoFar : ℕ → List ℕ → EndingSoFar → Type 0
HasEndingSoFar line bytes waiting = IsUnfinished bytes
HasEndingSoFar line bytes (refused code at) = (suffix : List ℕ) × HasDefiniteError bytes code suffix × (at ≡ line_of_rest line bytes suffix)

-- the text that begins on the line and may go on has these commands so far, and stands so after them
abbrev pub ReadsSoFar : ℕ → List ℕ → List Located → EndingSoFar → Type 0
ReadsSoFar line bytes [] so_far = HasEndingSoFar line bytes so_far
ReadsSoFar line bytes (c ∷ cs) so_far =
    (rest : List ℕ) × BeginsCommand bytes c.command rest × (c.line ≡ line_of_rest line bytes (after_whitespace bytes)) × ReadsSoFar (line_of_rest line bytes rest) rest cs so_far
