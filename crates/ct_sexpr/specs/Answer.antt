-- What a reader answers.
use Rattle.std.specs.Prelude.{◌≡◌, ℕ, ◌<◌, ◌⊎◌, true, false, List, [], ◌∷◌, ◌++◌, length, Result, Ok, Err}
use Rattle.ct_sexpr.specs.Whitespace.{after_whitespace, line_of_rest}
use Rattle.ct_sexpr.specs.Expression.{Expression}
use Rattle.ct_sexpr.specs.Reading.{BeginsCommand, HasError, HasDefiniteError, IsUnfinished, IsWhitespace, HasNoCommand}
use Rattle.ct_sexpr.specs.Text.{Located, Ending, clean, lexical, Reads, EndingSoFar, waiting, refused, ReadsSoFar}
use Rattle.ct_sexpr.specs.View.{expression_of}
use Rattle.ct_sexpr.specs.Unread.{Unread}
use Rattle.ct_sexpr.specs.declared.reader.Next.{Next}
use Rattle.ct_sexpr.specs.declared.reader.Next.TheVariants.{Command, Need, End}
use Rattle.ct_sexpr.specs.declared.error.ReadError.{ReadError}
use Rattle.ct_sexpr.specs.declared.error.ReadError.TheVariants.{Lexical, NoMemory}

-- the line of the first byte that is neither whitespace nor part of a comment
abbrev pub line_of_start : Unread → ℕ
line_of_start u = line_of_rest u.line u.bytes (after_whitespace u.bytes)

-- the command is the one that the bytes begin with, and is taken away; no other command is
pub record GivesCommand (old new : Unread) (command : Expression) (line : ℕ) : Type 0 where
  pub begins : BeginsCommand old.bytes command new.bytes
  pub only : (other : Expression) (rest : List ℕ) → BeginsCommand old.bytes other rest → (other ≡ command) × (rest ≡ new.bytes)
  pub prefix : List ℕ
  pub taken : old.bytes ≡ prefix ++ new.bytes
  pub some : 0 < length prefix
  pub line_is : line ≡ line_of_start old
  pub line_after : new.line ≡ line_of_rest old.line old.bytes new.bytes
  pub fed : new.fed ≡ old.fed
  pub ended : new.ended ≡ old.ended

-- more bytes are needed: the input has not ended, and no error is definite in what is there of a command
pub record Needs (old new : Unread) : Type 0 where
  pub ended : old.ended ≡ false
  pub unfinished : IsUnfinished old.bytes
  pub none : HasNoCommand old.bytes
  pub same : new ≡ old

-- the input has ended, and nothing but whitespace and comments is left
pub record Ends (old new : Unread) : Type 0 where
  pub ended : old.ended ≡ true
  pub whitespace : IsWhitespace old.bytes
  pub none : HasNoCommand old.bytes
  pub same : new ≡ old

-- a definite error in the bytes, or, where the input has ended, one that they have
abbrev pub HasFault : Unread → ℕ → List ℕ → Type 0
HasFault u code suffix = HasDefiniteError u.bytes code suffix ⊎ ((u.ended ≡ true) × HasError u.bytes code suffix)

-- the bytes have an error, which the answer names by its number and its line, and nothing is taken away
pub record Refuses (old new : Unread) (code line : ℕ) : Type 0 where
  pub suffix : List ℕ
  pub fault : HasFault old code suffix
  pub none : HasNoCommand old.bytes
  pub line_is : line ≡ line_of_rest old.line old.bytes suffix
  pub same : new ≡ old

-- what each answer says of the reader before and after it
abbrev pub IsAnswer : Unread → Unread → Result Next ReadError → Type 0
IsAnswer old new (Ok (Command e line)) = GivesCommand old new (expression_of e) line
IsAnswer old new (Ok Need) = Needs old new
IsAnswer old new (Ok End) = Ends old new
IsAnswer old new (Err (Lexical code line)) = Refuses old new code line
IsAnswer old new (Err NoMemory) = new ≡ old

-- the command is the first of each text that begins with the bytes, before those of what is left
pub record IsFirstCommand (old new : Unread) (first : Located) : Type 0 where
  pub ended : (tail : List ℕ) (cs : List Located) (x : Ending) → Reads new.line (new.bytes ++ tail) cs x → Reads old.line (old.bytes ++ tail) (first ∷ cs) x
  pub so_far : (tail : List ℕ) (cs : List Located) (x : EndingSoFar) → ReadsSoFar new.line (new.bytes ++ tail) cs x → ReadsSoFar old.line (old.bytes ++ tail) (first ∷ cs) x

-- an error with the number is definite in the bytes
abbrev pub IsDefiniteError : List ℕ → ℕ → Type 0
IsDefiniteError bytes code = (suffix : List ℕ) × HasDefiniteError bytes code suffix

-- The text has no command and ends at the error. Where the error is definite, as it is before the input has ended, so it is
-- with each text that begins with the bytes.
pub record IsLast (old : Unread) (code line : ℕ) : Type 0 where
  pub ended : Reads old.line old.bytes [] (lexical code line)
  pub definite : old.ended ≡ false → IsDefiniteError old.bytes code
  pub stays : IsDefiniteError old.bytes code → (tail : List ℕ) → Reads old.line (old.bytes ++ tail) [] (lexical code line)
  pub so_far : IsDefiniteError old.bytes code → (tail : List ℕ) → ReadsSoFar old.line (old.bytes ++ tail) [] (refused code line)

-- What each answer says of the whole text. So the commands that a reader gives, answer by answer, are those of the text,
-- on their lines, and its last answer is how the text ends or how it stands so far.
abbrev pub ReadsOn : Unread → Unread → Result Next ReadError → Type 0
ReadsOn old new (Ok (Command e line)) = IsFirstCommand old new (record { command = expression_of e; line = line })
ReadsOn old new (Ok Need) = ReadsSoFar old.line old.bytes [] waiting
ReadsOn old new (Ok End) = Reads old.line old.bytes [] clean
ReadsOn old new (Err (Lexical code line)) = IsLast old code line
ReadsOn old new (Err NoMemory) = Unit {0}
