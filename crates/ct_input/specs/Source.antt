-- Where bytes of a text stand, and the bytes of the last command that a reader gave.
use Rattle.std.specs.Prelude.{◌≡◌, ℕ, ◌+◌, ◌^◌, ◌<◌, ◌≤◌, ◌==◌, List, [], ◌∷◌, ◌++◌, length, take, Result, Ok, Err, if◌then◌else◌}
use Rattle.ct_sexpr.specs.Whitespace.{after_whitespace, line_feeds}
use Rattle.ct_sexpr.specs.Expression.{Expression}
use Rattle.ct_sexpr.specs.Reading.{BeginsCommand}
use Rattle.ct_sexpr.specs.View.{expression_of}
use Rattle.ct_sexpr.specs.Unread.{Unread}
use Rattle.ct_sexpr.specs.declared.reader.Next.{Next}
use Rattle.ct_sexpr.specs.declared.reader.Next.TheVariants.{Command, Need, End}
use Rattle.ct_sexpr.specs.declared.error.ReadError.{ReadError}

-- the column after the bytes, which begin at a column: columns count bytes from 1, and a line feed alone ends a line
abbrev pub column_after : ℕ → List ℕ → ℕ
column_after column [] = column
column_after column (b ∷ bs) = if b == 10 then column_after 1 bs else column_after (column + 1) bs

-- what a reader stands for; the bytes of the last command that it gave, from its opening parenthesis to its closing one; and the
-- line and the column of that parenthesis. Before the first command there are no bytes, on line 1 at column 1.
pub record Source : Type 0 where
  pub unread : Unread
  pub command : List ℕ
  pub line : ℕ
  pub column : ℕ

-- the bytes of the last command, and after them those of no command so far
abbrev pub held_bytes : Source → List ℕ
held_bytes s = s.command ++ s.unread.bytes

-- the line and the column of the byte that follows so many of these bytes
abbrev pub line_at : Source → ℕ → ℕ
line_at s offset = s.line + line_feeds (take offset (held_bytes s))

abbrev pub column_at : Source → ℕ → ℕ
column_at s offset = column_after s.column (take offset (held_bytes s))

-- A command was given on the line: after whitespace and comments the unread bytes were those of the command, which are read as it and
-- as nothing else, and those that are left. Its column is counted on from the bytes before it.
pub record GivesText (old new : Source) (command : Expression) (line : ℕ) : Type 0 where
  pub space : List ℕ
  pub taken : old.unread.bytes ≡ space ++ after_whitespace old.unread.bytes
  pub begins : after_whitespace old.unread.bytes ≡ new.command ++ new.unread.bytes
  pub alone : BeginsCommand new.command command []
  pub line_is : new.line ≡ line
  pub column_is : new.column ≡ column_after old.column (old.command ++ space)

-- what each answer of the reader says of the text
abbrev pub HoldsText : Source → Source → Result Next ReadError → Type 0
HoldsText old new (Ok (Command e line)) = GivesText old new (expression_of e) line
HoldsText old new (Ok Need) = new ≡ old
HoldsText old new (Ok End) = new ≡ old
HoldsText old new (Err e) = new ≡ old

-- the lines and columns of all bytes are numbers of 64 bits, and the unread bytes begin on the line after the last command
pub record IsPlaced (s : Source) : Type 0 where
  pub few : s.unread.fed + 1 < 2 ^ 64
  pub lines : s.line + length (held_bytes s) ≤ s.unread.fed + 1
  pub columns : s.column + length (held_bytes s) ≤ s.unread.fed + 1
  pub line_after : s.unread.line ≡ s.line + line_feeds s.command
