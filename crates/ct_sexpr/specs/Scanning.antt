-- How far a scanner has read a text that it may not know to its end.
use Rattle.std.specs.Prelude.{◌≡◌, ℕ, ◌+◌, ◌<◌, ◌≤◌, ◌==◌, List, [], ◌∷◌, ◌++◌, length, true, Option, Some, None, if◌then◌else◌, Result, Ok, Err}
use Rattle.ct_sexpr.specs.Whitespace.{after_whitespace, after_comment, line_feeds}
use Rattle.ct_sexpr.specs.TakeWhile.{drop_while}
use Rattle.ct_sexpr.specs.Atom.{begins_word, after_word}
use Rattle.ct_sexpr.specs.Token.{bar, quotation_mark, is_in_quoted_symbol}
use Rattle.ct_sexpr.specs.Expression.{Expression}
use Rattle.ct_sexpr.specs.Reading.{BeginsPart, BeginsCommand, HasError, HasDefiniteError, IsWhitespace}
use Rattle.ct_sexpr.specs.Written.{doubled}
use Rattle.ct_sexpr.specs.View.{expression_of}
use Rattle.ct_sexpr.specs.Open.{Open, none_open}
use Rattle.ct_sexpr.specs.declared.scanner.Mode.{Mode}
use Rattle.ct_sexpr.specs.declared.scanner.Mode.TheVariants.{Between, Comment, Word, Quoted, Text, Mark}
use Rattle.ct_sexpr.specs.declared.scanner.ScanStep.{ScanStep}
use Rattle.ct_sexpr.specs.declared.scanner.ScanStep.TheVariants.{Going, Command, Wrong}
use Rattle.ct_sexpr.specs.declared.scanner.Scanner.{Scanner}
use Rattle.ct_sexpr.specs.declared.error.ReadError.{ReadError}
use Rattle.ct_sexpr.specs.declared.error.ReadError.TheVariants.{NoMemory}

-- a prefix of a word, a keyword or a literal
abbrev pub BeginsWord : List ℕ → Type 0
BeginsWord [] = ⊥
BeginsWord (b ∷ bs) = (begins_word b ≡ true) × (after_word bs ≡ [])

-- the bytes after the last token go on as those that are left, after what the scanner is inside
abbrev pub GoesOn : Mode → List ℕ → ℕ → List ℕ → List ℕ → Type 0
GoesOn Between word depth remaining left = (word ≡ []) × (after_whitespace remaining ≡ after_whitespace left)
GoesOn Comment word depth remaining left = (word ≡ []) × (after_whitespace remaining ≡ after_comment left)
GoesOn Word word depth remaining left = BeginsWord word × (0 < depth) × (after_whitespace remaining ≡ word ++ left)
GoesOn Quoted word depth remaining left = (drop_while is_in_quoted_symbol word ≡ []) × (0 < depth) × (after_whitespace remaining ≡ bar ∷ (word ++ left))
GoesOn Text word depth remaining left = (0 < depth) × (after_whitespace remaining ≡ quotation_mark ∷ (doubled word ++ left))
GoesOn Mark word depth remaining left = (0 < depth) × (after_whitespace remaining ≡ quotation_mark ∷ (doubled word ++ quotation_mark ∷ left))

-- where a scanner is that has read a text as far as what is left
pub record IsAt (lists : Open) (mode : Mode) (word whole left : List ℕ) : Type 0 where
  pub remaining : List ℕ
  pub part : BeginsPart whole lists.tokens lists.depth remaining
  pub goes_on : GoesOn mode word lists.depth remaining left

-- so many lines end before the first byte of the text that is neither whitespace nor part of a comment
pub record BeginsAfter (lines : ℕ) (whole : List ℕ) : Type 0 where
  pub count : lines + line_feeds (after_whitespace whole) ≡ line_feeds whole
  pub few : lines < length whole

-- so many lines end in what was read of a text, and so many before the command that is open
pub record Counts (depth lines before : ℕ) (whole left : List ℕ) : Type 0 where
  pub count : lines + line_feeds left ≡ line_feeds whole
  pub few : lines + length left ≤ length whole
  pub begun : 0 < depth → BeginsAfter before whole

-- a scanner has read a text as far as what is left
pub record Reached (scanner : Scanner) (whole left : List ℕ) : Type 0 where
  pub position : IsAt scanner.lists scanner.mode scanner.word.items whole left
  pub lines : Counts scanner.lists.depth scanner.line_feeds scanner.before whole left

-- a scanner that has read no byte of a text's command
pub record IsFresh (scanner : Scanner) : Type 0 where
  pub lists : scanner.lists ≡ none_open
  pub mode : scanner.mode ≡ Between
  pub word : scanner.word.items ≡ []

-- what is left of a text follows its first command
pub record Completes (scanner : Scanner) (command : Expression) (whole left : List ℕ) : Type 0 where
  pub begins : BeginsCommand whole command left
  pub fresh : IsFresh scanner
  pub lines : Counts 0 scanner.line_feeds scanner.before whole left
  pub begun : BeginsAfter scanner.before whole

-- how many lines end before the command that is open, or where none is, before the byte that comes next
abbrev pub lines_before : Scanner → ℕ
lines_before scanner = if scanner.lists.depth == 0 then scanner.line_feeds else scanner.before

-- the error has as many lines before it as the scanner has read
abbrev pub IsOnLine : Scanner → List ℕ → List ℕ → Type 0
IsOnLine scanner whole suffix = scanner.line_feeds + line_feeds suffix ≡ line_feeds whole

-- the text has a definite error, and was read as far as what is left
pub record Refutes (scanner : Scanner) (code : ℕ) (whole left : List ℕ) : Type 0 where
  pub reached : Reached scanner whole left
  pub suffix : List ℕ
  pub error : HasDefiniteError whole code suffix
  pub line : IsOnLine scanner whole suffix

-- the input ends after the text, and there the text has an error
pub record EndsWrong (scanner : Scanner) (code : ℕ) (whole : List ℕ) : Type 0 where
  pub suffix : List ℕ
  pub error : HasError whole code suffix
  pub line : IsOnLine scanner whole suffix

-- the end of a text that was read whole: the number of the error, or None where it is whitespace and comments alone
abbrev pub EndsAt : Scanner → Option ℕ → Type 0
EndsAt scanner None = (whole : List ℕ) → Reached scanner whole [] → IsWhitespace whole
EndsAt scanner (Some code) = (whole : List ℕ) → Reached scanner whole [] → EndsWrong scanner code whole

-- one byte of the text is read
abbrev pub ReadsByte : Scanner → Scanner → ℕ → Type 0
ReadsByte old new b = (whole left : List ℕ) → Reached old whole (b ∷ left) → Reached new whole left

-- the byte that comes next is not read, and the scanner is where it was
abbrev pub Stays : Scanner → Scanner → ℕ → Type 0
Stays old new b = (whole left : List ℕ) → Reached old whole (b ∷ left) → Reached new whole (b ∷ left)

-- what reading one byte does
abbrev pub Steps : Scanner → Scanner → ℕ → Result ScanStep ReadError → Type 0
Steps old new b (Ok Going) = ReadsByte old new b
Steps old new b (Ok (Command e)) = (whole left : List ℕ) → Reached old whole (b ∷ left) → Completes new (expression_of e) whole left
Steps old new b (Ok (Wrong code)) = (whole left : List ℕ) → Reached old whole (b ∷ left) → Refutes new code whole (b ∷ left)
Steps old new b (Err e) = (e ≡ NoMemory) × Stays old new b

-- what reading bytes does, as far as what is left of them
abbrev pub Scans : Scanner → Scanner → List ℕ → List ℕ → Result ScanStep ReadError → Type 0
Scans old new bytes left (Ok Going) = (left ≡ []) × ((whole more : List ℕ) → Reached old whole (bytes ++ more) → Reached new whole more)
Scans old new bytes left (Ok (Command e)) = (whole more : List ℕ) → Reached old whole (bytes ++ more) → Completes new (expression_of e) whole (left ++ more)
Scans old new bytes left (Ok (Wrong code)) = (whole more : List ℕ) → Reached old whole (bytes ++ more) → Refutes new code whole (left ++ more)
Scans old new bytes left (Err e) = (e ≡ NoMemory) × ((whole more : List ℕ) → Reached old whole (bytes ++ more) → Reached new whole (left ++ more))

-- how many of so many bytes reading takes: all of them, or as many as close a command; a byte at which an error is definite,
-- or at which memory runs out, is not taken
abbrev pub Takes : ℕ → ℕ → Result ScanStep ReadError → Type 0
Takes size count (Ok Going) = count ≡ size
Takes size count (Ok (Command e)) = count ≤ size
Takes size count (Ok (Wrong code)) = count < size
Takes size count (Err e) = count < size
