-- What a run of the program does, by the status with which it ends.
use Rattle.std.specs.Prelude.{◌≡◌, ◌≢◌, ℕ, ◌+◌, ◌≤◌, ◌<◌, ◌⊎◌, List, [], ◌∷◌, ◌++◌, length, take, drop, Option, Some, Bool, if◌then◌else◌}
use Rattle.std.specs.List.{concat}
use Rattle.ct_io.specs.Bytes.{GrewByPrefix, GrewByPart, appended}
use Rattle.ct_io.specs.declared.status.Status.{Status}
use Rattle.ct_io.specs.declared.status.Status.TheVariants.{Done, Refused, Usage, InputFault, OutputFault, NoMemory, Rejected, TooLong}
use Rattle.ct_sexpr.specs.Text.{Located, Ending, clean, lexical, Reads, EndingSoFar, waiting, ReadsSoFar}
use Rattle.ct_input.specs.Slot.{most_bytes, piece_bytes, head}
use Rattle.ct_command.specs.declared.option.ErrorBehavior.{ErrorBehavior}
use Rattle.ct_command.specs.declared.option.ErrorBehavior.TheVariants.{ContinuedExecution, ImmediateExit}
use Rattle.ct_step.specs.Evidence.{Evidence, no_evidence}
use Rattle.ct_step.specs.State.{State, starting}
use Rattle.ct_step.specs.Step.{CommandEffect, Step}
use Rattle.ct_script.specs.Answers.{Answers, Leads, lines_of}
use Rattle.ct_run.specs.Output.{wrote, BreaksInLine, usage_line, version_line}
use Rattle.ct_run.specs.Position.{AreFirst}
use Rattle.ct_run.specs.Refusal.{refusal_line}
use Rattle.ct_run.specs.SoFar.{AnswersSoFar}

-- a script that is read whole is answered to its end: for each of its checks there is a verdict that is right where it is
-- given, of which this is kept, with these errors, and these lines are written
pub record IsAnsweredWhole (behavior : ErrorBehavior) (bytes : List ℕ) (kept : Evidence) (errors : List (ℕ × ℕ)) (lines : List (List ℕ)) : Type 0 where
  pub short : length bytes ≤ most_bytes
  pub commands : List Located
  pub ending : Ending
  pub read : Reads 1 bytes commands ending
  pub answered : Answers (starting behavior) 0 commands ending kept errors lines

-- the same of a longer one, which ends in the first bytes, by a command or by an error
pub record IsAnsweredInHead (behavior : ErrorBehavior) (bytes : List ℕ) (kept : Evidence) (errors : List (ℕ × ℕ)) (lines : List (List ℕ)) : Type 0 where
  pub long : most_bytes < length bytes
  pub commands : List Located
  pub so_far : EndingSoFar
  pub read : ReadsSoFar 1 (head bytes) commands so_far
  pub answered : AnswersSoFar (starting behavior) 0 commands so_far kept errors lines

-- the script is answered to its end
abbrev pub IsAnswered : ErrorBehavior → List ℕ → Evidence → List (ℕ × ℕ) → List (List ℕ) → Type 0
IsAnswered behavior bytes kept errors lines = IsAnsweredWhole behavior bytes kept errors lines ⊎ IsAnsweredInHead behavior bytes kept errors lines

-- the first commands of a script that is read whole are answered
pub record IsBegun (behavior : ErrorBehavior) (bytes : List ℕ) (kept : Evidence) (errors : List (ℕ × ℕ)) (lines : List (List ℕ)) : Type 0 where
  pub short : length bytes ≤ most_bytes
  pub commands : List Located
  pub rest : List Located
  pub ending : Ending
  pub read : Reads 1 bytes (commands ++ rest) ending
  pub answered : Answers (starting behavior) 0 commands clean kept errors lines

-- the same of a longer one
pub record IsBegunInHead (behavior : ErrorBehavior) (bytes : List ℕ) (kept : Evidence) (errors : List (ℕ × ℕ)) (lines : List (List ℕ)) : Type 0 where
  pub long : most_bytes < length bytes
  pub commands : List Located
  pub rest : List Located
  pub so_far : EndingSoFar
  pub read : ReadsSoFar 1 (head bytes) (commands ++ rest) so_far
  pub answered : Answers (starting behavior) 0 commands clean kept errors lines

-- the first commands of the script are answered
abbrev pub IsAnsweredSoFar : ErrorBehavior → List ℕ → Evidence → List (ℕ × ℕ) → List (List ℕ) → Type 0
IsAnsweredSoFar behavior bytes kept errors lines = IsBegun behavior bytes kept errors lines ⊎ IsBegunInHead behavior bytes kept errors lines

-- the script was answered to its end, and written
pub record Finishes (behavior : ErrorBehavior) (bytes : List ℕ) (kept : Evidence) (errors : List (ℕ × ℕ)) (old new : Option (List ℕ)) : Type 0 where
  pub lines : List (List ℕ)
  pub answers : IsAnswered behavior bytes kept errors lines
  pub written : new ≡ wrote lines old

-- the script is longer than what is read of it: every whole command of the first bytes was answered, none of which ends the
-- script, and written
pub record IsCut (behavior : ErrorBehavior) (bytes : List ℕ) (kept : Evidence) (errors : List (ℕ × ℕ)) (old new : Option (List ℕ)) : Type 0 where
  pub long : most_bytes < length bytes
  pub commands : List Located
  pub last : State
  pub count : ℕ
  pub lines : List (List ℕ)
  pub read : ReadsSoFar 1 (head bytes) commands waiting
  pub answered : Leads (starting behavior) 0 commands last count kept errors lines
  pub written : new ≡ wrote lines old

-- the run stopped early: as far as it came it answered, and a prefix of that was written, up to a part of the last line where the
-- sink failed
pub record StopsEarly (behavior : ErrorBehavior) (bytes : List ℕ) (kept : Evidence) (errors : List (ℕ × ℕ)) (old new : Option (List ℕ)) : Type 0 where
  pub lines : List (List ℕ)
  pub answers : IsAnswered behavior bytes kept errors lines ⊎ IsAnsweredSoFar behavior bytes kept errors lines
  pub written : GrewByPrefix (concat lines) old new

pub record StopsInLine (behavior : ErrorBehavior) (bytes : List ℕ) (kept : Evidence) (errors : List (ℕ × ℕ)) (old new : Option (List ℕ)) : Type 0 where
  pub lines : List (List ℕ)
  pub answers : IsAnswered behavior bytes kept errors lines ⊎ IsAnsweredSoFar behavior bytes kept errors lines
  pub written : BreaksInLine lines old new

-- Of a slot so many bytes were taken, and then it failed: every whole command of these bytes was answered, none of which ends the
-- script, and written. There is no error in them that stands: it would have ended the script.
pub record IsAnsweredUpTo (behavior : ErrorBehavior) (bytes : List ℕ) (taken : ℕ) (kept : Evidence) (errors : List (ℕ × ℕ)) (old new : Option (List ℕ)) : Type 0 where
  pub commands : List Located
  pub last : State
  pub count : ℕ
  pub lines : List (List ℕ)
  pub read : ReadsSoFar 1 (take taken bytes) commands waiting
  pub answered : Leads (starting behavior) 0 commands last count kept errors lines
  pub written : new ≡ wrote lines old

-- The lines of these commands were written whole, and that of the one after them was not, of which there is one. Behind the closing
-- parenthesis of that one fewer bytes were taken than one read asks for.
pub record IsAnsweredSoon (behavior : ErrorBehavior) (bytes : List ℕ) (taken : ℕ) (old new : Option (List ℕ)) : Type 0 where
  pub commands : List Located
  pub unwritten : Located
  pub later : List Located
  pub ending : Ending
  pub read : Reads 1 bytes (commands ++ unwritten ∷ later) ending
  pub behind : List ℕ
  pub place : AreFirst (commands ++ unwritten ∷ []) bytes behind
  pub soon : taken + length behind < length bytes + piece_bytes
  pub last : State
  pub count : ℕ
  pub kept : Evidence
  pub errors : List (ℕ × ℕ)
  pub lines : List (List ℕ)
  pub answered : Leads (starting behavior) 0 commands last count kept errors lines
  pub effect : CommandEffect
  pub step : Step last count unwritten.line unwritten.command effect
  pub line : List ℕ
  pub line_is : lines_of effect.text ≡ line ∷ []
  pub part : GrewByPart line (wrote lines old) new

-- the lines of all commands were written whole, and that of the error in the text was not
pub record IsCutInRefusal (behavior : ErrorBehavior) (bytes : List ℕ) (old new : Option (List ℕ)) : Type 0 where
  pub commands : List Located
  pub error : ℕ × ℕ
  pub read : Reads 1 bytes commands (lexical error.1 error.0)
  pub last : State
  pub count : ℕ
  pub kept : Evidence
  pub errors : List (ℕ × ℕ)
  pub lines : List (List ℕ)
  pub answered : Leads (starting behavior) 0 commands last count kept errors lines
  pub line : List ℕ
  pub line_is : refusal_line error ≡ line ∷ []
  pub part : GrewByPart line (wrote lines old) new

-- nothing was answered and nothing was written
abbrev pub DoesNothing : Evidence → List (ℕ × ℕ) → Option (List ℕ) → Option (List ℕ) → Type 0
DoesNothing kept errors old new = (kept ≡ no_evidence) × (errors ≡ []) × (new ≡ old)

-- a run over a slot with these bytes, of which so many were taken, by its status, what is kept, its errors, and the bytes of the sink
-- before and after it; after a fault of the sink it stopped inside the last line of what is reported
abbrev pub Solves : ErrorBehavior → List ℕ → ℕ → Status → Evidence → List (ℕ × ℕ) → Option (List ℕ) → Option (List ℕ) → Type 0
Solves behavior bytes taken Done kept errors old new = Finishes behavior bytes kept errors old new × (errors ≡ [])
Solves behavior bytes taken Refused kept errors old new = Finishes behavior bytes kept errors old new × (errors ≢ [])
Solves behavior bytes taken TooLong kept errors old new = IsCut behavior bytes kept errors old new
Solves behavior bytes taken InputFault kept errors old new = IsAnsweredUpTo behavior bytes taken kept errors old new
Solves behavior bytes taken OutputFault kept errors old new =
    StopsInLine behavior bytes kept errors old new × (IsAnsweredSoon behavior bytes taken old new ⊎ IsCutInRefusal behavior bytes old new)
Solves behavior bytes taken NoMemory kept errors old new = StopsEarly behavior bytes kept errors old new ⊎ DoesNothing kept errors old new
Solves behavior bytes taken Usage kept errors old new = ⊥
Solves behavior bytes taken Rejected kept errors old new = ⊥

-- what follows an error at the start of a script that is answered strictly, or not
abbrev pub behavior_of : Bool → ErrorBehavior
behavior_of strict = if strict then ImmediateExit else ContinuedExecution

-- the first bytes, so many, were taken from a slot with these, one at most beyond those that are read, and the others are left
pub record WereTaken (bytes : List ℕ) (taken : ℕ) (left : Option (List ℕ)) : Type 0 where
  pub there : taken ≤ length bytes
  pub few : taken ≤ most_bytes + 1
  pub rest : left ≡ Some (drop taken bytes)

-- what a run took from a slot with these bytes, by its status and what was left there before and after it: after a fault the slot may not
-- have been opened, and where memory ran out nothing is said
abbrev pub Took : Status → List ℕ → ℕ → Option (List ℕ) → Option (List ℕ) → Type 0
Took InputFault bytes taken before after = WereTaken bytes taken after ⊎ ((taken ≡ 0) × (after ≡ before))
Took NoMemory bytes taken before after = Unit {0}
Took status bytes taken before after = WereTaken bytes taken after

-- a run with arguments that have none of the forms: the usage line is written, or a part of it
abbrev pub ReportsUsage : Status → Evidence → List (ℕ × ℕ) → Option (List ℕ) → Option (List ℕ) → Type 0
ReportsUsage Usage kept errors old new = (kept ≡ no_evidence) × (errors ≡ []) × (new ≡ appended usage_line old)
ReportsUsage OutputFault kept errors old new = (kept ≡ no_evidence) × (errors ≡ []) × GrewByPart usage_line old new
ReportsUsage NoMemory kept errors old new = (kept ≡ no_evidence) × (errors ≡ []) × GrewByPart usage_line old new
ReportsUsage Done kept errors old new = ⊥
ReportsUsage Refused kept errors old new = ⊥
ReportsUsage InputFault kept errors old new = ⊥
ReportsUsage Rejected kept errors old new = ⊥
ReportsUsage TooLong kept errors old new = ⊥

-- a run that is asked to tell something, which it does in this line
abbrev pub Tells : List ℕ → Status → Evidence → List (ℕ × ℕ) → Option (List ℕ) → Option (List ℕ) → Type 0
Tells line Done kept errors old new = (kept ≡ no_evidence) × (errors ≡ []) × (new ≡ appended line old)
Tells line OutputFault kept errors old new = (kept ≡ no_evidence) × (errors ≡ []) × GrewByPart line old new
Tells line NoMemory kept errors old new = (kept ≡ no_evidence) × (errors ≡ []) × GrewByPart line old new
Tells line Refused kept errors old new = ⊥
Tells line Usage kept errors old new = ⊥
Tells line InputFault kept errors old new = ⊥
Tells line Rejected kept errors old new = ⊥
Tells line TooLong kept errors old new = ⊥

-- how the program is called: the line of usage, as it was asked for
abbrev pub ReportsHelp : Status → Evidence → List (ℕ × ℕ) → Option (List ℕ) → Option (List ℕ) → Type 0
ReportsHelp = Tells usage_line

-- and its version
abbrev pub ReportsVersion : Status → Evidence → List (ℕ × ℕ) → Option (List ℕ) → Option (List ℕ) → Type 0
ReportsVersion = Tells version_line
