-- How far a script is answered.
use Rattle.std.specs.Prelude.{◌≡◌, ℕ, ◌⊎◌, List, [], ◌∷◌, ◌++◌, Option}
use Rattle.ct_io.specs.declared.sink.SinkError.{SinkError}
use Rattle.ct_io.specs.declared.sink.SinkError.TheVariants as sink
use Rattle.ct_sexpr.specs.Expression.{Expression}
use Rattle.ct_sexpr.specs.Text.{Located, Ending, clean, Reads, EndingSoFar, waiting, ReadsSoFar}
use Rattle.ct_sexpr.specs.Unread.{Unread}
use Rattle.ct_step.specs.Evidence.{Evidence, followed_by}
use Rattle.ct_step.specs.Step.{CommandEffect, Step}
use Rattle.ct_script.specs.Session.{Course, after}
use Rattle.ct_script.specs.Answers.{Leads, lines_of}
use Rattle.ct_run.specs.declared.turn.Ending.{Ending as Ended}
use Rattle.ct_run.specs.declared.turn.Ending.TheVariants as ended
use Rattle.ct_run.specs.Output.{wrote, IsLeft}
use Rattle.ct_run.specs.Position.{AreFirst}
use Rattle.ct_run.specs.SoFar.{TextState, ends, stands, HasReadSoFar, AnswersTo, refusal}

-- what a session has come to, what is left of the script, and what was written
pub record Progress : Type 0 where
  pub course : Course
  pub unread : Unread
  pub written : Option (List ℕ)

abbrev pub progress : Course → Unread → Option (List ℕ) → Progress
progress course unread written = record { course = course; unread = unread; written = written }

-- the session answered an expression on this line with this effect
pub record AnsweredWith (old new : Course) (line : ℕ) (e : Expression) (effect : CommandEffect) : Type 0 where
  pub step : Step old.state old.number line e effect
  pub course : new ≡ after old line e effect new.store

-- memory ran out, and so nothing was answered
pub record IsUnanswered (error : SinkError) (old new : Course) (before now : Option (List ℕ)) : Type 0 where
  pub no_memory : error ≡ sink.NoMemory
  pub same : new ≡ old
  pub unwritten : now ≡ before

-- an expression was answered, with this effect, but its line was not written whole
pub record IsCutOff (error : SinkError) (old new : Course) (line : ℕ) (e : Expression) (before now : Option (List ℕ)) : Type 0 where
  pub effect : CommandEffect
  pub answered : AnsweredWith old new line e effect
  pub left : IsLeft error (lines_of effect.text) before now

-- what was answered of the one to the other, by what is kept of it and by its errors
pub record Adds (old new : Course) (kept : Evidence) (errors : List (ℕ × ℕ)) : Type 0 where
  pub kept_is : new.evidence ≡ followed_by old.evidence kept
  pub errors_are : new.errors ≡ old.errors ++ errors

-- The old text begins with these commands, and the new one is what stands behind them, whatever may still come after both: what is
-- then read of the new text is read of the old one after these commands.
pub record IsBehind (old new : Unread) (commands : List Located) : Type 0 where
  pub place : (tail : List ℕ) → AreFirst commands (old.bytes ++ tail) (new.bytes ++ tail)
  pub ended : (tail : List ℕ) (cs : List Located) (x : Ending) → Reads new.line (new.bytes ++ tail) cs x → Reads old.line (old.bytes ++ tail) (commands ++ cs) x
  pub so_far : (tail : List ℕ) (cs : List Located) (x : EndingSoFar) → ReadsSoFar new.line (new.bytes ++ tail) cs x → ReadsSoFar old.line (old.bytes ++ tail) (commands ++ cs) x

-- these commands were read, answered and written, none of which ends the script
pub record WentOn (old new : Progress) : Type 0 where
  pub commands : List Located
  pub kept : Evidence
  pub errors : List (ℕ × ℕ)
  pub lines : List (List ℕ)
  pub behind : IsBehind old.unread new.unread commands
  pub same_fed : new.unread.fed ≡ old.unread.fed
  pub same_end : new.unread.ended ≡ old.unread.ended
  pub answered : Leads old.course.state old.course.number commands new.course.state new.course.number kept errors lines
  pub adds : Adds old.course new.course kept errors
  pub written : new.written ≡ wrote lines old.written

-- these commands were read, answered and written, the last of which ends the script, whatever follows it
pub record Stopped (old new : Progress) : Type 0 where
  pub commands : List Located
  pub kept : Evidence
  pub errors : List (ℕ × ℕ)
  pub lines : List (List ℕ)
  pub behind : IsBehind old.unread new.unread commands
  pub same_end : new.unread.ended ≡ old.unread.ended
  pub answered : (cs : List Located) (x : TextState) → AnswersTo old.course.state old.course.number (commands ++ cs) x kept errors lines
  pub adds : Adds old.course new.course kept errors
  pub written : new.written ≡ wrote lines old.written

-- a command ended the script, or nothing is left to answer, or an error of the text alone, or the text goes on beyond what is there
abbrev pub EndsWith : Progress → Progress → Ended → Type 0
EndsWith old new ended.Clean = Stopped old new ⊎ (WentOn old new × HasReadSoFar new.unread [] (ends clean))
EndsWith old new (ended.Lexical error) = WentOn old new × HasReadSoFar new.unread [] (refusal new.unread.ended error)
EndsWith old new ended.Cut = WentOn old new × HasReadSoFar new.unread [] (stands waiting)

-- the next command was read and answered, but its line was not written whole
pub record CutOff (error : SinkError) (old new : Progress) : Type 0 where
  pub next : Located
  pub behind : IsBehind old.unread new.unread (next ∷ [])
  pub cut : IsCutOff error old.course new.course next.line next.command old.written new.written

-- an error of the sink ended the script after commands that were answered and written
pub record BrokeOff (error : SinkError) (old new : Progress) : Type 0 where
  pub mid : Progress
  pub went : WentOn old mid
  pub broke : IsUnanswered error mid.course new.course mid.written new.written ⊎ CutOff error mid new
