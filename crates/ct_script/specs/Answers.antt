-- How the commands of a script are answered, one after the other (SMT-LIB 2.7, section 4.2).
use Rattle.std.specs.Prelude.{◌≡◌, ℕ, false, List, [], ◌∷◌, ◌++◌, Option, None, Some}
use Rattle.std.specs.Bool.{MatchBool}
use Rattle.ct_sexpr.specs.Text.{Located, Ending, clean, lexical}
use Rattle.ct_step.specs.Evidence.{Evidence, no_evidence, followed_by}
use Rattle.ct_step.specs.State.{State}
use Rattle.ct_step.specs.Step.{CommandEffect, Step, counted, refusal_text}

-- a text on a line of its own, which the byte 10 ends; nothing where the text is empty
abbrev pub lines_of : List ℕ → List (List ℕ)
lines_of [] = []
lines_of (b ∷ bs) = ((b ∷ bs) ++ 10 ∷ []) ∷ []

-- the error of a command on this line
abbrev pub errors_of : ℕ → Option ℕ → List (ℕ × ℕ)
errors_of line None = []
errors_of line (Some n) = (line, n) ∷ []

-- nothing more is answered
pub record IsSilent (kept : Evidence) (errors : List (ℕ × ℕ)) (lines : List (List ℕ)) : Type 0 where
  pub nothing_kept : kept ≡ no_evidence
  pub no_error : errors ≡ []
  pub no_line : lines ≡ []

-- these are answers to an effect of a command on this line, and then to what follows
pub record IsFollowed (line : ℕ) (e : CommandEffect) (kept later_kept : Evidence) (errors later_errors : List (ℕ × ℕ)) (lines later_lines : List (List ℕ)) : Type 0 where
  pub kept_is : kept ≡ followed_by e.evidence later_kept
  pub errors_are : errors ≡ errors_of line e.error ++ later_errors
  pub lines_are : lines ≡ lines_of e.text ++ later_lines

-- how a text ends after its last command: with nothing, or with an error
abbrev pub IsEnding : Ending → Evidence → List (ℕ × ℕ) → List (List ℕ) → Type 0
IsEnding clean kept errors lines = IsSilent kept errors lines
IsEnding (lexical code line) kept errors lines = (kept ≡ no_evidence) × (errors ≡ (line, code) ∷ []) × (lines ≡ lines_of (refusal_text line code))

-- from this state on, after so many checks, these commands and this ending are answered, by what is kept of that, with these errors,
-- and these lines are written; a command with which the script ends is the last that is answered
abbrev pub Answers : State → ℕ → List Located → Ending → Evidence → List (ℕ × ℕ) → List (List ℕ) → Type 0
Answers s number [] ending kept errors lines = IsEnding ending kept errors lines
Answers s number (c ∷ cs) ending kept errors lines =
    (e : CommandEffect) × (later_kept : Evidence) × (later_errors : List (ℕ × ℕ)) × (later_lines : List (List ℕ))
    × Step s number c.line c.command e × IsFollowed c.line e kept later_kept errors later_errors lines later_lines
    × MatchBool e.stop (IsSilent later_kept later_errors later_lines) (Answers e.state (counted number c.command) cs ending later_kept later_errors later_lines)

-- the same of commands none of which ends the script: they lead to a state
abbrev pub Leads : State → ℕ → List Located → State → ℕ → Evidence → List (ℕ × ℕ) → List (List ℕ) → Type 0
Leads s number [] last count kept errors lines = (last ≡ s) × (count ≡ number) × IsSilent kept errors lines
Leads s number (c ∷ cs) last count kept errors lines =
    (e : CommandEffect) × (later_kept : Evidence) × (later_errors : List (ℕ × ℕ)) × (later_lines : List (List ℕ))
    × Step s number c.line c.command e × IsFollowed c.line e kept later_kept errors later_errors lines later_lines
    × (e.stop ≡ false) × Leads e.state (counted number c.command) cs last count later_kept later_errors later_lines
