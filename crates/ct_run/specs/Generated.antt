-- What a run does that answers a generated script, whose answers are counted and not written.
use Rattle.std.specs.Prelude.{◌≡◌, ℕ, ◌⊎◌, Bool, true, false, List, [], ◌++◌, Option, None, codes, count_by}
use Rattle.std.specs.Fmt.{decimal}
use Rattle.ct_io.specs.Bytes.{GrewByPart, appended}
use Rattle.ct_io.specs.declared.status.Status.{Status}
use Rattle.ct_io.specs.declared.status.Status.TheVariants.{Done, Refused, Usage, InputFault, OutputFault, NoMemory, Rejected, TooLong}
use Rattle.ct_gen.specs.Script.{script}
use Rattle.ct_engine.specs.declared.verdict.Verdict.{Verdict}
use Rattle.ct_shrink.specs.declared.shrunk.Shrunk.{Shrunk}
use Rattle.ct_step.specs.declared.response.CheckResponse.{CheckResponse}
use Rattle.ct_step.specs.declared.response.CheckResponse.TheVariants as response
use Rattle.ct_step.specs.Evidence.{Evidence, evidence}
use Rattle.ct_command.specs.declared.option.ErrorBehavior.TheVariants.{ContinuedExecution}
use Rattle.ct_run.specs.Run.{IsAnswered, IsAnsweredSoFar}

abbrev pub is_sat : CheckResponse → Bool
is_sat response.Sat = true
is_sat _ = false

abbrev pub is_unsat : CheckResponse → Bool
is_unsat response.Unsat = true
is_unsat _ = false

-- the check is answered `unknown`
abbrev pub is_unknown : CheckResponse → Bool
is_unknown response.Unknown = true
is_unknown _ = false

-- the one line: how many checks had each answer
abbrev pub counts_line : ℕ → List CheckResponse → List ℕ
counts_line n responses =
    codes "gen " ++ (decimal n ++ (codes ": " ++ (decimal (count_by is_sat responses) ++ (codes " sat, "
    ++ (decimal (count_by is_unsat responses) ++ (codes " unsat, " ++ (decimal (count_by is_unknown responses) ++ codes " unknown\n")))))))

-- a script that ends with this status was answered to its end, without an error
abbrev pub is_done : Status → Bool
is_done Done = true
is_done _ = false

-- the checks of the generated script are answered so, to its end, each by a verdict that is right where it is given, without an error
pub record IsSolved (n : ℕ) (responses : List CheckResponse) : Type 0 where
  pub last : Option Verdict
  pub shrunk : Option Shrunk
  pub lines : List (List ℕ)
  pub answers : IsAnswered ContinuedExecution (script n) (evidence responses last shrunk) [] lines

-- the same of its first commands, if any
pub record IsSolvedSoFar (n : ℕ) (responses : List CheckResponse) : Type 0 where
  pub last : Option Verdict
  pub shrunk : Option Shrunk
  pub errors : List (ℕ × ℕ)
  pub lines : List (List ℕ)
  pub answers : (IsAnswered ContinuedExecution (script n) (evidence responses last shrunk) errors lines ⊎ IsAnsweredSoFar ContinuedExecution (script n) (evidence responses last shrunk) errors lines) ⊎ (responses ≡ [])

-- the line of all answers was begun
pub record BreaksInCounts (n : ℕ) (responses : List CheckResponse) (old new : Option (List ℕ)) : Type 0 where
  pub solved : IsSolved n responses
  pub part : GrewByPart (counts_line n responses) old new

-- nothing was written
pub record StopsBefore (n : ℕ) (responses : List CheckResponse) (old new : Option (List ℕ)) : Type 0 where
  pub solved : IsSolvedSoFar n responses
  pub unwritten : new ≡ old

-- nothing is reported but how checks were answered
pub record HasResponsesAlone (kept : Evidence) (errors : List (ℕ × ℕ)) : Type 0 where
  pub no_verdict : kept.last ≡ None
  pub no_core : kept.shrunk ≡ None
  pub no_error : errors ≡ []

-- a run that answers the generated script of n blocks, by its status, what is kept, its errors, and the bytes of the sink before and
-- after it
abbrev pub ReportsCounts : ℕ → Status → Evidence → List (ℕ × ℕ) → Option (List ℕ) → Option (List ℕ) → Type 0
ReportsCounts n Done kept errors old new = HasResponsesAlone kept errors × IsSolved n kept.responses × (new ≡ appended (counts_line n kept.responses) old)
ReportsCounts n OutputFault kept errors old new = HasResponsesAlone kept errors × BreaksInCounts n kept.responses old new
ReportsCounts n NoMemory kept errors old new = HasResponsesAlone kept errors × (BreaksInCounts n kept.responses old new ⊎ StopsBefore n kept.responses old new)
ReportsCounts n Refused kept errors old new = ⊥
ReportsCounts n Usage kept errors old new = ⊥
ReportsCounts n InputFault kept errors old new = ⊥
ReportsCounts n Rejected kept errors old new = ⊥
ReportsCounts n TooLong kept errors old new = ⊥
