-- What an audit of a stored derivation, or of a stored model, does, by the status with which it ends.
use Rattle.std.specs.Prelude.{◌≡◌, ◌≢◌, ℕ, ◌≤◌, ◌<◌, ◌&&◌, ◌⊎◌, Bool, true, false, List, [], length, Option, None, Some, option_to_list}
use Rattle.ct_io.specs.declared.sink.SinkError.TheVariants as sink
use Rattle.ct_io.specs.declared.status.Status.{Status}
use Rattle.ct_io.specs.declared.status.Status.TheVariants.{Done, Refused, Usage, InputFault, OutputFault, NoMemory, Rejected, TooLong}
use Rattle.ct_sexpr.specs.Unread.{Unread}
use Rattle.ct_input.specs.Slot.{most_bytes, IsWholeOf, IsTaken}
use Rattle.ct_step.specs.Evidence.{Evidence, no_evidence}
use Rattle.ct_script.specs.Answers.{lines_of}
use Rattle.ct_audit.specs.declared.answer.AuditAnswer.{AuditAnswer}
use Rattle.ct_audit.specs.declared.answer.AuditAnswer.TheVariants.{Verified}
use Rattle.ct_audit.specs.declared.answer.AuditAnswer.TheVariants as said
use Rattle.ct_audit.specs.Answer.{audit_text, audit_error}
use Rattle.ct_audit.specs.Audit.{Audits}
use Rattle.ct_model_audit.specs.ModelAudit.{AuditsModel}
use Rattle.ct_run.specs.Output.{wrote, IsLeft}
use Rattle.ct_run.specs.Run.{DoesNothing}

-- one of the two files holds more bytes than are read
abbrev pub AreTooLong : List ℕ → List ℕ → Type 0
AreTooLong proof script = (most_bytes < length proof) ⊎ (most_bytes < length script)

-- what is read of the two files: both whole, or nothing where one is too long
abbrev pub AreFiles : List ℕ → List ℕ → Option (Unread × Unread) → Type 0
AreFiles proof script None = AreTooLong proof script
AreFiles proof script (Some readers) = IsWholeOf proof (Some readers.0) × IsWholeOf script (Some readers.1)

-- what is judged of the bytes of two files: a derivation or a model, and its script
abbrev pub Judgement : Type 1
Judgement = List ℕ → List ℕ → AuditAnswer → Type 0

-- the two files are read whole, and this is the answer
pub record IsJudged (R : Judgement) (proof script : List ℕ) (answer : AuditAnswer) : Type 0 where
  pub short_proof : length proof ≤ most_bytes
  pub short_script : length script ≤ most_bytes
  pub audited : R proof script answer

-- there is no verdict, and the answer's error is the only one
pub record Tells (answer : AuditAnswer) (kept : Evidence) (errors : List (ℕ × ℕ)) : Type 0 where
  pub nothing_kept : kept ≡ no_evidence
  pub errors_are : errors ≡ option_to_list (audit_error answer)

-- the answer's line
abbrev pub answer_line : AuditAnswer → List (List ℕ)
answer_line answer = lines_of (audit_text answer)

-- how an audit with this answer ends: by its status, what is kept, the errors, and the bytes of the sink before and after it
abbrev pub ReportsAnswer : AuditAnswer → Status → Evidence → List (ℕ × ℕ) → Option (List ℕ) → Option (List ℕ) → Type 0
ReportsAnswer answer Done kept errors old new = (answer ≡ Verified) × Tells answer kept errors × (new ≡ wrote (answer_line answer) old)
ReportsAnswer answer Rejected kept errors old new = (answer ≢ Verified) × Tells answer kept errors × (new ≡ wrote (answer_line answer) old)
ReportsAnswer answer OutputFault kept errors old new = Tells answer kept errors × IsLeft sink.Fault (answer_line answer) old new
ReportsAnswer answer NoMemory kept errors old new = Tells answer kept errors × IsLeft sink.NoMemory (answer_line answer) old new
ReportsAnswer answer Refused kept errors old new = ⊥
ReportsAnswer answer Usage kept errors old new = ⊥
ReportsAnswer answer InputFault kept errors old new = ⊥
ReportsAnswer answer TooLong kept errors old new = ⊥

-- the status of an answer whose line was written
abbrev pub status_of_answer : AuditAnswer → Status
status_of_answer Verified = Done
status_of_answer (said.Rejected number) = Rejected
status_of_answer (said.Wrong item code) = Rejected

-- the answer is reported, or memory ran out before that
abbrev pub Reports : AuditAnswer → Status → Evidence → List (ℕ × ℕ) → Option (List ℕ) → Option (List ℕ) → Type 0
Reports answer status kept errors old new =
    ReportsAnswer answer status kept errors old new ⊎ ((status ≡ NoMemory) × DoesNothing kept errors old new)

-- why nothing was judged
abbrev pub Prevents : List ℕ → List ℕ → Status → Type 0
Prevents proof script InputFault = Unit {0}
Prevents proof script NoMemory = Unit {0}
Prevents proof script TooLong = AreTooLong proof script
Prevents proof script Done = ⊥
Prevents proof script Refused = ⊥
Prevents proof script Usage = ⊥
Prevents proof script OutputFault = ⊥
Prevents proof script Rejected = ⊥

-- the file was judged and the answer reported
pub record Judges (R : Judgement) (proof script : List ℕ) (status : Status) (kept : Evidence) (errors : List (ℕ × ℕ)) (old new : Option (List ℕ)) : Type 0 where
  pub answer : AuditAnswer
  pub judged : IsJudged R proof script answer
  pub reported : ReportsAnswer answer status kept errors old new

-- an audit of two files of these bytes: the answer is reported, or nothing was judged
abbrev pub ReportsJudged : Judgement → List ℕ → List ℕ → Status → Evidence → List (ℕ × ℕ) → Option (List ℕ) → Option (List ℕ) → Type 0
ReportsJudged R proof script status kept errors old new =
    Judges R proof script status kept errors old new ⊎ (Prevents proof script status × DoesNothing kept errors old new)

-- of a derivation and its script, and of a model at the check of a script with this number
abbrev pub ReportsAudit : List ℕ → List ℕ → Status → Evidence → List (ℕ × ℕ) → Option (List ℕ) → Option (List ℕ) → Type 0
ReportsAudit = ReportsJudged Audits

abbrev pub ReportsModelAudit : ℕ → List ℕ → List ℕ → Status → Evidence → List (ℕ × ℕ) → Option (List ℕ) → Option (List ℕ) → Type 0
ReportsModelAudit number = ReportsJudged (AuditsModel number)

-- of each of the two slots, which was opened under its name, the bytes were taken that are read of it: all, or of one that is too long as
-- many as are read and one more
pub record WereRead (whole_proof whole_script : Bool) (held_proof left_proof held_script left_script : Option (List ℕ)) : Type 0 where
  pub proof : IsTaken held_proof whole_proof left_proof
  pub script : IsTaken held_script whole_script left_script

-- both files were opened and read, and whether both were read whole
abbrev pub AreRead : Bool → Option (List ℕ) → Option (List ℕ) → Option (List ℕ) → Option (List ℕ) → Type 0
AreRead whole held_proof left_proof held_script left_script =
    (whole_proof : Bool) × (whole_script : Bool) × ((whole_proof && whole_script) ≡ whole) × WereRead whole_proof whole_script held_proof left_proof held_script left_script

-- what an audit opened and read, by the status with which it ends: both files whole, where the derivation was judged; both, where one of them is
-- too long. After a fault of the desk, and where memory ran out, nothing is said
abbrev pub Reads : Status → Option (List ℕ) → Option (List ℕ) → Option (List ℕ) → Option (List ℕ) → Type 0
Reads InputFault held_proof left_proof held_script left_script = Unit {0}
Reads NoMemory held_proof left_proof held_script left_script = Unit {0}
Reads TooLong held_proof left_proof held_script left_script = AreRead false held_proof left_proof held_script left_script
Reads status held_proof left_proof held_script left_script = AreRead true held_proof left_proof held_script left_script
