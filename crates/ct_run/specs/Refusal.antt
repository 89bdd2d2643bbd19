-- How a sink's error, and an error of a script's text, end a run.
use Rattle.std.specs.Prelude.{◌≡◌, ℕ, ◌⊎◌, List, [], ◌∷◌, ◌++◌, Option}
use Rattle.ct_io.specs.declared.sink.SinkError.{SinkError}
use Rattle.ct_io.specs.declared.sink.SinkError.TheVariants as sink
use Rattle.ct_io.specs.declared.status.Status.{Status}
use Rattle.ct_io.specs.declared.status.Status.TheVariants as status
use Rattle.ct_script.specs.Answers.{lines_of}
use Rattle.ct_step.specs.Step.{refusal_text}
use Rattle.ct_run.specs.declared.turn.Ending.{Ending}
use Rattle.ct_run.specs.declared.turn.Ending.TheVariants as ended
use Rattle.ct_run.specs.Output.{wrote, IsLeft}

-- the status with which a sink's error ends a run
abbrev pub status_of_error : SinkError → Status
status_of_error sink.Fault = status.OutputFault
status_of_error sink.NoMemory = status.NoMemory

-- the status of a script that came to its end, by its errors
abbrev pub status_of_script : List (ℕ × ℕ) → Status
status_of_script [] = status.Done
status_of_script (error ∷ errors) = status.Refused

-- the line of an error
abbrev pub refusal_line : ℕ × ℕ → List (List ℕ)
refusal_line error = lines_of (refusal_text error.0 error.1)

-- an error of the text is reported
abbrev pub Reports : ℕ × ℕ → List (ℕ × ℕ) → List (ℕ × ℕ) → Type 0
Reports error old new = new ≡ old ++ error ∷ []

-- how a run ends whose script ends with an error of its text: by its status, the errors and the bytes before and after
abbrev pub IsRefused : ℕ × ℕ → Status → List (ℕ × ℕ) → List (ℕ × ℕ) → Option (List ℕ) → Option (List ℕ) → Type 0
IsRefused error status.Refused errors reported old new = Reports error errors reported × (new ≡ wrote (refusal_line error) old)
IsRefused error status.OutputFault errors reported old new = Reports error errors reported × IsLeft sink.Fault (refusal_line error) old new
IsRefused error status.NoMemory errors reported old new =
    (Reports error errors reported × IsLeft sink.NoMemory (refusal_line error) old new) ⊎ ((reported ≡ errors) × (new ≡ old))
IsRefused error status.Done errors reported old new = ⊥
IsRefused error status.Usage errors reported old new = ⊥
IsRefused error status.InputFault errors reported old new = ⊥
IsRefused error status.Rejected errors reported old new = ⊥
IsRefused error status.TooLong errors reported old new = ⊥

-- how a run ends whose script was answered as far as it was read
abbrev pub IsConcluded : Ending → Status → List (ℕ × ℕ) → List (ℕ × ℕ) → Option (List ℕ) → Option (List ℕ) → Type 0
IsConcluded ended.Clean s errors reported old new = (s ≡ status_of_script errors) × (reported ≡ errors) × (new ≡ old)
IsConcluded ended.Cut s errors reported old new = (s ≡ status.TooLong) × (reported ≡ errors) × (new ≡ old)
IsConcluded (ended.Lexical error) s errors reported old new = IsRefused error s errors reported old new
