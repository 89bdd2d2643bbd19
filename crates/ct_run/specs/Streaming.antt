-- How far a script is answered that is read from a slot piece by piece.
use Rattle.std.specs.Prelude.{◌≡◌, ℕ, ◌+◌, ◌≤◌, ◌<◌, true, false, Bool, List, [], ◌++◌, length, Option, IfSome}
use Rattle.ct_io.specs.declared.sink.SinkError.{SinkError}
use Rattle.ct_io.specs.declared.sink.SinkError.TheVariants as sink
use Rattle.ct_io.specs.declared.status.Status.{Status}
use Rattle.ct_io.specs.declared.status.Status.TheVariants as status
use Rattle.ct_sexpr.specs.Text.{waiting}
use Rattle.ct_sexpr.specs.Unread.{Unread}
use Rattle.ct_input.specs.declared.feeding.InputError.{InputError}
use Rattle.ct_input.specs.declared.feeding.InputError.TheVariants as input
use Rattle.ct_input.specs.Slot.{most_bytes, piece_bytes, CameOut}
use Rattle.ct_script.specs.Session.{Course}
use Rattle.ct_run.specs.declared.turn.Ending.{Ending as Ended}
use Rattle.ct_run.specs.declared.turn.Ending.TheVariants as ended
use Rattle.ct_run.specs.declared.stream.StreamError.{StreamError}
use Rattle.ct_run.specs.declared.stream.StreamError.TheVariants.{Input, Output}
use Rattle.ct_run.specs.SoFar.{stands, HasReadSoFar}
use Rattle.ct_run.specs.Progress.{Progress, progress, WentOn, EndsWith, BrokeOff}
use Rattle.ct_run.specs.Refusal.{status_of_error}

-- the status of a run that ends as its slot cannot be read
abbrev pub status_of_input : InputError → Status
status_of_input input.Fault = status.InputFault
status_of_input input.NoMemory = status.NoMemory

-- the status of a run that such an error ends
abbrev pub status_of_stream : StreamError → Status
status_of_stream (Input error) = status_of_input error
status_of_stream (Output error) = status_of_error error

-- a reader that has given nothing of these bytes yet
abbrev pub at_start : List ℕ → Bool → Unread
at_start bytes over = record { bytes = bytes; line = 1; fed = length bytes; ended = over }

-- a course that is to begin with these bytes, and with what was written
abbrev pub beginning : Course → List ℕ → Bool → Option (List ℕ) → Progress
beginning course bytes over written = progress course (at_start bytes over) written

-- These bytes came out of a slot and were fed, and at most one more came out that was not. Where the input was said to have ended, the
-- slot held no others.
pub record WasFed (before after : Option (List ℕ)) (bytes extra : List ℕ) (over : Bool) : Type 0 where
  pub short : length bytes ≤ most_bytes
  pub one : length extra ≤ 1
  pub came : CameOut before (bytes ++ extra) after
  pub whole : over ≡ true → IfSome before (λ all. all ≡ bytes)
  pub last : over ≡ true → extra ≡ []

-- more was there than is read of a slot
pub record IsFull (bytes extra : List ℕ) : Type 0 where
  pub full : length bytes ≡ most_bytes
  pub more : length extra ≡ 1

-- the script was answered to this end, as if all bytes that were fed had been there from the start
pub record HasStreamed (before after : Option (List ℕ)) (course : Course) (written : Option (List ℕ)) (new : Progress) (ending : Ended) : Type 0 where
  pub bytes : List ℕ
  pub extra : List ℕ
  pub fed : WasFed before after bytes extra new.unread.ended
  pub cut : ending ≡ ended.Cut → IsFull bytes extra
  pub ends : EndsWith (beginning course bytes new.unread.ended written) new ending

-- all whole commands of these bytes were answered and written, and more bytes are needed
pub record WaitsAfter (bytes : List ℕ) (course : Course) (written : Option (List ℕ)) (new : Progress) : Type 0 where
  pub short : length bytes ≤ most_bytes
  pub went : WentOn (beginning course bytes false written) new
  pub waits : HasReadSoFar new.unread [] (stands waiting)

-- the slot failed where more bytes were needed, and gave none; or memory ran out there
abbrev pub FailsInside : Option (List ℕ) → Option (List ℕ) → Course → Option (List ℕ) → Progress → InputError → Type 0
FailsInside before after course written new input.Fault = (bytes : List ℕ) × CameOut before bytes after × WaitsAfter bytes course written new
FailsInside before after course written new input.NoMemory = (bytes : List ℕ) × (mid : Option (List ℕ)) × CameOut before bytes mid × WaitsAfter bytes course written new

-- the sink failed, or memory ran out; at a fault of the sink fewer bytes had come that belong to no command answered so far than one
-- read asks for
pub record FailsOutside (before after : Option (List ℕ)) (course : Course) (written : Option (List ℕ)) (new : Progress) (error : SinkError) : Type 0 where
  pub bytes : List ℕ
  pub extra : List ℕ
  pub over : Bool
  pub fed : WasFed before after bytes extra over
  pub broke : BrokeOff error (beginning course bytes over written) new
  pub soon : error ≡ sink.Fault → length extra + length new.unread.bytes < piece_bytes

-- the script was not answered to an end
abbrev pub BrokeInStream : Option (List ℕ) → Option (List ℕ) → Course → Option (List ℕ) → Progress → StreamError → Type 0
BrokeInStream before after course written new (Input error) = FailsInside before after course written new error
BrokeInStream before after course written new (Output error) = FailsOutside before after course written new error

-- an error of the sink alone
abbrev pub BreaksOff : Progress → Progress → StreamError → Type 0
BreaksOff old new (Input error) = ⊥
BreaksOff old new (Output error) = BrokeOff error old new

-- an error of the slot alone, of which a fault takes nothing
abbrev pub FailsToFeed : Option (List ℕ) → Option (List ℕ) → StreamError → Type 0
FailsToFeed before after (Input input.Fault) = after ≡ before
FailsToFeed before after (Input input.NoMemory) = Unit {0}
FailsToFeed before after (Output error) = ⊥
