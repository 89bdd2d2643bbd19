-- The exit status of the process.
use Rattle.std.specs.Prelude.{ℕ}
use Rattle.ct_io.specs.declared.status.Status.{Status}
use Rattle.ct_io.specs.declared.status.Status.TheVariants.{Done, Refused, Usage, InputFault, OutputFault, NoMemory, Rejected, TooLong}

abbrev pub code_of : Status → ℕ
code_of Done = 0
code_of Refused = 1
code_of Usage = 2
code_of InputFault = 3
code_of OutputFault = 4
code_of NoMemory = 5
code_of Rejected = 6
code_of TooLong = 7
