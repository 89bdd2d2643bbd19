-- An error of a name or a pattern as one of elaboration.
use Rattle.std.specs.Prelude.{ℕ}
use Rattle.ct_names.specs.declared.error.CheckError.{CheckError}
use Rattle.ct_names.specs.declared.error.CheckError.TheVariants.{Refused, NoMemory}
use Rattle.ct_names.specs.declared.stop.Stop.{Stop}
use Rattle.ct_names.specs.declared.stop.Stop.TheVariants as stop

abbrev pub stop_of : CheckError → Stop
stop_of (Refused n) = stop.Refused n
stop_of NoMemory = stop.NoMemory

-- why elaboration stopped, as an error, where a sort that is missing has this number
abbrev pub error_of : ℕ → Stop → CheckError
error_of number (stop.Refused n) = Refused n
error_of number stop.Missing = Refused number
error_of number stop.NoMemory = NoMemory
