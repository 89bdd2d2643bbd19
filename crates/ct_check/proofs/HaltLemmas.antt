-- Out of memory says nothing of what a step comes to.
use Rattle.std.proofs.Common.{◌≡◌, Err, ap}
use Rattle.ct_sorts.specs.Declarations.{Declarations}
use Rattle.ct_names.specs.declared.error.CheckError.{CheckError}
use Rattle.ct_names.specs.declared.error.CheckError.TheVariants as error
use Rattle.ct_names.specs.declared.needs.Needs.{Needs}
use Rattle.ct_names.specs.declared.stop.Stop.{Stop}
use Rattle.ct_names.specs.declared.stop.Stop.TheVariants as stop
use Rattle.ct_names.specs.Answer.{ContinuesTo}
use Rattle.ct_names.specs.Outcome.{Elaborated}
use Rattle.ct_names.specs.Stopped.{stop_of}

pub continues_memory : {X Y : Type 0} (needs : Needs) (d : Declarations) (outcome : Elaborated Y) (next : X → Elaborated Y) (e : Stop) → e ≡ stop.NoMemory → ContinuesTo needs d outcome next (Err e)
continues_memory needs d outcome next (stop.Refused n) is = absurd cc
continues_memory needs d outcome next stop.Missing is = absurd cc
continues_memory needs d outcome next stop.NoMemory is = tt

-- out of memory of a name is that of elaboration
pub stop_memory : (e : CheckError) → e ≡ error.NoMemory → stop_of e ≡ stop.NoMemory
stop_memory e is = ap stop_of is
