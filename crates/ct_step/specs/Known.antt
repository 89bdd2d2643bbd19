-- What is known of the values of terms in the model that stands.
use Rattle.std.specs.Prelude.{◌≡◌, Bool, true, false, Option, Some, IfSome}
use Rattle.ct_eval.specs.declared.interp.Interp.{Interp}
use Rattle.ct_command.specs.Command.{Command, get_option, get_info, get_model, get_value, get_proof, get_unsat_core, get_unsat_assumptions, echo}
use Rattle.ct_stack.specs.declared.model_values.ModelValues.{ModelValues}
use Rattle.ct_stack.specs.ModelValues.{AreModelValues}
use Rattle.ct_step.specs.State.{State, declared, model_kept}

-- where a model stands, the values are those in it
abbrev pub AreKnown : State → Option ModelValues → Type 0
AreKnown s values = (i : Interp) → model_kept s.kept ≡ Some i → IfSome values (AreModelValues (declared s) i)

-- the command asks, and changes nothing
abbrev pub only_asks : Command → Bool
only_asks (get_option option) = true
only_asks (get_info info) = true
only_asks get_model = true
only_asks (get_value ts) = true
only_asks get_proof = true
only_asks get_unsat_core = true
only_asks get_unsat_assumptions = true
only_asks (echo e) = true
only_asks command = false
