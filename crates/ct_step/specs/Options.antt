-- The options of a session (SMT-LIB 2.7, section 4.1.7): what they are at the start, how they are set, and how they are written.
use Rattle.std.specs.Prelude.{ℕ, Bool, true, false, ◌==◌, nat_lt, List, codes, if◌then◌else◌}
use Rattle.std.specs.Fmt.{decimal}
use Rattle.ct_command.specs.declared.option.BooleanOption.{BooleanOption}
use Rattle.ct_command.specs.declared.option.BooleanOption.TheVariants.{PrintSuccess, GlobalDeclarations, ProduceModels, ProduceProofs, ProduceAssertions, ProduceAssignments, ProduceUnsatCores, ProduceUnsatAssumptions, MinimalUnsatCores}
use Rattle.ct_command.specs.declared.option.NumeralOption.{NumeralOption}
use Rattle.ct_command.specs.declared.option.NumeralOption.TheVariants.{ResourceLimit, Verbosity, RandomSeed}
use Rattle.ct_command.specs.declared.option.ErrorBehavior.{ErrorBehavior}
use Rattle.ct_command.specs.declared.option.ErrorBehavior.TheVariants.{ContinuedExecution, ImmediateExit}
use Rattle.ct_command.specs.declared.option.Channel.{Channel}
use Rattle.ct_command.specs.declared.option.Channel.TheVariants.{Diagnostic, Regular}
use Rattle.ct_command.specs.declared.option.OptionName.{OptionName}
use Rattle.ct_command.specs.declared.option.OptionName.TheVariants as name
use Rattle.ct_command.specs.declared.option.Setting.{Setting}
use Rattle.ct_command.specs.declared.option.Setting.TheVariants as setting
use Rattle.ct_step.specs.declared.options.Options.{Options}

-- the options at the start, where this follows an error
abbrev pub first_options : ErrorBehavior → Options
first_options behavior =
    record {
      print_success = false;
      global_declarations = false;
      produce_models = true;
      produce_proofs = true;
      produce_assertions = true;
      produce_assignments = true;
      produce_unsat_cores = true;
      produce_unsat_assumptions = true;
      minimal_unsat_cores = false;
      limit = 100000;
      verbosity = 0;
      random_seed = 0;
      error_behavior = behavior;
      first_error_behavior = behavior;
    }

-- with this value of a Boolean option
abbrev pub with_boolean : Options → BooleanOption → Bool → Options
with_boolean o PrintSuccess b = record o { print_success = b }
with_boolean o GlobalDeclarations b = record o { global_declarations = b }
with_boolean o ProduceModels b = record o { produce_models = b }
with_boolean o ProduceProofs b = record o { produce_proofs = b }
with_boolean o ProduceAssertions b = record o { produce_assertions = b }
with_boolean o ProduceAssignments b = record o { produce_assignments = b }
with_boolean o ProduceUnsatCores b = record o { produce_unsat_cores = b }
with_boolean o ProduceUnsatAssumptions b = record o { produce_unsat_assumptions = b }
with_boolean o MinimalUnsatCores b = record o { minimal_unsat_cores = b }

-- with this value of a numeral option
abbrev pub with_numeral : Options → NumeralOption → ℕ → Options
with_numeral o ResourceLimit n = record o { limit = n }
with_numeral o Verbosity n = record o { verbosity = n }
with_numeral o RandomSeed n = record o { random_seed = n }

-- with one option set
abbrev pub with_setting : Options → Setting → Options
with_setting o (setting.Boolean option b) = with_boolean o option b
with_setting o (setting.Numeral option n) = with_numeral o option n
with_setting o (setting.ErrorBehavior behavior) = record o { error_behavior = behavior }

-- the option is the one that says to which level declarations belong
abbrev pub is_global_option : BooleanOption → Bool
is_global_option GlobalDeclarations = true
is_global_option option = false

-- the setting is of that option
abbrev pub sets_global : Setting → Bool
sets_global (setting.Boolean option b) = is_global_option option
sets_global (setting.Numeral option n) = false
sets_global (setting.ErrorBehavior behavior) = false

-- the value of an option
abbrev pub boolean_of : Options → BooleanOption → Bool
boolean_of o PrintSuccess = o.print_success
boolean_of o GlobalDeclarations = o.global_declarations
boolean_of o ProduceModels = o.produce_models
boolean_of o ProduceProofs = o.produce_proofs
boolean_of o ProduceAssertions = o.produce_assertions
boolean_of o ProduceAssignments = o.produce_assignments
boolean_of o ProduceUnsatCores = o.produce_unsat_cores
boolean_of o ProduceUnsatAssumptions = o.produce_unsat_assumptions
boolean_of o MinimalUnsatCores = o.minimal_unsat_cores

abbrev pub numeral_of : Options → NumeralOption → ℕ
numeral_of o ResourceLimit = o.limit
numeral_of o Verbosity = o.verbosity
numeral_of o RandomSeed = o.random_seed

-- the script ends with an error
abbrev pub ends_at_error : ErrorBehavior → Bool
ends_at_error ContinuedExecution = false
ends_at_error ImmediateExit = true

-- the value as it is written: `true`, `false`, or the numeral
abbrev pub truth_text : Bool → List ℕ
truth_text b = if b then codes "true" else codes "false"

-- or the words of what follows an error
abbrev pub behavior_text : ErrorBehavior → List ℕ
behavior_text ContinuedExecution = codes "continued-execution"
behavior_text ImmediateExit = codes "immediate-exit"

-- the diagnostic channel at the start, as it is written
abbrev pub standard_error : List ℕ
standard_error = codes "\"stderr\""

-- a channel, as it is written, where the diagnostic one is this
abbrev pub channel_text : List ℕ → Channel → List ℕ
channel_text diagnostic Diagnostic = diagnostic
channel_text diagnostic Regular = codes "\"stdout\""

abbrev pub value_text : Options → List ℕ → OptionName → List ℕ
value_text o diagnostic (name.Boolean option) = truth_text (boolean_of o option)
value_text o diagnostic (name.Numeral option) = decimal (numeral_of o option)
value_text o diagnostic name.ErrorBehavior = behavior_text o.error_behavior
value_text o diagnostic (name.Channel channel) = channel_text diagnostic channel

-- the most decisions of a check
abbrev pub most_decisions : ℕ
most_decisions = 18446744073709551615

abbrev pub least : ℕ → ℕ → ℕ
least m n = if nat_lt m n then m else n

-- the decisions that a check may take; a limit of 0 is none
abbrev pub budget : Options → ℕ
budget options = if options.limit == 0 then most_decisions else least options.limit most_decisions
