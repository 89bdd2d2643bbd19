-- The forms of the commands that set and ask for options and infos (SMT-LIB 2.7, sections 4.1.7 and 4.1.8): what expressions
-- after the word of a command say.
use Rattle.std.specs.Prelude.{ℕ, Bool, true, false, List, [], ◌∷◌, Option, Some, None, option_map, option_and_then, codes, if◌then◌else◌}
use Rattle.std.specs.Str.{bytes_eq}
use Rattle.ct_sexpr.specs.Expression.{Expression}
use Rattle.ct_command.specs.declared.option.BooleanOption.TheVariants.{PrintSuccess, GlobalDeclarations, ProduceModels, ProduceProofs, ProduceAssertions, ProduceAssignments, ProduceUnsatCores, ProduceUnsatAssumptions, MinimalUnsatCores}
use Rattle.ct_command.specs.declared.option.NumeralOption.TheVariants.{ResourceLimit, Verbosity, RandomSeed}
use Rattle.ct_command.specs.declared.option.ErrorBehavior.{ErrorBehavior}
use Rattle.ct_command.specs.declared.option.ErrorBehavior.TheVariants.{ContinuedExecution, ImmediateExit}
use Rattle.ct_command.specs.declared.option.Channel.{Channel}
use Rattle.ct_command.specs.declared.option.Channel.TheVariants.{Diagnostic, Regular}
use Rattle.ct_command.specs.declared.option.OptionName.{OptionName}
use Rattle.ct_command.specs.declared.option.OptionName.TheVariants as option
use Rattle.ct_command.specs.declared.option.Setting.TheVariants as setting
use Rattle.ct_command.specs.declared.option.Info.{Info}
use Rattle.ct_command.specs.declared.option.Info.TheVariants as info
use Rattle.ct_command.specs.Command.{Command, set_logic, set_option, set_diagnostic_output, get_option, set_info, get_info, unsupported}
use Rattle.ct_command.specs.Items.{name_of, numeral_of, keyword_of, text_of}
use Rattle.ct_command.specs.Tables.{beside}

-- the options that clients set whatever the solver, by their keywords
abbrev pub client_options : List (List ℕ × OptionName)
client_options =
    (codes ":diagnostic-output-channel", option.Channel Diagnostic) ∷ ((codes ":regular-output-channel", option.Channel Regular) ∷ ((codes ":random-seed", option.Numeral RandomSeed) ∷ ((codes ":error-behavior", option.ErrorBehavior) ∷ [])))

-- the options by their keywords
abbrev pub options : List (List ℕ × OptionName)
options =
    (codes ":print-success", option.Boolean PrintSuccess) ∷ ((codes ":global-declarations", option.Boolean GlobalDeclarations) ∷ ((codes ":reproducible-resource-limit", option.Numeral ResourceLimit) ∷ ((codes ":produce-models", option.Boolean ProduceModels) ∷ ((codes ":produce-proofs", option.Boolean ProduceProofs) ∷ ((codes ":produce-assertions", option.Boolean ProduceAssertions) ∷ ((codes ":produce-assignments", option.Boolean ProduceAssignments) ∷ ((codes ":produce-unsat-cores", option.Boolean ProduceUnsatCores) ∷ ((codes ":produce-unsat-assumptions", option.Boolean ProduceUnsatAssumptions) ∷ ((codes ":verbosity", option.Numeral Verbosity) ∷ ((codes ":minimal-unsat-cores", option.Boolean MinimalUnsatCores) ∷ client_options))))))))))

-- the infos by their keywords
abbrev pub infos : List (List ℕ × Info)
infos = (codes ":name", info.Name) ∷ ((codes ":version", info.Version) ∷ ((codes ":authors", info.Authors) ∷ ((codes ":error-behavior", info.ErrorBehavior) ∷ ((codes ":assertion-stack-levels", info.AssertionStackLevels) ∷ ((codes ":reason-unknown", info.ReasonUnknown) ∷ [])))))

-- the Boolean values by their names
abbrev pub truths : List (List ℕ × Bool)
truths = (codes "true", true) ∷ ((codes "false", false) ∷ [])

-- the Boolean value that the expression is, as a name, which may be quoted
abbrev pub truth_of : Expression → Option Bool
truth_of e = option_and_then (beside truths) (name_of e)

-- what follows an error, by its words
abbrev pub behaviors : List (List ℕ × ErrorBehavior)
behaviors = (codes "continued-execution", ContinuedExecution) ∷ ((codes "immediate-exit", ImmediateExit) ∷ [])

-- what the expression says of errors, as a name, which may be quoted
abbrev pub behavior_of : Expression → Option ErrorBehavior
behavior_of e = option_and_then (beside behaviors) (name_of e)

-- A channel that is set to a string literal, which says this. The regular one has one value, so that nothing is changed.
abbrev pub channel_set : Channel → Expression → List ℕ → Command
channel_set Diagnostic v content = set_diagnostic_output v
channel_set Regular v content = if bytes_eq (codes "stdout") content then set_info else unsupported

-- an option that is set to this value, where the value is of its kind
abbrev pub set_to : OptionName → Expression → Option Command
set_to (option.Boolean o) v = option_map (λ b. set_option (setting.Boolean o b)) (truth_of v)
set_to (option.Numeral o) v = option_map (λ n. set_option (setting.Numeral o n)) (numeral_of v)
set_to option.ErrorBehavior v = option_map (λ b. set_option (setting.ErrorBehavior b)) (behavior_of v)
set_to (option.Channel c) v = option_map (channel_set c v) (text_of v)

-- a logic by its name
abbrev pub logic_set : List Expression → Option Command
logic_set (l ∷ []) = option_map set_logic (name_of l)
logic_set es = None

-- the value of what may be no option
abbrev pub value_set : Option OptionName → Expression → Option Command
value_set None v = Some unsupported
value_set (Some o) v = set_to o v

-- `K v`
abbrev pub option_set : List Expression → Option Command
option_set (k ∷ (v ∷ [])) = option_and_then (λ keyword. value_set (beside options keyword) v) (keyword_of k)
option_set es = None

-- what is asked by a keyword that may be unknown
abbrev pub asked : {X : Type 0} → (X → Command) → Option X → Command
asked question None = unsupported
asked question (Some x) = question x

-- `K`, an option
abbrev pub option_asked : List Expression → Option Command
option_asked (k ∷ []) = option_map (λ keyword. asked get_option (beside options keyword)) (keyword_of k)
option_asked es = None

-- `K` or `K v`
abbrev pub info_set : List Expression → Option Command
info_set (k ∷ []) = option_map (λ keyword. set_info) (keyword_of k)
info_set (k ∷ (v ∷ [])) = option_map (λ keyword. set_info) (keyword_of k)
info_set es = None

-- `K`, an info
abbrev pub info_asked : List Expression → Option Command
info_asked (k ∷ []) = option_map (λ keyword. asked get_info (beside infos keyword)) (keyword_of k)
info_asked es = None
