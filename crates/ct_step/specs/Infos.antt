-- What the solver says of itself (SMT-LIB 2.7, section 4.1.8).
use Rattle.std.specs.Prelude.{ℕ, List, ◌++◌, length, codes, if◌then◌else◌}
use Rattle.std.specs.Fmt.{decimal}
use Rattle.ct_command.specs.declared.option.Info.{Info}
use Rattle.ct_command.specs.declared.option.Info.TheVariants as info
use Rattle.ct_step.specs.Options.{behavior_text}
use Rattle.ct_step.specs.State.{State, undecided_kept}

-- the answer to what the solver does not do or does not know
abbrev pub unsupported_text : List ℕ
unsupported_text = codes "unsupported"

-- how many levels stand
abbrev pub levels_text : ℕ → List ℕ
levels_text n = codes "(:assertion-stack-levels " ++ (decimal n ++ codes ")")

abbrev pub info_text : State → Info → List ℕ
info_text s info.Name = codes "(:name \"cosmt\")"
info_text s info.Version = codes "(:version \"1.0\")"
info_text s info.Authors = codes "(:authors \"cosmt\")"
info_text s info.ErrorBehavior = codes "(:error-behavior " ++ (behavior_text s.options.error_behavior ++ codes ")")
info_text s info.AssertionStackLevels = levels_text (length s.stack.below)
info_text s info.ReasonUnknown = if undecided_kept s.kept then codes "(:reason-unknown incomplete)" else unsupported_text
