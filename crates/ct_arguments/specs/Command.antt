-- The command line as `clap` reads it: four options with one value each, two without, and one positional argument.
use Rattle.std.specs.Prelude.{Some, true, codes}
use Rattle.clap.specs.Words.{App, Rule, new_app, new_rule, with_rule}
use Rattle.clap.specs.Simple.{on_top}
use Rattle.clap.specs.declared.builder.action.ArgAction.TheVariants.{SetTrue}

-- `--audit PROOF`
abbrev pub audit : Rule
audit = record (new_rule (codes "audit")) { long = Some (codes "audit") }

-- `--gen N`
abbrev pub gen : Rule
gen = record (new_rule (codes "gen")) { long = Some (codes "gen") }

-- `--audit-model MODEL`
abbrev pub audit_model : Rule
audit_model = record (new_rule (codes "audit-model")) { long = Some (codes "audit-model") }

-- `--at K`
abbrev pub at : Rule
at = record (new_rule (codes "at")) { long = Some (codes "at") }

-- `--strict` and `--version`
abbrev pub strict : Rule
strict = record (new_rule (codes "strict")) { long = Some (codes "strict"); action = Some SetTrue }

abbrev pub version : Rule
version = record (new_rule (codes "version")) { long = Some (codes "version"); action = Some SetTrue }

-- `FILE`, which may be left out
abbrev pub file : Rule
file = new_rule (codes "file")

-- the arguments come without the program's own name
abbrev pub bare : App
bare = on_top (λ s. record s { no_binary_name = true }) (new_app (codes "cosmt"))

-- the command; no argument has a rule on another
unfoldable pub cosmt : App
cosmt = with_rule (with_rule (with_rule (with_rule (with_rule (with_rule (with_rule bare audit) gen) audit_model) at) strict) version) file
