-- What the arguments of the command line ask for.
use Rattle.std.specs.Prelude.{ℕ, ◌≤◌, Bool, true, false, List, [], Option, Some, None, ◌&&◌, nat_le, if◌then◌else◌, codes}
use Rattle.std.specs.List.{list_any}
use Rattle.std.specs.Option.{option_map_or}
use Rattle.std.specs.Str.Parse.{digits_value}
use Rattle.std.specs.Str.{all_ascii_digits, bytes_eq}
use Rattle.clap.specs.Words.{Row, fault_of, first_of, matches_of, takes}
use Rattle.clap.specs.declared.error.kind.ErrorKind.{ErrorKind}
use Rattle.clap.specs.declared.error.kind.ErrorKind.TheVariants.{DisplayHelp}
use Rattle.ct_arguments.specs.Command.{cosmt}

-- a task: to answer the script of this name, strictly or not, to check the derivation of the first name against the script of the second, to
-- evaluate the model of the first name at the check with this number of the script of the second, to answer the generated script of
-- so many blocks, to tell how the program is called, or its version; or the arguments have none of the forms
pub data Asked : Type 0 where
  solves : Bool → List ℕ → Asked
  audits : List ℕ → List ℕ → Asked
  audits_model : List ℕ → ℕ → List ℕ → Asked
  generates : ℕ → Asked
  helps : Asked
  versions : Asked
  faulty : Asked

-- the number of blocks that the text writes: decimal digits alone, from 1 to 2,000; leading zeros are accepted
abbrev pub block_count : List ℕ → Option ℕ
block_count text =
    let n = digits_value 10 text in
    if all_ascii_digits text && (nat_le 1 n && nat_le n 2000) then Some n else None

abbrev pub generation : List ℕ → Asked
generation text = option_map_or generates (block_count text) faulty

-- the number of a check that the text writes: decimal digits alone, from 1 to 2^64 - 1; leading zeros are accepted
abbrev pub check_number : List ℕ → Option ℕ
check_number text =
    let n = digits_value 10 text in
    if all_ascii_digits text && (nat_le 1 n && nat_le n 18446744073709551615) then Some n else None

abbrev pub model_audit : List ℕ → List ℕ → List ℕ → Asked
model_audit model check script = option_map_or (λ n. audits_model model n script) (check_number check) faulty

-- by the values of `--audit-model`, of `--at` and of the file, where neither a derivation nor a generated script is asked for: a model
-- needs its check and its script, and the empty name stands for a script whose name is left out
abbrev pub asked_of_script : Option (List ℕ) → Option (List ℕ) → Option (List ℕ) → Asked
asked_of_script (Some model) (Some check) (Some script) = model_audit model check script
asked_of_script (Some model) (Some check) None = faulty
asked_of_script (Some model) None script = faulty
asked_of_script None (Some check) script = faulty
asked_of_script None None (Some script) = solves false script
asked_of_script None None None = solves false []

-- a derivation needs its script, and stands beside no model
abbrev pub asked_of_proof : List ℕ → Option (List ℕ) → Option (List ℕ) → Option (List ℕ) → Asked
asked_of_proof proof None None (Some script) = audits proof script
asked_of_proof proof None None None = faulty
asked_of_proof proof None (Some check) script = faulty
asked_of_proof proof (Some model) check script = faulty

-- a generated script stands alone
abbrev pub asked_by : Option (List ℕ) → Option (List ℕ) → Option (List ℕ) → Option (List ℕ) → Option (List ℕ) → Asked
asked_by (Some count) None None None None = generation count
asked_by (Some count) None None None (Some script) = faulty
asked_by (Some count) None None (Some check) script = faulty
asked_by (Some count) None (Some model) check script = faulty
asked_by (Some count) (Some proof) model check script = faulty
asked_by None (Some proof) model check script = asked_of_proof proof model check script
asked_by None None model check script = asked_of_script model check script

-- the same beside `--strict`, which stands beside a script alone
abbrev pub strictly : Asked → Asked
strictly (solves strict script) = solves true script
strictly (audits proof script) = faulty
strictly (audits_model model number script) = faulty
strictly (generates count) = faulty
strictly helps = faulty
strictly versions = faulty
strictly faulty = faulty

-- beside `--version`, which stands alone
abbrev pub alone : Option (List ℕ) → Option (List ℕ) → Option (List ℕ) → Option (List ℕ) → Option (List ℕ) → Asked
alone None None None None None = versions
alone count proof model check script = faulty

-- an option without a value was met, by what stands for it
abbrev pub is_met : Option (List ℕ) → Bool
is_met None = false
is_met (Some text) = bytes_eq text (codes "true")

-- beside `--version` and `--strict`, which are met or not
abbrev pub asked_with : Bool → Bool → Option (List ℕ) → Option (List ℕ) → Option (List ℕ) → Option (List ℕ) → Option (List ℕ) → Asked
asked_with true true count proof model check script = faulty
asked_with true false count proof model check script = alone count proof model check script
asked_with false true count proof model check script = strictly (asked_by count proof model check script)
asked_with false false count proof model check script = asked_by count proof model check script

-- what accepted arguments ask for, by their values
abbrev pub asked_for : List Row → Asked
asked_for rows =
    asked_with (is_met (first_of (codes "version") rows)) (is_met (first_of (codes "strict") rows))
    (first_of (codes "gen") rows) (first_of (codes "audit") rows) (first_of (codes "audit-model") rows) (first_of (codes "at") rows) (first_of (codes "file") rows)

-- `--help` or `-h` was met
abbrev pub is_help : ErrorKind → Bool
is_help DisplayHelp = true
is_help _ = false

-- what refused arguments ask for, by the kind of the first fault
abbrev pub refusal : Bool → Asked
refusal help = if help then helps else faulty

-- the task that the arguments ask for
unfoldable pub task_of : List (List ℕ) → Asked
task_of words = if takes cosmt words then asked_for (matches_of cosmt words) else refusal (list_any is_help (fault_of cosmt words))

-- a script that is to be generated has from 1 to 2,000 blocks
abbrev pub IsWithin : Asked → Type 0
IsWithin (generates count) = (1 ≤ count) × (count ≤ 2000)
IsWithin (solves strict name) = Unit {0}
IsWithin (audits proof script) = Unit {0}
IsWithin (audits_model model number script) = Unit {0}
IsWithin helps = Unit {0}
IsWithin versions = Unit {0}
IsWithin faulty = Unit {0}
