-- The task that the arguments ask for is within its limits.
use Rattle.std.specs.Prelude.{◌&&◌, codes, if◌then◌else◌}
use Rattle.std.specs.List.{list_any}
use Rattle.std.specs.Option.{option_map_or}
use Rattle.std.specs.Str.Parse.{digits_value}
use Rattle.std.specs.Str.{all_ascii_digits}
use Rattle.std.proofs.Common.{◌≡◌, ℕ, Bool, true, false, List, Option, None, Some, refl, sym, subst}
use Rattle.std.proofs.Math.Dec.{leb}
use Rattle.std.proofs.lemmas.Bool.{leb-true}
use Rattle.clap.specs.Words.{fault_of, first_of, matches_of, takes}
use Rattle.ct_arguments.specs.Command.{cosmt}
use Rattle.ct_arguments.specs.Arguments.{Asked, IsWithin, solves, audits, audits_model, helps, versions, check_number, faulty, generates, generation, strictly, alone, is_met, asked_with, asked_by, asked_of_proof, asked_of_script, asked_for, is_help, refusal, task_of}

within_where : (b c d : Bool) (n : ℕ) → leb 1 n ≡ c → leb n 2000 ≡ d → IsWithin (option_map_or generates (if b && (c && d) then Some n else None) faulty)
within_where true true true n some few = (leb-true 1 n some, leb-true n 2000 few)
within_where true true false n some few = tt
within_where true false d n some few = tt
within_where false c d n some few = tt

generation_within : (text : List ℕ) → IsWithin (generation text)
generation_within text = within_where (all_ascii_digits text) (leb 1 (digits_value 10 text)) (leb (digits_value 10 text) 2000) (digits_value 10 text) refl refl

model_within : (number : Option ℕ) (model script : List ℕ) → IsWithin (option_map_or (λ n. audits_model model n script) number faulty)
model_within (Some n) model script = tt
model_within None model script = tt

script_within : (model check script : Option (List ℕ)) → IsWithin (asked_of_script model check script)
script_within (Some model) (Some check) (Some script) = model_within (check_number check) model script
script_within (Some model) (Some check) None = tt
script_within (Some model) None script = tt
script_within None (Some check) script = tt
script_within None None (Some script) = tt
script_within None None None = tt

proof_within : (proof : List ℕ) (model check script : Option (List ℕ)) → IsWithin (asked_of_proof proof model check script)
proof_within proof None None (Some script) = tt
proof_within proof None None None = tt
proof_within proof None (Some check) script = tt
proof_within proof (Some model) check script = tt

asked_within : (count proof model check script : Option (List ℕ)) → IsWithin (asked_by count proof model check script)
asked_within (Some count) None None None None = generation_within count
asked_within (Some count) None None None (Some script) = tt
asked_within (Some count) None None (Some check) script = tt
asked_within (Some count) None (Some model) check script = tt
asked_within (Some count) (Some proof) model check script = tt
asked_within None (Some proof) model check script = proof_within proof model check script
asked_within None None model check script = script_within model check script

strictly_within : (asked : Asked) → IsWithin asked → IsWithin (strictly asked)
strictly_within (solves strict script) within = tt
strictly_within (audits proof script) within = tt
strictly_within (audits_model model number script) within = tt
strictly_within (generates count) within = tt
strictly_within helps within = tt
strictly_within versions within = tt
strictly_within faulty within = tt

alone_within : (count proof model check script : Option (List ℕ)) → IsWithin (alone count proof model check script)
alone_within None None None None None = tt
alone_within None None None None (Some script) = tt
alone_within None None None (Some check) script = tt
alone_within None None (Some model) check script = tt
alone_within None (Some proof) model check script = tt
alone_within (Some count) proof model check script = tt

with_within : (version strict : Bool) (count proof model check script : Option (List ℕ)) → IsWithin (asked_with version strict count proof model check script)
with_within true true count proof model check script = tt
with_within true false count proof model check script = alone_within count proof model check script
with_within false true count proof model check script = strictly_within (asked_by count proof model check script) (asked_within count proof model check script)
with_within false false count proof model check script = asked_within count proof model check script

refusal_within : (help : Bool) → IsWithin (refusal help)
refusal_within true = tt
refusal_within false = tt

taken_within : (b : Bool) (asked other : Asked) → IsWithin asked → IsWithin other → IsWithin (if b then asked else other)
taken_within true asked other first second = first
taken_within false asked other first second = second

task_within : (words : List (List ℕ)) → IsWithin (task_of words)
unfolding task_of
task_within words = taken_within (takes cosmt words) (asked_for (matches_of cosmt words)) (refusal (list_any is_help (fault_of cosmt words)))
    (with_within (is_met (first_of (codes "version") (matches_of cosmt words))) (is_met (first_of (codes "strict") (matches_of cosmt words)))
    (first_of (codes "gen") (matches_of cosmt words)) (first_of (codes "audit") (matches_of cosmt words)) (first_of (codes "audit-model") (matches_of cosmt words))
    (first_of (codes "at") (matches_of cosmt words)) (first_of (codes "file") (matches_of cosmt words)))
    (refusal_within (list_any is_help (fault_of cosmt words)))

pub within_of : (asked : Asked) (words : List (List ℕ)) → asked ≡ task_of words → IsWithin asked
within_of asked words is = subst IsWithin (sym is) (task_within words)
