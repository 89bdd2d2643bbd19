use Rattle.std.proofs.Common.{◌≡◌, ◌∙◌, option_map, codes, ap}
use Rattle.clap.specs.Words.{first_of, found_of, rows_of}
use Rattle.clap.proofs.WalkLemmas.{first_value-rows}
use Rattle.ct_arguments.specs.Arguments.{asked_with, is_met}
use Rattle.ct_arguments.proofs.task.meaning.Goals as goal

pub returns : goal.returns
returns c =
    let found = found_of c.args.matches.now in
    let version_is : option_map (λ s. s.now) c.get_str.result ≡ first_of (codes "version") (rows_of found) = c.get_str.ensures ∙ first_value-rows found (codes "version") in
    let strict_is : option_map (λ s. s.now) c.get_str-2.result ≡ first_of (codes "strict") (rows_of found) = c.get_str-2.ensures ∙ first_value-rows found (codes "strict") in
    let version_met = c.is_met.ensures.met ∙ ap is_met version_is in
    let strict_met = c.is_met-2.ensures.met ∙ ap is_met strict_is in
    let gen_is : option_map (λ s. s.now) c.get_str-3.result ≡ first_of (codes "gen") (rows_of found) = c.get_str-3.ensures ∙ first_value-rows found (codes "gen") in
    let audit_is : option_map (λ s. s.now) c.get_str-4.result ≡ first_of (codes "audit") (rows_of found) =
    c.get_str-4.ensures ∙ first_value-rows found (codes "audit") in
    let model_is : option_map (λ s. s.now) c.get_str-5.result ≡ first_of (codes "audit-model") (rows_of found) =
    c.get_str-5.ensures ∙ first_value-rows found (codes "audit-model") in
    let at_is : option_map (λ s. s.now) c.get_str-6.result ≡ first_of (codes "at") (rows_of found) = c.get_str-6.ensures ∙ first_value-rows found (codes "at") in
    let file_is : option_map (λ s. s.now) c.get_str-7.result ≡ first_of (codes "file") (rows_of found) = c.get_str-7.ensures ∙ first_value-rows found (codes "file") in
    record { task = c.asked_with.ensures.task ∙ (λ i. asked_with (version_met i) (strict_met i) (gen_is i) (audit_is i) (model_is i) (at_is i) (file_is i)) }
