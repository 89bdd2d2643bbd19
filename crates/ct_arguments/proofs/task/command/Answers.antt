use Rattle.std.proofs.Common.{◌≡◌, ◌∙◌, ap, ap₂}
use Rattle.std.specs.Prelude.{Some, true, codes}
use Rattle.std.proofs.lemmas.Result.{IfOk-weaker}
use Rattle.clap.specs.Words.{Rule, app_of, rule_of, with_rule}
use Rattle.clap.specs.Simple.{app_of_fields, on_top}
use Rattle.ct_arguments.specs.Command.{at, audit, audit_model, bare, cosmt, file, gen, strict, version}
use Rattle.clap.specs.declared.builder.action.ArgAction.TheVariants.{SetTrue}
use Rattle.ct_arguments.proofs.task.command.Goals as goal

pub returns : goal.returns
unfolding cosmt
returns c =
    let audit_is : rule_of c.long-audit.result ≡ audit = ap rule_of c.long-audit.ensures ∙ ap {A = Rule} (λ r. record r { long = Some (codes "audit") }) c.new.ensures.rule in
    let gen_is : rule_of c.long-count.result ≡ gen = ap rule_of c.long-count.ensures ∙ ap {A = Rule} (λ r. record r { long = Some (codes "gen") }) c.new-2.ensures.rule in
    let model_is : rule_of c.long-model.result ≡ audit_model = ap rule_of c.long-model.ensures ∙ ap {A = Rule} (λ r. record r { long = Some (codes "audit-model") }) c.new-3.ensures.rule in
    let at_is : rule_of c.long-check.result ≡ at = ap rule_of c.long-check.ensures ∙ ap {A = Rule} (λ r. record r { long = Some (codes "at") }) c.new-4.ensures.rule in
    let strict_is : rule_of c.action-strict.result ≡ strict = ap rule_of c.action-strict.ensures ∙ ap {A = Rule} (λ r. record r { action = Some SetTrue }) (ap rule_of c.long.ensures ∙ ap {A = Rule} (λ r. record r { long = Some (codes "strict") }) c.new-5.ensures.rule) in
    let version_is : rule_of c.action-version.result ≡ version = ap rule_of c.action-version.ensures ∙ ap {A = Rule} (λ r. record r { action = Some SetTrue }) (ap rule_of c.long-2.ensures ∙ ap {A = Rule} (λ r. record r { long = Some (codes "version") }) c.new-6.ensures.rule) in
    let bare_is : app_of c.no_binary_name.result ≡ bare = ap app_of_fields c.no_binary_name.ensures ∙ ap (on_top (λ s. record s { no_binary_name = true })) c.new-7.ensures.app in
    let first : app_of c.in_ok-arg.field-0 ≡ with_rule bare audit = c.in_ok-arg.ensures.shape (ap (λ a. a.global) c.long-audit.ensures ∙ c.new.ensures.optional.1) ∙ ap₂ with_rule bare_is audit_is in
    let second : app_of c.in_ok-arg-2.field-0 ≡ with_rule (with_rule bare audit) gen = c.in_ok-arg-2.ensures.shape (ap (λ a. a.global) c.long-count.ensures ∙ c.new-2.ensures.optional.1) ∙ ap₂ with_rule first gen_is in
    let third : app_of c.in_ok-arg-3.field-0 ≡ with_rule (with_rule (with_rule bare audit) gen) audit_model = c.in_ok-arg-3.ensures.shape (ap (λ a. a.global) c.long-model.ensures ∙ c.new-3.ensures.optional.1) ∙ ap₂ with_rule second model_is in
    let fourth : app_of c.in_ok-arg-4.field-0 ≡ with_rule (with_rule (with_rule (with_rule bare audit) gen) audit_model) at = c.in_ok-arg-4.ensures.shape (ap (λ a. a.global) c.long-check.ensures ∙ c.new-4.ensures.optional.1) ∙ ap₂ with_rule third at_is in
    let fifth : app_of c.in_ok-arg-5.field-0 ≡ with_rule (with_rule (with_rule (with_rule (with_rule bare audit) gen) audit_model) at) strict = c.in_ok-arg-5.ensures.shape (ap (λ a. a.global) c.action-strict.ensures ∙ ap (λ a. a.global) c.long.ensures ∙ c.new-5.ensures.optional.1) ∙ ap₂ with_rule fourth strict_is in
    let sixth : app_of c.in_ok-arg-6.field-0 ≡ with_rule (with_rule (with_rule (with_rule (with_rule (with_rule bare audit) gen) audit_model) at) strict) version = c.in_ok-arg-6.ensures.shape (ap (λ a. a.global) c.action-version.ensures ∙ ap (λ a. a.global) c.long-2.ensures ∙ c.new-6.ensures.optional.1) ∙ ap₂ with_rule fifth version_is in
    record { app = IfOk-weaker c.arg-7.result _ _ (λ r h. h.shape c.new-file.ensures.optional.1 ∙ ap₂ with_rule sixth c.new-file.ensures.rule) c.arg-7.ensures }
