use Rattle.std.proofs.Common.{rules, arith, ◌≡◌, None, Some, Option, subst}
use Rattle.std.proofs.lemmas.Grind.{common_steps}
use Rattle.ct_sexpr.specs.Unread.{Unread}
use Rattle.ct_run.specs.AuditRun.{AreFiles}
use Rattle.ct_run.proofs.RunLemmas.{judged_read}
use Rattle.ct_run.proofs.audit.audit_model_files.Goals as goal

pub returns-in-Ok-Some-clause-audited : goal.returns-in-Ok-Some-clause-audited
returns-in-Ok-Some-clause-audited g c = λ model_bytes script_bytes first second.
    let both : c.in-Ok-Some.field-0 ≡ Some (c.in-Ok-Some.model, c.in-Ok-Some.script) = first_of (search rules, grind (arith, common_steps)) in
    c.judge_model.ensures.audited model_bytes script_bytes
    (subst (λ (files : Option (Unread × Unread)). AreFiles model_bytes script_bytes files) both (c.in-Ok-Some.ensures.held model_bytes script_bytes first second))

pub returns-in-Ok-Some-clause-some_files : goal.returns-in-Ok-Some-clause-some_files
returns-in-Ok-Some-clause-some_files g c =
    let both : c.in-Ok-Some.field-0 ≡ Some (c.in-Ok-Some.model, c.in-Ok-Some.script) = first_of (search rules, grind (arith, common_steps)) in
    let fed = c.in-Ok-Some.ensures.fed in (
      fed.0,
      fed.1,
      c.judge_model.ensures.audited fed.0 fed.1 (subst (λ (files : Option (Unread × Unread)). AreFiles fed.0 fed.1 files) both fed.2),
    )

pub returns-in-Ok-Some-clause-read : goal.returns-in-Ok-Some-clause-read
returns-in-Ok-Some-clause-read g c =
    let both : c.in-Ok-Some.field-0 ≡ Some (c.in-Ok-Some.model, c.in-Ok-Some.script) = first_of (search rules, grind (arith, common_steps)) in
    judged_read c.judge_model.result.status _ _ _ _ c.judge_model.ensures.whole (rw both at c.in-Ok-Some.ensures.read)

pub returns-in-Ok-None-clause-read : goal.returns-in-Ok-None-clause-read
returns-in-Ok-None-clause-read g c =
    let none : c.in-Ok-None.field-0 ≡ None = first_of (search rules, grind (arith, common_steps)) in
    rw c.unanswered.ensures.status (rw none at c.in-Ok-None.ensures.read)
