-- What each task reports, by its status.
use Rattle.std.specs.Prelude.{option_to_list}
use Rattle.std.proofs.Common.{◌≡◌, ◌≢◌, ℕ, ◌<◌, length, Bool, true, false, ◌&&◌, inl, inr, List, [], Option, None, refl, ap, sym, ◌∙◌, subst, arith}
use Rattle.ct_io.specs.Bytes.{GrewByPart}
use Rattle.ct_io.specs.declared.sink.SinkError.{SinkError}
use Rattle.ct_io.specs.declared.sink.SinkError.TheVariants as sink
use Rattle.ct_io.specs.declared.status.Status.{Status}
use Rattle.ct_io.specs.declared.status.Status.TheVariants as status
use Rattle.ct_input.specs.Slot.{IsTaken}
use Rattle.ct_step.specs.Evidence.{Evidence, no_evidence}
use Rattle.ct_audit.specs.declared.answer.AuditAnswer.{AuditAnswer}
use Rattle.ct_audit.specs.Answer.{audit_error}
use Rattle.ct_audit.specs.Audit.{Audits}
use Rattle.ct_model_audit.specs.ModelAudit.{AuditsModel}
use Rattle.ct_arguments.specs.Arguments.{Asked, solves, audits, audits_model, generates, helps, versions, faulty}
use Rattle.ct_run.specs.Output.{usage_line, version_line}
use Rattle.ct_run.specs.Refusal.{status_of_error}
use Rattle.ct_run.specs.Run.{Solves, DoesNothing, ReportsUsage, Tells, behavior_of}
use Rattle.ct_run.specs.AuditRun.{Judgement, ReportsJudged, AreRead, Reads}
use Rattle.ct_run.specs.Generated.{ReportsCounts}
use Rattle.ct_run.specs.Tasks.{Does, DoesOfSome, IsAudit, IsOfScript}
use Rattle.ct_run.proofs.WritingLemmas.{appended-nothing}

-- the sink failed while the line of usage was written
pub ReportsUsage-broke : (e : SinkError) (vs : Evidence) (es : List (ℕ × ℕ)) (old new : Option (List ℕ)) → vs ≡ no_evidence → es ≡ [] → GrewByPart usage_line old new → ReportsUsage (status_of_error e) vs es old new
ReportsUsage-broke sink.Fault vs es old new no_verdicts no_errors grew = (no_verdicts, no_errors, grew)
ReportsUsage-broke sink.NoMemory vs es old new no_verdicts no_errors grew = (no_verdicts, no_errors, grew)

pub Tells-broke : (line : List ℕ) (e : SinkError) (vs : Evidence) (es : List (ℕ × ℕ)) (old new : Option (List ℕ)) → vs ≡ no_evidence → es ≡ [] → GrewByPart line old new → Tells line (status_of_error e) vs es old new
Tells-broke line sink.Fault vs es old new no_verdicts no_errors grew = (no_verdicts, no_errors, grew)
Tells-broke line sink.NoMemory vs es old new no_verdicts no_errors grew = (no_verdicts, no_errors, grew)

-- nothing of the line was written
no_part : (line : List ℕ) → 0 < length line → (old new : Option (List ℕ)) → new ≡ old → GrewByPart line old new
no_part line some old new same = record { count = 0; short = some; grown = same ∙ sym (appended-nothing old) }

-- memory ran out before anything was done
pub does_nothing : (held : List ℕ → Option (List ℕ)) (asked : Asked) (before after : Option (List ℕ)) (vs : Evidence) (es : List (ℕ × ℕ)) (old new : Option (List ℕ)) → DoesNothing vs es old new → Does held asked before after status.NoMemory vs es old new
does_nothing held (solves strict name) before after vs es old new nothing = λ bytes is. (0, tt, inr nothing)
does_nothing held (audits proof script) before after vs es old new nothing = λ proof_bytes script_bytes first second. inr (tt, nothing)
does_nothing held (audits_model model number script) before after vs es old new nothing = λ model_bytes script_bytes first second. inr (tt, nothing)
does_nothing held (generates count) before after vs es old new nothing = (
  record { no_verdict = ap (λ (e : Evidence). e.last) nothing.0; no_core = ap (λ (e : Evidence). e.shrunk) nothing.0; no_error = nothing.1 },
  inr (record { solved = record { last = None; shrunk = None; errors = []; lines = []; answers = inr (ap (λ (e : Evidence). e.responses) nothing.0) }; unwritten = nothing.2 }),
)
does_nothing held versions before after vs es old new nothing = (nothing.0, nothing.1, no_part version_line (omega arith) old new nothing.2)
does_nothing held helps before after vs es old new nothing = (nothing.0, nothing.1, no_part usage_line (omega arith) old new nothing.2)
does_nothing held faulty before after vs es old new nothing = (nothing.0, nothing.1, no_part usage_line (omega arith) old new nothing.2)

pub does_nothing_of_some : (asked : Asked) (vs : Evidence) (es : List (ℕ × ℕ)) (old new : Option (List ℕ)) → DoesNothing vs es old new → DoesOfSome asked status.NoMemory vs es old new
does_nothing_of_some (solves strict name) vs es old new nothing = ([], 0, inr nothing)
does_nothing_of_some (audits proof script) vs es old new nothing = ([], [], inr (tt, nothing))
does_nothing_of_some (audits_model model number script) vs es old new nothing = ([], [], inr (tt, nothing))
does_nothing_of_some (generates count) vs es old new nothing = tt
does_nothing_of_some versions vs es old new nothing = tt
does_nothing_of_some helps vs es old new nothing = tt
does_nothing_of_some faulty vs es old new nothing = tt

-- where something was judged both files were read whole, whatever the status
pub judged_read : (s : Status) (held_proof left_proof held_script left_script : Option (List ℕ)) → s ≢ status.TooLong → AreRead true held_proof left_proof held_script left_script → Reads s held_proof left_proof held_script left_script
judged_read status.Done held_proof left_proof held_script left_script other read = read
judged_read status.Refused held_proof left_proof held_script left_script other read = read
judged_read status.Usage held_proof left_proof held_script left_script other read = read
judged_read status.InputFault held_proof left_proof held_script left_script other read = tt
judged_read status.OutputFault held_proof left_proof held_script left_script other read = read
judged_read status.NoMemory held_proof left_proof held_script left_script other read = tt
judged_read status.Rejected held_proof left_proof held_script left_script other read = read
judged_read status.TooLong held_proof left_proof held_script left_script other read = absurd (other cc)

-- both readers are there where both files were read whole
pub both_read : (first second both : Bool) (held_proof left_proof held_script left_script : Option (List ℕ)) → both ≡ (first && second) → IsTaken held_proof first left_proof → IsTaken held_script second left_script → AreRead both held_proof left_proof held_script left_script
both_read first second both held_proof left_proof held_script left_script is proof script = (first, second, sym is, record { proof = proof; script = script })

-- when each status comes
pub record Comes (asked : Asked) (s : Status) (es : List (ℕ × ℕ)) : Type 0 where
  pub usage_only : s ≡ status.Usage → asked ≡ faulty
  pub rejected : s ≡ status.Rejected → IsAudit asked
  pub done : s ≡ status.Done → es ≡ []
  pub refused : s ≡ status.Refused → es ≢ []
  pub refused_only : s ≡ status.Refused → IsOfScript asked

solve_comes : (strict : Bool) (name bytes : List ℕ) (taken : ℕ) (s : Status) (vs : Evidence) (es : List (ℕ × ℕ)) (old new : Option (List ℕ)) → Solves (behavior_of strict) bytes taken s vs es old new → Comes (solves strict name) s es
solve_comes strict name bytes taken s vs es old new d =
    let at : (t : Status) → s ≡ t → Solves (behavior_of strict) bytes taken t vs es old new = λ t is. subst (λ (x : Status). Solves (behavior_of strict) bytes taken x vs es old new) is d in
    record {
      usage_only = λ is. absurd (at status.Usage is);
      rejected = λ is. absurd (at status.Rejected is);
      done = λ is. (at status.Done is).1;
      refused = λ is. (at status.Refused is).1;
      refused_only = λ is. (strict, name, refl);
    }

module _ (R : Judgement) (proof script : List ℕ) (vs : Evidence) (es : List (ℕ × ℕ)) (old new : Option (List ℕ)) where
  -- what is verified leaves no error
  no_error : ReportsJudged R proof script status.Done vs es old new → es ≡ []
  no_error (inl judged) =
      judged.reported.1.errors_are ∙ ap (λ (a : AuditAnswer). option_to_list (audit_error a)) judged.reported.0
  no_error (inr prevented) = absurd prevented.0

  not_refused : ReportsJudged R proof script status.Refused vs es old new → ⊥
  not_refused (inl judged) = judged.reported
  not_refused (inr prevented) = prevented.0

  not_usage : ReportsJudged R proof script status.Usage vs es old new → ⊥
  not_usage (inl judged) = judged.reported
  not_usage (inr prevented) = prevented.0

  audit_comes : (asked : Asked) → IsAudit asked → (s : Status) → ReportsJudged R proof script s vs es old new → Comes asked s es
  audit_comes asked is_audit s d =
      let at : (t : Status) → s ≡ t → ReportsJudged R proof script t vs es old new = λ t is. subst (λ (x : Status). ReportsJudged R proof script x vs es old new) is d in
      record {
        usage_only = λ is. absurd (not_usage (at status.Usage is));
        rejected = λ is. is_audit;
        done = λ is. no_error (at status.Done is);
        refused = λ is. absurd (not_refused (at status.Refused is));
        refused_only = λ is. absurd (not_refused (at status.Refused is));
      }

counts_come : (count : ℕ) (s : Status) (vs : Evidence) (es : List (ℕ × ℕ)) (old new : Option (List ℕ)) → ReportsCounts count s vs es old new → Comes (generates count) s es
counts_come count s vs es old new d =
    let at : (t : Status) → s ≡ t → ReportsCounts count t vs es old new = λ t is. subst (λ (x : Status). ReportsCounts count x vs es old new) is d in
    record {
      usage_only = λ is. absurd (at status.Usage is);
      rejected = λ is. absurd (at status.Rejected is);
      done = λ is. (at status.Done is).0.no_error;
      refused = λ is. absurd (at status.Refused is);
      refused_only = λ is. absurd (at status.Refused is);
    }

told_comes : (asked : Asked) (line : List ℕ) (s : Status) (vs : Evidence) (es : List (ℕ × ℕ)) (old new : Option (List ℕ)) → Tells line s vs es old new → Comes asked s es
told_comes asked line s vs es old new d =
    let at : (t : Status) → s ≡ t → Tells line t vs es old new = λ t is. subst (λ (x : Status). Tells line x vs es old new) is d in
    record {
      usage_only = λ is. absurd (at status.Usage is);
      rejected = λ is. absurd (at status.Rejected is);
      done = λ is. (at status.Done is).1;
      refused = λ is. absurd (at status.Refused is);
      refused_only = λ is. absurd (at status.Refused is);
    }

usage_comes : (s : Status) (vs : Evidence) (es : List (ℕ × ℕ)) (old new : Option (List ℕ)) → ReportsUsage s vs es old new → Comes faulty s es
usage_comes s vs es old new d =
    let at : (t : Status) → s ≡ t → ReportsUsage t vs es old new = λ t is. subst (λ (x : Status). ReportsUsage x vs es old new) is d in
    record {
      usage_only = λ is. refl;
      rejected = λ is. absurd (at status.Rejected is);
      done = λ is. absurd (at status.Done is);
      refused = λ is. absurd (at status.Refused is);
      refused_only = λ is. absurd (at status.Refused is);
    }

pub comes : (held : List ℕ → Option (List ℕ)) (asked : Asked) (before after : Option (List ℕ)) (s : Status) (vs : Evidence) (es : List (ℕ × ℕ)) (old new : Option (List ℕ)) → Does held asked before after s vs es old new → DoesOfSome asked s vs es old new → Comes asked s es
comes held (solves strict name) before after s vs es old new does of_some = solve_comes strict name of_some.0 of_some.1 s vs es old new of_some.2
comes held (audits proof script) before after s vs es old new does of_some =
    audit_comes Audits of_some.0 of_some.1 vs es old new (audits proof script) (inl (proof, script, refl)) s of_some.2
comes held (audits_model model number script) before after s vs es old new does of_some =
    audit_comes (AuditsModel number) of_some.0 of_some.1 vs es old new (audits_model model number script) (inr (model, number, script, refl)) s of_some.2
comes held (generates count) before after s vs es old new does of_some = counts_come count s vs es old new does
comes held helps before after s vs es old new does of_some = told_comes helps usage_line s vs es old new does
comes held versions before after s vs es old new does of_some = told_comes versions version_line s vs es old new does
comes held faulty before after s vs es old new does of_some = usage_comes s vs es old new does
