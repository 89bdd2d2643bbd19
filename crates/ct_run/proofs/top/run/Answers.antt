use Rattle.std.proofs.Common.{refl, ◌∙◌, subst}
use Rattle.ct_io.specs.declared.desk.Slot.TheVariants as slot
use Rattle.ct_arguments.specs.Arguments.{Asked, solves, audits, audits_model, generates, helps, versions, faulty, task_of}
use Rattle.ct_run.specs.Kept.{kept_in}
use Rattle.ct_run.specs.Tasks.{Does, DoesOfSome, ReadsFiles}
use Rattle.ct_run.proofs.RunLemmas.{comes, does_nothing, does_nothing_of_some}
use Rattle.ct_run.proofs.top.run.Goals as goal

pub returns-in-Ok-clause-solved : goal.returns-in-Ok-clause-solved
returns-in-Ok-clause-solved g c = λ strict name bytes asked held. (subst (λ (a : Asked). Does (g.D.Desk.held c.args.desk.now) a (g.D.Desk.left c.args.desk.now slot.Script) (g.D.Desk.left c.perform.new.desk slot.Script) c.perform.result.status (kept_in c.perform.result) c.perform.result.errors.items (g.K.Sink.written c.args.out.now) (g.K.Sink.written c.perform.new.out)) (c.in-Ok.ensures.task ∙ asked) c.perform.ensures.does) bytes held

pub returns-in-Ok-clause-audited : goal.returns-in-Ok-clause-audited
returns-in-Ok-clause-audited g c = λ proof script proof_bytes script_bytes asked first second. (subst (λ (a : Asked). Does (g.D.Desk.held c.args.desk.now) a (g.D.Desk.left c.args.desk.now slot.Script) (g.D.Desk.left c.perform.new.desk slot.Script) c.perform.result.status (kept_in c.perform.result) c.perform.result.errors.items (g.K.Sink.written c.args.out.now) (g.K.Sink.written c.perform.new.out)) (c.in-Ok.ensures.task ∙ asked) c.perform.ensures.does) proof_bytes script_bytes first second

pub returns-in-Ok-clause-model_audited : goal.returns-in-Ok-clause-model_audited
returns-in-Ok-clause-model_audited g c = λ model script model_bytes script_bytes number asked first second. (subst (λ (a : Asked). Does (g.D.Desk.held c.args.desk.now) a (g.D.Desk.left c.args.desk.now slot.Script) (g.D.Desk.left c.perform.new.desk slot.Script) c.perform.result.status (kept_in c.perform.result) c.perform.result.errors.items (g.K.Sink.written c.args.out.now) (g.K.Sink.written c.perform.new.out)) (c.in-Ok.ensures.task ∙ asked) c.perform.ensures.does) model_bytes script_bytes first second

pub returns-in-Ok-clause-read : goal.returns-in-Ok-clause-read
returns-in-Ok-clause-read g c = λ proof script asked. (subst (λ (a : Asked). ReadsFiles (g.D.Desk.held c.args.desk.now) a c.perform.result.status (g.D.Desk.left c.perform.new.desk slot.Proof) (g.D.Desk.left c.perform.new.desk slot.Script)) (c.in-Ok.ensures.task ∙ asked) c.perform.ensures.read)

pub returns-in-Ok-clause-model_read : goal.returns-in-Ok-clause-model_read
returns-in-Ok-clause-model_read g c = λ model script number asked. (subst (λ (a : Asked). ReadsFiles (g.D.Desk.held c.args.desk.now) a c.perform.result.status (g.D.Desk.left c.perform.new.desk slot.Proof) (g.D.Desk.left c.perform.new.desk slot.Script)) (c.in-Ok.ensures.task ∙ asked) c.perform.ensures.read)

pub returns-in-Ok-clause-generated : goal.returns-in-Ok-clause-generated
returns-in-Ok-clause-generated g c = λ count asked. (subst (λ (a : Asked). Does (g.D.Desk.held c.args.desk.now) a (g.D.Desk.left c.args.desk.now slot.Script) (g.D.Desk.left c.perform.new.desk slot.Script) c.perform.result.status (kept_in c.perform.result) c.perform.result.errors.items (g.K.Sink.written c.args.out.now) (g.K.Sink.written c.perform.new.out)) (c.in-Ok.ensures.task ∙ asked) c.perform.ensures.does)

pub returns-in-Ok-clause-helped : goal.returns-in-Ok-clause-helped
returns-in-Ok-clause-helped g c = λ asked. (subst (λ (a : Asked). Does (g.D.Desk.held c.args.desk.now) a (g.D.Desk.left c.args.desk.now slot.Script) (g.D.Desk.left c.perform.new.desk slot.Script) c.perform.result.status (kept_in c.perform.result) c.perform.result.errors.items (g.K.Sink.written c.args.out.now) (g.K.Sink.written c.perform.new.out)) (c.in-Ok.ensures.task ∙ asked) c.perform.ensures.does)

pub returns-in-Ok-clause-told_version : goal.returns-in-Ok-clause-told_version
returns-in-Ok-clause-told_version g c = λ asked. (subst (λ (a : Asked). Does (g.D.Desk.held c.args.desk.now) a (g.D.Desk.left c.args.desk.now slot.Script) (g.D.Desk.left c.perform.new.desk slot.Script) c.perform.result.status (kept_in c.perform.result) c.perform.result.errors.items (g.K.Sink.written c.args.out.now) (g.K.Sink.written c.perform.new.out)) (c.in-Ok.ensures.task ∙ asked) c.perform.ensures.does)

pub returns-in-Ok-clause-usage : goal.returns-in-Ok-clause-usage
returns-in-Ok-clause-usage g c = λ asked. (subst (λ (a : Asked). Does (g.D.Desk.held c.args.desk.now) a (g.D.Desk.left c.args.desk.now slot.Script) (g.D.Desk.left c.perform.new.desk slot.Script) c.perform.result.status (kept_in c.perform.result) c.perform.result.errors.items (g.K.Sink.written c.args.out.now) (g.K.Sink.written c.perform.new.out)) (c.in-Ok.ensures.task ∙ asked) c.perform.ensures.does)

pub returns-in-Ok-clause-some_script : goal.returns-in-Ok-clause-some_script
returns-in-Ok-clause-some_script g c = λ strict name asked. (subst (λ (a : Asked). DoesOfSome a c.perform.result.status (kept_in c.perform.result) c.perform.result.errors.items (g.K.Sink.written c.args.out.now) (g.K.Sink.written c.perform.new.out)) (c.in-Ok.ensures.task ∙ asked) c.perform.ensures.of_some)

pub returns-in-Ok-clause-some_files : goal.returns-in-Ok-clause-some_files
returns-in-Ok-clause-some_files g c = λ proof script asked. (subst (λ (a : Asked). DoesOfSome a c.perform.result.status (kept_in c.perform.result) c.perform.result.errors.items (g.K.Sink.written c.args.out.now) (g.K.Sink.written c.perform.new.out)) (c.in-Ok.ensures.task ∙ asked) c.perform.ensures.of_some)

pub returns-in-Ok-clause-some_model : goal.returns-in-Ok-clause-some_model
returns-in-Ok-clause-some_model g c = λ model script number asked. (subst (λ (a : Asked). DoesOfSome a c.perform.result.status (kept_in c.perform.result) c.perform.result.errors.items (g.K.Sink.written c.args.out.now) (g.K.Sink.written c.perform.new.out)) (c.in-Ok.ensures.task ∙ asked) c.perform.ensures.of_some)

pub returns-in-Ok-clause-usage_only : goal.returns-in-Ok-clause-usage_only
returns-in-Ok-clause-usage_only g c = (comes (g.D.Desk.held c.args.desk.now) (task_of c.args.words.now) (g.D.Desk.left c.args.desk.now slot.Script) (g.D.Desk.left c.perform.new.desk slot.Script) c.perform.result.status (kept_in c.perform.result) c.perform.result.errors.items (g.K.Sink.written c.args.out.now) (g.K.Sink.written c.perform.new.out) (subst (λ (a : Asked). Does (g.D.Desk.held c.args.desk.now) a (g.D.Desk.left c.args.desk.now slot.Script) (g.D.Desk.left c.perform.new.desk slot.Script) c.perform.result.status (kept_in c.perform.result) c.perform.result.errors.items (g.K.Sink.written c.args.out.now) (g.K.Sink.written c.perform.new.out)) c.in-Ok.ensures.task c.perform.ensures.does) (subst (λ (a : Asked). DoesOfSome a c.perform.result.status (kept_in c.perform.result) c.perform.result.errors.items (g.K.Sink.written c.args.out.now) (g.K.Sink.written c.perform.new.out)) c.in-Ok.ensures.task c.perform.ensures.of_some)).usage_only

pub returns-in-Ok-clause-rejected : goal.returns-in-Ok-clause-rejected
returns-in-Ok-clause-rejected g c = (comes (g.D.Desk.held c.args.desk.now) (task_of c.args.words.now) (g.D.Desk.left c.args.desk.now slot.Script) (g.D.Desk.left c.perform.new.desk slot.Script) c.perform.result.status (kept_in c.perform.result) c.perform.result.errors.items (g.K.Sink.written c.args.out.now) (g.K.Sink.written c.perform.new.out) (subst (λ (a : Asked). Does (g.D.Desk.held c.args.desk.now) a (g.D.Desk.left c.args.desk.now slot.Script) (g.D.Desk.left c.perform.new.desk slot.Script) c.perform.result.status (kept_in c.perform.result) c.perform.result.errors.items (g.K.Sink.written c.args.out.now) (g.K.Sink.written c.perform.new.out)) c.in-Ok.ensures.task c.perform.ensures.does) (subst (λ (a : Asked). DoesOfSome a c.perform.result.status (kept_in c.perform.result) c.perform.result.errors.items (g.K.Sink.written c.args.out.now) (g.K.Sink.written c.perform.new.out)) c.in-Ok.ensures.task c.perform.ensures.of_some)).rejected

pub returns-in-Ok-clause-done : goal.returns-in-Ok-clause-done
returns-in-Ok-clause-done g c = (comes (g.D.Desk.held c.args.desk.now) (task_of c.args.words.now) (g.D.Desk.left c.args.desk.now slot.Script) (g.D.Desk.left c.perform.new.desk slot.Script) c.perform.result.status (kept_in c.perform.result) c.perform.result.errors.items (g.K.Sink.written c.args.out.now) (g.K.Sink.written c.perform.new.out) (subst (λ (a : Asked). Does (g.D.Desk.held c.args.desk.now) a (g.D.Desk.left c.args.desk.now slot.Script) (g.D.Desk.left c.perform.new.desk slot.Script) c.perform.result.status (kept_in c.perform.result) c.perform.result.errors.items (g.K.Sink.written c.args.out.now) (g.K.Sink.written c.perform.new.out)) c.in-Ok.ensures.task c.perform.ensures.does) (subst (λ (a : Asked). DoesOfSome a c.perform.result.status (kept_in c.perform.result) c.perform.result.errors.items (g.K.Sink.written c.args.out.now) (g.K.Sink.written c.perform.new.out)) c.in-Ok.ensures.task c.perform.ensures.of_some)).done

pub returns-in-Ok-clause-refused : goal.returns-in-Ok-clause-refused
returns-in-Ok-clause-refused g c = (comes (g.D.Desk.held c.args.desk.now) (task_of c.args.words.now) (g.D.Desk.left c.args.desk.now slot.Script) (g.D.Desk.left c.perform.new.desk slot.Script) c.perform.result.status (kept_in c.perform.result) c.perform.result.errors.items (g.K.Sink.written c.args.out.now) (g.K.Sink.written c.perform.new.out) (subst (λ (a : Asked). Does (g.D.Desk.held c.args.desk.now) a (g.D.Desk.left c.args.desk.now slot.Script) (g.D.Desk.left c.perform.new.desk slot.Script) c.perform.result.status (kept_in c.perform.result) c.perform.result.errors.items (g.K.Sink.written c.args.out.now) (g.K.Sink.written c.perform.new.out)) c.in-Ok.ensures.task c.perform.ensures.does) (subst (λ (a : Asked). DoesOfSome a c.perform.result.status (kept_in c.perform.result) c.perform.result.errors.items (g.K.Sink.written c.args.out.now) (g.K.Sink.written c.perform.new.out)) c.in-Ok.ensures.task c.perform.ensures.of_some)).refused

pub returns-in-Ok-clause-refused_only : goal.returns-in-Ok-clause-refused_only
returns-in-Ok-clause-refused_only g c = (comes (g.D.Desk.held c.args.desk.now) (task_of c.args.words.now) (g.D.Desk.left c.args.desk.now slot.Script) (g.D.Desk.left c.perform.new.desk slot.Script) c.perform.result.status (kept_in c.perform.result) c.perform.result.errors.items (g.K.Sink.written c.args.out.now) (g.K.Sink.written c.perform.new.out) (subst (λ (a : Asked). Does (g.D.Desk.held c.args.desk.now) a (g.D.Desk.left c.args.desk.now slot.Script) (g.D.Desk.left c.perform.new.desk slot.Script) c.perform.result.status (kept_in c.perform.result) c.perform.result.errors.items (g.K.Sink.written c.args.out.now) (g.K.Sink.written c.perform.new.out)) c.in-Ok.ensures.task c.perform.ensures.does) (subst (λ (a : Asked). DoesOfSome a c.perform.result.status (kept_in c.perform.result) c.perform.result.errors.items (g.K.Sink.written c.args.out.now) (g.K.Sink.written c.perform.new.out)) c.in-Ok.ensures.task c.perform.ensures.of_some)).refused_only

pub returns-in-Err-clause-solved : goal.returns-in-Err-clause-solved
returns-in-Err-clause-solved g c = λ strict name bytes asked held. rw c.unanswered.ensures.status (does_nothing (g.D.Desk.held c.args.desk.now) (solves strict name) (g.D.Desk.left c.args.desk.now slot.Script) (g.D.Desk.left c.args.desk.now slot.Script) (kept_in c.unanswered.result) c.unanswered.result.errors.items (g.K.Sink.written c.args.out.now) (g.K.Sink.written c.args.out.now) (c.unanswered.ensures.kept, c.unanswered.ensures.errors, refl) bytes held)

pub returns-in-Err-clause-audited : goal.returns-in-Err-clause-audited
returns-in-Err-clause-audited g c = λ proof script proof_bytes script_bytes asked first second. rw c.unanswered.ensures.status (does_nothing (g.D.Desk.held c.args.desk.now) (audits proof script) (g.D.Desk.left c.args.desk.now slot.Script) (g.D.Desk.left c.args.desk.now slot.Script) (kept_in c.unanswered.result) c.unanswered.result.errors.items (g.K.Sink.written c.args.out.now) (g.K.Sink.written c.args.out.now) (c.unanswered.ensures.kept, c.unanswered.ensures.errors, refl) proof_bytes script_bytes first second)

pub returns-in-Err-clause-model_audited : goal.returns-in-Err-clause-model_audited
returns-in-Err-clause-model_audited g c = λ model script model_bytes script_bytes number asked first second. rw c.unanswered.ensures.status (does_nothing (g.D.Desk.held c.args.desk.now) (audits_model model number script) (g.D.Desk.left c.args.desk.now slot.Script) (g.D.Desk.left c.args.desk.now slot.Script) (kept_in c.unanswered.result) c.unanswered.result.errors.items (g.K.Sink.written c.args.out.now) (g.K.Sink.written c.args.out.now) (c.unanswered.ensures.kept, c.unanswered.ensures.errors, refl) model_bytes script_bytes first second)

pub returns-in-Err-clause-read : goal.returns-in-Err-clause-read
returns-in-Err-clause-read g c = λ proof script asked. rw c.unanswered.ensures.status tt

pub returns-in-Err-clause-model_read : goal.returns-in-Err-clause-model_read
returns-in-Err-clause-model_read g c = λ model script number asked. rw c.unanswered.ensures.status tt

pub returns-in-Err-clause-generated : goal.returns-in-Err-clause-generated
returns-in-Err-clause-generated g c = λ count asked. rw c.unanswered.ensures.status (does_nothing (g.D.Desk.held c.args.desk.now) (generates count) (g.D.Desk.left c.args.desk.now slot.Script) (g.D.Desk.left c.args.desk.now slot.Script) (kept_in c.unanswered.result) c.unanswered.result.errors.items (g.K.Sink.written c.args.out.now) (g.K.Sink.written c.args.out.now) (c.unanswered.ensures.kept, c.unanswered.ensures.errors, refl))

pub returns-in-Err-clause-helped : goal.returns-in-Err-clause-helped
returns-in-Err-clause-helped g c = λ asked. rw c.unanswered.ensures.status (does_nothing (g.D.Desk.held c.args.desk.now) (helps) (g.D.Desk.left c.args.desk.now slot.Script) (g.D.Desk.left c.args.desk.now slot.Script) (kept_in c.unanswered.result) c.unanswered.result.errors.items (g.K.Sink.written c.args.out.now) (g.K.Sink.written c.args.out.now) (c.unanswered.ensures.kept, c.unanswered.ensures.errors, refl))

pub returns-in-Err-clause-told_version : goal.returns-in-Err-clause-told_version
returns-in-Err-clause-told_version g c = λ asked. rw c.unanswered.ensures.status (does_nothing (g.D.Desk.held c.args.desk.now) versions (g.D.Desk.left c.args.desk.now slot.Script) (g.D.Desk.left c.args.desk.now slot.Script) (kept_in c.unanswered.result) c.unanswered.result.errors.items (g.K.Sink.written c.args.out.now) (g.K.Sink.written c.args.out.now) (c.unanswered.ensures.kept, c.unanswered.ensures.errors, refl))

pub returns-in-Err-clause-usage : goal.returns-in-Err-clause-usage
returns-in-Err-clause-usage g c = λ asked. rw c.unanswered.ensures.status (does_nothing (g.D.Desk.held c.args.desk.now) (faulty) (g.D.Desk.left c.args.desk.now slot.Script) (g.D.Desk.left c.args.desk.now slot.Script) (kept_in c.unanswered.result) c.unanswered.result.errors.items (g.K.Sink.written c.args.out.now) (g.K.Sink.written c.args.out.now) (c.unanswered.ensures.kept, c.unanswered.ensures.errors, refl))

pub returns-in-Err-clause-some_script : goal.returns-in-Err-clause-some_script
returns-in-Err-clause-some_script g c = λ strict name asked. rw c.unanswered.ensures.status (does_nothing_of_some (solves strict name) (kept_in c.unanswered.result) c.unanswered.result.errors.items (g.K.Sink.written c.args.out.now) (g.K.Sink.written c.args.out.now) (c.unanswered.ensures.kept, c.unanswered.ensures.errors, refl))

pub returns-in-Err-clause-some_files : goal.returns-in-Err-clause-some_files
returns-in-Err-clause-some_files g c = λ proof script asked. rw c.unanswered.ensures.status (does_nothing_of_some (audits proof script) (kept_in c.unanswered.result) c.unanswered.result.errors.items (g.K.Sink.written c.args.out.now) (g.K.Sink.written c.args.out.now) (c.unanswered.ensures.kept, c.unanswered.ensures.errors, refl))

pub returns-in-Err-clause-some_model : goal.returns-in-Err-clause-some_model
returns-in-Err-clause-some_model g c = λ model script number asked. rw c.unanswered.ensures.status (does_nothing_of_some (audits_model model number script) (kept_in c.unanswered.result) c.unanswered.result.errors.items (g.K.Sink.written c.args.out.now) (g.K.Sink.written c.args.out.now) (c.unanswered.ensures.kept, c.unanswered.ensures.errors, refl))
