-- What an audit of a model says, from what its parts say.
use Rattle.std.proofs.Common.{◌≡◌, ℕ, Bool, true, false, List, Option, None, Some, Result, Ok, Err, refl, sym, ap, ◌∙◌, subst}
use Rattle.std.specs.Prelude.{option_map, IfOk}
use Rattle.ct_sexpr.specs.Expression.{Expression}
use Rattle.ct_sexpr.specs.Text.{Located, Ending, Reads}
use Rattle.ct_sexpr.specs.Unread.{Unread}
use Rattle.ct_sexpr.specs.View.{expression_of}
use Rattle.ct_sexpr.specs.declared.sexpr.Sexpr.{Sexpr}
use Rattle.ct_card.specs.Sizes.{AreSizes, Table as Sizes}
use Rattle.ct_formulas.specs.Formula.{Formula}
use Rattle.ct_eval.specs.declared.interp.Interp.{Interp}
use Rattle.ct_stack.specs.Stack.{Context}
use Rattle.ct_step.specs.State.{State}
use Rattle.ct_script.specs.Session.{Course, first_course}
use Rattle.ct_replay.specs.Found.{Finds, state_where}
use Rattle.ct_replay.specs.One.{one_expression}
use Rattle.ct_replay.proofs.ReplayLemmas.{SomeText}
use Rattle.ct_readback.specs.ModelReads.{ModelReads, departs}
use Rattle.ct_audit.specs.declared.answer.AuditAnswer.{AuditAnswer}
use Rattle.ct_audit.specs.declared.answer.AuditAnswer.TheVariants.{Wrong}
use Rattle.ct_audit.specs.declared.error.AuditError.{AuditError}
use Rattle.ct_audit.specs.Audit.{no_check}
use Rattle.ct_model_audit.specs.ModelAudit.{AuditsModel, JudgesScript, JudgesText, JudgesAt, JudgesModel, JudgesInterp}

-- a text that is no expression
pub no_expression : (some : SomeText) (number : ℕ) (u : Unread) (script : List ℕ) (expr : Option Sexpr) (answer : AuditAnswer) → u.line ≡ 1 → expr ≡ None → answer ≡ Wrong 0 departs → ((cs : List Located) × (x : Ending) × Reads u.line u.bytes cs x × (one_expression cs x ≡ option_map expression_of expr)) → AuditsModel number u.bytes script answer
no_expression some number u script expr answer line none is read =
    let s = some 1 script in (
      read.0,
      read.1,
      subst (λ (n : ℕ). Reads n u.bytes read.0 read.1) line read.2,
      subst (λ (e : Option Expression). JudgesScript e number script answer) (sym (read.3 ∙ ap (λ (o : Option Sexpr). option_map expression_of o) none)) (s.0, s.1, s.2, is),
    )

module _ (u : Unread) (start : Course) (first : start ≡ first_course) (e : Expression) (wanted : ℕ) (found : Bool) (state : State) (finds : (cs : List Located) × (x : Ending) × Reads u.line u.bytes cs x × Finds start cs wanted (state_where found state)) where
  from_first : (o : Option State) → state_where found state ≡ o → Finds first_course finds.0 wanted o
  from_first o is = subst (λ (p : Option State). Finds first_course finds.0 wanted p) is (subst (λ (c : Course). Finds c finds.0 wanted (state_where found state)) first finds.3)

  -- there is no such check
  pub not_found : found ≡ false → (cs : List Located) × (x : Ending) × Reads u.line u.bytes cs x × JudgesText (Some e) wanted cs (Wrong 0 no_check)
  not_found is = (finds.0, finds.1, finds.2, (None, from_first None (ap (λ (b : Bool). state_where b state) is), refl))

  -- there is
  pub was_found : found ≡ true → (r : Result AuditAnswer AuditError) → IfOk r (JudgesAt e (Some state)) → IfOk r (λ answer. (cs : List Located) × (x : Ending) × Reads u.line u.bytes cs x × JudgesText (Some e) wanted cs answer)
  was_found is (Ok answer) judged = (finds.0, finds.1, finds.2, (Some state, from_first (Some state) (ap (λ (b : Bool). state_where b state) is), judged))
  was_found is (Err error) judged = tt

-- the model is read, and its interpretation judged
pub was_read : (c : Context) (formulas : List Formula) (e : Expression) (sizes : Sizes) → AreSizes c.declarations sizes → (i : Interp) → ModelReads c.declarations sizes e (Ok i) → (r : Result AuditAnswer AuditError) → IfOk r (JudgesInterp c formulas i) → IfOk r (JudgesModel c formulas e)
was_read c formulas e sizes are i read (Ok answer) judged = record { sizes = sizes; sizes_are = are; outcome = Ok i; read = read; judged = judged }
was_read c formulas e sizes are i read (Err error) judged = tt
