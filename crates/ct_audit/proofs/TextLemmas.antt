-- What an audit says, from what its parts say.
use Rattle.std.proofs.Common.{◌≡◌, ◌∙◌, ℕ, Bool, true, false, List, ◌∷◌, Option, None, Some, Result, Ok, Err, refl, sym, ap, subst}
use Rattle.std.specs.Prelude.{option_map, IfOk}
use Rattle.ct_sexpr.specs.Expression.{Expression}
use Rattle.ct_sexpr.specs.Text.{Located, Ending, Reads}
use Rattle.ct_sexpr.specs.Unread.{Unread}
use Rattle.ct_sexpr.specs.Answer.{IsFirstCommand}
use Rattle.ct_sexpr.specs.View.{expression_of}
use Rattle.ct_sexpr.specs.declared.sexpr.Sexpr.{Sexpr}
use Rattle.ct_formulas.specs.Formula.{Formula}
use Rattle.ct_log.specs.Recorded.{Recorded}
use Rattle.ct_log_text.specs.Reading.{departs, number_of, Reads as ReadsRecord}
use Rattle.ct_stack.specs.Stack.{Context}
use Rattle.ct_stack.specs.Held.{IsSoundLevel}
use Rattle.ct_step.specs.State.{State}
use Rattle.ct_script.specs.Session.{Course, first_course}
use Rattle.ct_audit.specs.declared.answer.AuditAnswer.{AuditAnswer}
use Rattle.ct_audit.specs.declared.answer.AuditAnswer.TheVariants.{Wrong}
use Rattle.ct_audit.specs.declared.error.AuditError.{AuditError}
use Rattle.ct_replay.specs.Found.{Finds, state_where}
use Rattle.ct_audit.specs.Judged.{Judges, JudgesRead}
use Rattle.ct_audit.specs.Audit.{Audits, JudgesScript, JudgesNumbered, JudgesAt, no_check}
use Rattle.ct_replay.specs.One.{one_expression}
use Rattle.ct_replay.proofs.ReplayLemmas.{SomeText, first_read}

-- a text that is no expression
pub no_expression : (some : SomeText) (u : Unread) (script : List ℕ) (expr : Option Sexpr) (answer : AuditAnswer) → u.line ≡ 1 → expr ≡ None → answer ≡ Wrong 0 departs → ((cs : List Located) × (x : Ending) × Reads u.line u.bytes cs x × (one_expression cs x ≡ option_map expression_of expr)) → Audits u.bytes script answer
no_expression some u script expr answer line none is read =
    let s = some 1 script in (
      read.0,
      read.1,
      subst (λ (n : ℕ). Reads n u.bytes read.0 read.1) line read.2,
      subst (λ (e : Option Expression). JudgesScript e script answer) (sym (read.3 ∙ ap (λ (o : Option Sexpr). option_map expression_of o) none)) (s.0, s.1, s.2, is),
    )

-- an expression without a number
pub no_number : (some : SomeText) (e : Expression) (script : List ℕ) (answer : AuditAnswer) → number_of e ≡ None → answer ≡ Wrong 0 departs → JudgesScript (Some e) script answer
no_number some e script answer none is =
    let s = some 1 script in
    (s.0, s.1, s.2, subst (λ (n : Option ℕ). JudgesNumbered e n s.0 answer) (sym none) is)

module _ (u : Unread) (start : Course) (first : start ≡ first_course) (e : Expression) (wanted : ℕ) (found : Bool) (state : State) (finds : (cs : List Located) × (x : Ending) × Reads u.line u.bytes cs x × Finds start cs wanted (state_where found state)) where
  from_first : (o : Option State) → state_where found state ≡ o → Finds first_course finds.0 wanted o
  from_first o is = subst (λ (p : Option State). Finds first_course finds.0 wanted p) is (subst (λ (c : Course). Finds c finds.0 wanted (state_where found state)) first finds.3)

  -- there is no such check
  pub not_found : found ≡ false → (cs : List Located) × (x : Ending) × Reads u.line u.bytes cs x × JudgesNumbered e (Some wanted) cs (Wrong 0 no_check)
  not_found is = (finds.0, finds.1, finds.2, (None, from_first None (ap (λ (b : Bool). state_where b state) is), refl))

  -- there is
  pub was_found : found ≡ true → (r : Result AuditAnswer AuditError) → IfOk r (JudgesAt e (Some state)) → IfOk r (λ answer. (cs : List Located) × (x : Ending) × Reads u.line u.bytes cs x × JudgesNumbered e (Some wanted) cs answer)
  was_found is (Ok answer) judged = (finds.0, finds.1, finds.2, (Some state, from_first (Some state) (ap (λ (b : Bool). state_where b state) is), judged))
  was_found is (Err error) judged = tt

-- the same over equal declarations and assertions
pub sound_here : (c d : Context) (fs gs : List Formula) → c ≡ d → fs ≡ gs → IsSoundLevel (record { context = d; assertions = gs }) → IsSoundLevel (record { context = c; assertions = fs })
sound_here c d fs gs p q h =
    subst (λ (x : Context). IsSoundLevel (record { context = x; assertions = fs })) (sym p)
    (subst (λ (ys : List Formula). IsSoundLevel (record { context = d; assertions = ys })) (sym q) h)

pub judges_here : (c d : Context) (fs gs : List Formula) (e : Expression) → c ≡ d → fs ≡ gs → (r : Result AuditAnswer AuditError) → IfOk r (Judges c fs e) → IfOk r (Judges d gs e)
judges_here c d fs gs e p q r h =
    subst (λ (x : Context). IfOk r (Judges x gs e)) p
    (subst (λ (ys : List Formula). IfOk r (Judges c ys e)) q h)

-- what was read is judged
pub read_judged : (c : Context) (fs : List Formula) (e : Expression) (rec : Recorded) (r : Result AuditAnswer AuditError) → ReadsRecord c.declarations e (Ok rec) → IfOk r (JudgesRead c fs (Ok rec)) → IfOk r (Judges c fs e)
read_judged c fs e rec (Ok answer) reads judged = (Ok rec, reads, judged)
read_judged c fs e rec (Err error) reads judged = tt
