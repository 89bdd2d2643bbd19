-- What an audit says of a derivation by the assertions that its check had.
use Rattle.std.specs.Prelude.{◌≡◌, ℕ, ◌⊎◌, List, Ok, Err}
use Rattle.ct_sexpr.specs.Expression.{Expression}
use Rattle.ct_terms.specs.declared.ids.TermId.{TermId}
use Rattle.ct_terms.specs.Terms.{Terms}
use Rattle.ct_formulas.specs.Formula.{Formula}
use Rattle.ct_eval.specs.declared.interp.Interp.{Interp}
use Rattle.ct_log.specs.declared.line.Line.{Line}
use Rattle.ct_log.specs.Acceptance.{Passes}
use Rattle.ct_log_text.specs.Reading.{ReadOutcome, Reads, departs}
use Rattle.ct_checker.specs.declared.reject.Why.{Why}
use Rattle.ct_checker.specs.Rejection.{IsRejectedAt}
use Rattle.ct_stack.specs.Stack.{Context}
use Rattle.ct_step.specs.Verdict.{Satisfies}
use Rattle.ct_audit.specs.declared.answer.AuditAnswer.{AuditAnswer}
use Rattle.ct_audit.specs.declared.answer.AuditAnswer.TheVariants.{Verified, Rejected, Wrong}
use Rattle.ct_audit.specs.Grown.{IsGrownBy, AreTooMany}

-- the lines pass over the terms and the assertions with these numbers, and so no interpretation makes the assertions true
pub record IsVerified (c : Context) (formulas : List Formula) (terms : Terms) (numbers : List TermId) (lines : List Line) : Type 0 where
  pub passes : Passes c.declarations terms numbers lines
  pub no_model : (i : Interp) → Satisfies c formulas i → ⊥

-- they do not pass, at the line with this number
abbrev pub IsRejected : Context → Terms → List TermId → List Line → ℕ → Type 0
IsRejected c terms numbers lines number = (why : Why) × IsRejectedAt c.declarations terms numbers lines number why

-- the lines are judged
abbrev pub JudgesLines : Context → List Formula → Terms → List TermId → List Line → AuditAnswer → Type 0
JudgesLines c formulas terms numbers lines Verified = IsVerified c formulas terms numbers lines
JudgesLines c formulas terms numbers lines (Rejected number) = IsRejected c terms numbers lines number
JudgesLines c formulas terms numbers lines (Wrong item code) = ⊥

-- the lines of a record are judged over its terms and the core terms of the assertions
pub record JudgesGrown (c : Context) (formulas : List Formula) (terms : Terms) (lines : List Line) (answer : AuditAnswer) : Type 0 where
  pub grown : Terms
  pub numbers : List TermId
  pub is_grown : IsGrownBy c formulas terms grown numbers
  pub judged : JudgesLines c formulas grown numbers lines answer

-- what comes of what a derivation is read as: the error of its reading, too many terms of the assertions, or a judgement
abbrev pub JudgesRead : Context → List Formula → ReadOutcome → AuditAnswer → Type 0
JudgesRead c formulas (Err (item, code)) answer = answer ≡ Wrong item code
JudgesRead c formulas (Ok rec) answer =
    (AreTooMany c formulas rec.terms × (answer ≡ Wrong 0 departs)) ⊎ JudgesGrown c formulas rec.terms rec.lines answer

-- the expression is judged as a derivation over these assertions
abbrev pub Judges : Context → List Formula → Expression → AuditAnswer → Type 0
Judges c formulas e answer = (outcome : ReadOutcome) × Reads c.declarations e outcome × JudgesRead c formulas outcome answer
