-- What an audit says of a text with a derivation and a text with a script.
use Rattle.std.specs.Prelude.{◌≡◌, ℕ, List, Option, None, Some}
use Rattle.ct_sexpr.specs.Expression.{Expression}
use Rattle.ct_sexpr.specs.Text.{Located, Ending, Reads}
use Rattle.ct_log_text.specs.Reading.{departs, number_of}
use Rattle.ct_stack.specs.Stack.{in_force}
use Rattle.ct_step.specs.State.{State, context_of}
use Rattle.ct_audit.specs.declared.answer.AuditAnswer.{AuditAnswer}
use Rattle.ct_audit.specs.declared.answer.AuditAnswer.TheVariants.{Wrong}
use Rattle.ct_replay.specs.Found.{Finds}
use Rattle.ct_replay.specs.One.{one_expression}
use Rattle.ct_script.specs.Session.{first_course}
use Rattle.ct_audit.specs.Judged.{Judges}

-- the number of the error of a derivation whose check the script does not have
abbrev pub no_check : ℕ
no_check = 44

-- a derivation is judged by the state of the script at its check
abbrev pub JudgesAt : Expression → Option State → AuditAnswer → Type 0
JudgesAt e None answer = answer ≡ Wrong 0 no_check
JudgesAt e (Some s) answer = Judges (context_of s) (in_force s.stack) e answer

-- a derivation is judged by the number of its check
abbrev pub JudgesNumbered : Expression → Option ℕ → List Located → AuditAnswer → Type 0
JudgesNumbered e None script answer = answer ≡ Wrong 0 departs
JudgesNumbered e (Some number) script answer = (found : Option State) × Finds first_course script number found × JudgesAt e found answer

-- the one expression of a text is judged by the commands of a script
abbrev pub JudgesText : Option Expression → List Located → AuditAnswer → Type 0
JudgesText None script answer = answer ≡ Wrong 0 departs
JudgesText (Some e) script answer = JudgesNumbered e (number_of e) script answer

-- the expression of a text is judged by a script
abbrev pub JudgesScript : Option Expression → List ℕ → AuditAnswer → Type 0
JudgesScript e script answer = (commands : List Located) × (ending : Ending) × Reads 1 script commands ending × JudgesText e commands answer

-- The bytes of a derivation are judged by those of a script. Of what is wrong the first counts: the derivation is no expression
-- with the number of a check; the script does not have that check; an item of the derivation is wrong; there are too many terms;
-- a line is not accepted.
abbrev pub Audits : List ℕ → List ℕ → AuditAnswer → Type 0
Audits proof script answer = (commands : List Located) × (ending : Ending) × Reads 1 proof commands ending × JudgesScript (one_expression commands ending) script answer
