-- What an audit says of a text with a model and a text with a script.
use Rattle.std.specs.Prelude.{◌≡◌, ℕ, suc, true, List, [], take, Option, None, Some, slice_get, Ok, Err}
use Rattle.ct_sexpr.specs.Expression.{Expression}
use Rattle.ct_sexpr.specs.Text.{Located, Ending, Reads}
use Rattle.ct_formulas.specs.Formula.{Formula}
use Rattle.ct_values.specs.TruthValue.{is_true}
use Rattle.ct_card.specs.Sizes.{AreSizes, Table as Sizes}
use Rattle.ct_eval.specs.declared.interp.Interp.{Interp}
use Rattle.ct_meaning.specs.Meaning.{eval, AllTrue}
use Rattle.ct_stack.specs.Stack.{Context, in_force}
use Rattle.ct_step.specs.State.{State, context_of}
use Rattle.ct_step.specs.Verdict.{Satisfies}
use Rattle.ct_script.specs.Session.{first_course}
use Rattle.ct_replay.specs.Found.{Finds}
use Rattle.ct_replay.specs.One.{one_expression}
use Rattle.ct_readback.specs.ModelReads.{ModelOutcome, ModelReads, departs}
use Rattle.ct_audit.specs.declared.answer.AuditAnswer.{AuditAnswer}
use Rattle.ct_audit.specs.declared.answer.AuditAnswer.TheVariants.{Verified, Rejected, Wrong}
use Rattle.ct_audit.specs.Audit.{no_check}

-- the formula at this place, counted from 0, is the first that the interpretation does not make true
pub record IsFirstUntrue (c : Context) (formulas : List Formula) (i : Interp) (place : ℕ) : Type 0 where
  pub formula : Formula
  pub stands : slice_get formulas place ≡ Some formula
  pub untrue : is_true i.graph (eval c.declarations i c.bodies [] formula) ≡ true → ⊥
  pub before : AllTrue c.declarations i c.bodies (take place formulas)

-- the interpretation is judged: it makes all assertions true, or the one with this number, counted from 1, is the first that it does not
abbrev pub JudgesInterp : Context → List Formula → Interp → AuditAnswer → Type 0
JudgesInterp c formulas i Verified = Satisfies c formulas i
JudgesInterp c formulas i (Rejected number) = (place : ℕ) × (number ≡ suc place) × IsFirstUntrue c formulas i place
JudgesInterp c formulas i (Wrong item code) = ⊥

-- what comes of what a model is read as: its interpretation is judged, or the error of the first item that is refused
abbrev pub JudgesOutcome : Context → List Formula → ModelOutcome → AuditAnswer → Type 0
JudgesOutcome c formulas (Ok i) answer = JudgesInterp c formulas i answer
JudgesOutcome c formulas (Err (item, code)) answer = answer ≡ Wrong item code

-- the expression is judged as a model of these assertions
pub record JudgesModel (c : Context) (formulas : List Formula) (e : Expression) (answer : AuditAnswer) : Type 0 where
  pub sizes : Sizes
  pub sizes_are : AreSizes c.declarations sizes
  pub outcome : ModelOutcome
  pub read : ModelReads c.declarations sizes e outcome
  pub judged : JudgesOutcome c formulas outcome answer

-- a model is judged by the state of the script at the check
abbrev pub JudgesAt : Expression → Option State → AuditAnswer → Type 0
JudgesAt e None answer = answer ≡ Wrong 0 no_check
JudgesAt e (Some s) answer = JudgesModel (context_of s) (in_force s.stack) e answer

-- the one expression of a text is judged by the check with this number
abbrev pub JudgesText : Option Expression → ℕ → List Located → AuditAnswer → Type 0
JudgesText None number script answer = answer ≡ Wrong 0 departs
JudgesText (Some e) number script answer = (found : Option State) × Finds first_course script number found × JudgesAt e found answer

-- the same over the bytes of a script
abbrev pub JudgesScript : Option Expression → ℕ → List ℕ → AuditAnswer → Type 0
JudgesScript expr number script answer = (commands : List Located) × (ending : Ending) × Reads 1 script commands ending × JudgesText expr number commands answer

-- The bytes of a model are judged by those of a script, at its check with this number. Of what is wrong the first counts: the model is no
-- expression; the script does not have that check; an item of the model is wrong; an assertion is not true.
abbrev pub AuditsModel : ℕ → List ℕ → List ℕ → AuditAnswer → Type 0
AuditsModel number model script answer =
    (commands : List Located) × (ending : Ending) × Reads 1 model commands ending × JudgesScript (one_expression commands ending) number script answer
