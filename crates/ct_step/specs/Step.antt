-- What one command does (SMT-LIB 2.7, section 4.2): the state after it, what is printed, and the error by which it is refused.
use Rattle.std.specs.Prelude.{◌≡◌, ℕ, ◌+◌, nat_lt, ◌⊎◌, Bool, true, false, List, [], ◌++◌, Option, None, Some, Ok, Err, codes, if◌then◌else◌}
use Rattle.std.specs.Bool.{MatchBool}
use Rattle.std.specs.Fmt.{decimal}
use Rattle.ct_words.specs.Errors.{error_text}
use Rattle.ct_sexpr.specs.Expression.{Expression}
use Rattle.ct_sexpr.specs.Written.{written}
use Rattle.ct_sorts.specs.Declarations.{Declarations, with_function}
use Rattle.ct_model.specs.ModelText.{IsModelText}
use Rattle.ct_log_text.specs.Written.{expression_of_record, text_of}
use Rattle.ct_engine.specs.declared.verdict.Verdict.{Verdict}
use Rattle.ct_engine.specs.declared.verdict.Verdict.TheVariants.{Sat, Unsat, Unknown}
use Rattle.ct_command.specs.Command.{Command, set_logic, set_option, set_diagnostic_output, get_option, set_info, get_info, declare_sort, define_sort, declare_block, declare_fun, define_fun, assert, check_sat, check_sat_assuming, push, pop, reset_assertions, reset, get_model, get_value, get_proof, get_unsat_core, get_unsat_assumptions, echo, exit, unsupported}
use Rattle.ct_command.specs.Reading.{Read, command}
use Rattle.ct_shrink.specs.declared.shrunk.Shrunk.{Shrunk}
use Rattle.ct_stack.specs.Stack.{in_force, declaring, in_context, defined_in}
use Rattle.ct_stack.specs.Assuming.{Assumption, assumptions}
use Rattle.ct_stack.specs.Levels.{pushed_by, popped_by, emptied}
use Rattle.ct_stack.specs.Outcomes.{Gives, GivesNeeding}
use Rattle.ct_stack.specs.Elaborations.{with_free, IsWithTypes, synonym_body, with_synonym_of, declared_function, defined_function, asserted_formula}
use Rattle.ct_stack.specs.Refusal.{over}
use Rattle.ct_stack.specs.Values.{AreValues}
use Rattle.ct_step.specs.declared.options.Options.{Options}
use Rattle.ct_step.specs.Options.{most_decisions, budget, with_setting, ends_at_error, value_text}
use Rattle.ct_step.specs.declared.cores.Members.{Members}
use Rattle.ct_step.specs.declared.cores.Members.TheVariants as members
use Rattle.ct_step.specs.Evidence.{Evidence, no_evidence, of_verdict, of_core}
use Rattle.ct_step.specs.State.{State, Refuted, starting, context_of, declared, with_declarations, changed, cut_back, asserted, model_kept, derivation_kept, refuted_kept, assuming_kept, asked}
use Rattle.ct_step.specs.Cores.{HasCore, IsShrunkTo, core_text}
use Rattle.ct_step.specs.Infos.{info_text, unsupported_text}
use Rattle.ct_step.specs.Refusal.{IsRefusal}
use Rattle.ct_step.specs.Verdict.{ComesTo}

-- what a command does: the state after it, what is printed, the number of its error, what is kept of its answer, and whether the
-- script ends with it
pub record CommandEffect : Type 0 where
  pub state : State
  pub text : List ℕ
  pub error : Option ℕ
  pub evidence : Evidence
  pub stop : Bool

-- the text of an error on a line
abbrev pub refusal_text : ℕ → ℕ → List ℕ
refusal_text line n = codes "(error \"line " ++ (decimal line ++ (codes ": [E" ++ (decimal n ++ (codes "] " ++ (error_text n ++ codes "\")")))))

-- a refused command changes nothing; the script ends with it where that is set
abbrev pub refused : State → ℕ → ℕ → CommandEffect
refused s line n = record { state = s; text = refusal_text line n; error = Some n; evidence = no_evidence; stop = ends_at_error s.options.error_behavior }

-- a command that prints its answer
abbrev pub said : State → List ℕ → CommandEffect
said s text = record { state = s; text = text; error = None; evidence = no_evidence; stop = false }

-- what is printed of a command without an answer
abbrev pub success : Options → List ℕ
success options = if options.print_success then codes "success" else []

-- a command without an answer, which leads to this state
abbrev pub quiet : State → CommandEffect
quiet s = said s (success s.options)

-- the word of a verdict
abbrev pub word_of : Verdict → List ℕ
word_of (Sat i) = codes "sat"
word_of (Unsat derivation) = codes "unsat"
word_of (Unknown spent) = codes "unknown"

-- a verdict of a check with these assumptions, or with none and this number, which stands from now on
abbrev pub decided : State → Option ℕ → List Assumption → Verdict → CommandEffect
decided s number assumed v =
    record (said (record s { kept = Some (record { verdict = v; assumed = assumed; number = number }) }) (word_of v)) { evidence = of_verdict v }

-- something holds of what is kept
abbrev pub OfKept : {X : Type 0} → Option X → (X → Type 0) → Type 0
OfKept None holds = ⊥
OfKept (Some x) holds = holds x

-- the members are printed of the core of a derivation, or, with the option, of a core to which it is shrunk
abbrev pub PrintsCore : State → Members → Refuted → CommandEffect → Type 0
PrintsCore s members refuted e =
    (places : List ℕ) × HasCore (context_of s) (asked s refuted.assumed) refuted.derived places
    × MatchBool s.options.minimal_unsat_cores
    ((shrunk : Shrunk) × IsShrunkTo (context_of s) (asked s refuted.assumed) (budget s.options) places shrunk
    × (e ≡ record (said s (core_text members s refuted.assumed shrunk.core.places.items)) { evidence = of_core shrunk }))
    (e ≡ said s (core_text members s refuted.assumed places))

-- a check with these assumptions decides
abbrev pub DecidesAssuming : State → List Assumption → CommandEffect → Type 0
DecidesAssuming s assumed e = (v : Verdict) × ComesTo (context_of s) (asked s assumed) (budget s.options) v × (e ≡ decided s None assumed v)

-- what an accepted command does, where it is the check of this number, if it is a check
abbrev pub Does : State → ℕ → Command → CommandEffect → Type 0
Does s number (set_logic name) e = e ≡ quiet s
Does s number (set_option setting) e = e ≡ quiet (record s { options = with_setting s.options setting })
Does s number (set_diagnostic_output text) e = e ≡ quiet (record s { diagnostic_output = written text })
Does s number (get_option option) e = e ≡ said s (value_text s.options s.diagnostic_output option)
Does s number set_info e = e ≡ quiet s
Does s number (get_info info) e = e ≡ said s (info_text s info)
Does s number (declare_sort name params) e = e ≡ quiet (changed s (declaring s.stack (with_free (declared s) name params)))
Does s number (define_sort name params body) e = Gives (synonym_body (declared s) params body) (λ sort. e ≡ quiet (changed s (declaring s.stack (with_synonym_of (declared s) name params sort))))
Does s number (declare_block family heads bodies) e = (later : Declarations) × IsWithTypes (declared s) family heads bodies later × (e ≡ quiet (changed s (declaring s.stack later)))
Does s number (declare_fun name args sort) e =
    GivesNeeding (λ d. declared_function d name args sort) (declared s) (λ later f. e ≡ quiet (changed s (declaring s.stack (with_function later f))))
Does s number (define_fun name params sort t) e =
    GivesNeeding (λ d. defined_function d name params sort t) (declared s) (λ later f.
    e ≡ quiet (changed s (in_context s.stack (defined_in (over (context_of s) later) f))))
Does s number (assert t label) e =
    GivesNeeding (λ d. asserted_formula d t) (declared s) (λ later formula. e ≡ quiet (asserted s (declaring s.stack later) label formula))
Does s number check_sat e = (v : Verdict) × ComesTo (context_of s) (in_force s.stack) (budget s.options) v × (e ≡ decided s (Some number) [] v)
Does s number (check_sat_assuming ts) e =
    GivesNeeding (λ d. assumptions d ts) (declared s) (λ later assumed. DecidesAssuming (with_declarations s later) assumed e)
Does s number (push n) e = e ≡ quiet (changed s (pushed_by n s.stack))
Does s number (pop n) e = e ≡ quiet (cut_back s (popped_by s.options.global_declarations n s.stack))
Does s number reset_assertions e = e ≡ quiet (cut_back s (emptied s.options.global_declarations s.stack))
Does s number reset e = e ≡ quiet (starting s.options.first_error_behavior)
Does s number get_model e = OfKept (model_kept s.kept) (λ i. (text : List ℕ) × IsModelText (declared s) i text × (e ≡ said s text))
Does s number (get_value ts) e = OfKept (model_kept s.kept) (λ i. (text : List ℕ) × AreValues (context_of s) i ts text × (e ≡ said s text))
Does s number get_proof e = OfKept (derivation_kept s.kept) (λ kept. e ≡ said s (text_of (expression_of_record (declared s) kept.0 kept.1.rec)))
Does s number get_unsat_core e = OfKept (refuted_kept s.kept) (λ refuted. PrintsCore s members.Names refuted e)
Does s number get_unsat_assumptions e = OfKept (assuming_kept s.kept) (λ refuted. PrintsCore s members.Assumptions refuted e)
Does s number (echo x) e = e ≡ said s (written x)
Does s number exit e = e ≡ record (quiet s) { stop = true }
Does s number unsupported e = e ≡ said s unsupported_text

-- the command is refused
abbrev pub IsRefused : State → ℕ → Command → CommandEffect → Type 0
IsRefused s line c e = (n : ℕ) × IsRefusal s c n × (e ≡ refused s line n)

-- the command is accepted
abbrev pub IsAccepted : State → ℕ → Command → CommandEffect → Type 0
IsAccepted s number c e = ((n : ℕ) → IsRefusal s c n → ⊥) × Does s number c e

-- what an expression on a line does: it has no form, or is a command that is refused or accepted
abbrev pub Steps : State → ℕ → ℕ → Read → CommandEffect → Type 0
Steps s number line (Err n) e = e ≡ refused s line n
Steps s number line (Ok c) e = IsRefused s line c e ⊎ IsAccepted s number c e

-- one more, up to the greatest number that is counted
abbrev pub one_more : ℕ → ℕ
one_more number = if nat_lt number most_decisions then number + 1 else number

-- how many checks there were, with this command
abbrev pub counted_with : ℕ → Command → ℕ
counted_with number check_sat = one_more number
counted_with number c = number

abbrev pub counted_by : ℕ → Read → ℕ
counted_by number (Err n) = number
counted_by number (Ok c) = counted_with number c

-- how many checks there were, with this expression
abbrev pub counted : ℕ → Expression → ℕ
counted number e = counted_by number (command e)

-- what an expression does in a state, after so many checks
abbrev pub Step : State → ℕ → ℕ → Expression → CommandEffect → Type 0
Step s number line e effect = Steps s (counted number e) line (command e) effect
