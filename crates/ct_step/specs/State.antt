-- What a script has declared, defined and asserted so far, at which level, with which labels, under which options, and what was answered last
-- (SMT-LIB 2.7, sections 4.1.4 and 4.2).
use Rattle.std.specs.Prelude.{ℕ, Bool, true, false, List, [], ◌∷◌, ◌++◌, length, take, Option, None, Some, option_map, option_and_then}
use Rattle.ct_sorts.specs.Declarations.{Declarations}
use Rattle.ct_eval.specs.declared.interp.Interp.{Interp}
use Rattle.ct_log.specs.Recorded.{Derived}
use Rattle.ct_command.specs.declared.option.ErrorBehavior.{ErrorBehavior}
use Rattle.ct_command.specs.declared.option.ErrorBehavior.TheVariants.{ContinuedExecution}
use Rattle.ct_engine.specs.declared.verdict.Verdict.{Verdict}
use Rattle.ct_engine.specs.declared.verdict.Verdict.TheVariants.{Sat, Unsat, Unknown}
use Rattle.ct_formulas.specs.Formula.{Formula}
use Rattle.ct_stack.specs.Stack.{Context, Stack, first_stack, in_force, declaring, asserting_as}
use Rattle.ct_stack.specs.Assuming.{Assumption, assuming}
use Rattle.ct_step.specs.declared.options.Options.{Options}
use Rattle.ct_step.specs.Options.{first_options, standard_error}

-- the verdict that was answered last, and what its check assumed beside the assertions in force; where it was a check without
-- assumptions, its number among all such checks, from 1
pub record Kept : Type 0 where
  pub verdict : Verdict
  pub assumed : List Assumption
  pub number : Option ℕ

pub record State : Type 0 where
  pub stack : Stack
  -- for each assertion in force, in order, the name by which it is labelled, where it has one
  pub labels : List (Option (List ℕ))
  pub options : Options
  -- the diagnostic channel, as it is written
  pub diagnostic_output : List ℕ
  -- the verdict that was answered last, as long as nothing has changed since
  pub kept : Option Kept

-- the state at the start, where this follows an error
abbrev pub starting : ErrorBehavior → State
starting behavior = record { stack = first_stack; labels = []; options = first_options behavior; diagnostic_output = standard_error; kept = None }

-- the same where a script goes on after an error
abbrev pub first_state : State
first_state = starting ContinuedExecution

-- what can be named now
abbrev pub context_of : State → Context
context_of s = s.stack.top.context

abbrev pub declared : State → Declarations
declared s = (context_of s).declarations

-- with these declarations
abbrev pub with_declarations : State → Declarations → State
with_declarations s d = record s { stack = declaring s.stack d }

-- with this stack; what was answered does not stand any more
abbrev pub changed : State → Stack → State
changed s stack = record s { stack = stack; kept = None }

-- with this stack, in which the first assertions are left
abbrev pub cut_back : State → Stack → State
cut_back s stack = record (changed s stack) { labels = take (length (in_force stack)) s.labels }

-- with one assertion more, which has this label, on this stack
abbrev pub asserted : State → Stack → Option (List ℕ) → Formula → State
asserted s stack label t = record (changed s (asserting_as stack label t)) { labels = s.labels ++ label ∷ [] }

-- the model of a verdict, where it has one
abbrev pub model_in : Verdict → Option Interp
model_in (Sat i) = Some i
model_in (Unsat derived) = None
model_in (Unknown spent) = None

-- the model that the last answer left, as long as it stands
abbrev pub model_kept : Option Kept → Option Interp
model_kept None = None
model_kept (Some kept) = model_in kept.verdict

-- the derivation of a verdict, where it has one
abbrev pub derivation_in : Verdict → Option Derived
derivation_in (Sat i) = None
derivation_in (Unsat derived) = Some derived
derivation_in (Unknown spent) = None

-- the number of the last check and the derivation that it left, as long as it stands, where it was one without assumptions
abbrev pub derivation_kept : Option Kept → Option (ℕ × Derived)
derivation_kept None = None
derivation_kept (Some kept) = option_and_then (λ number. option_map (λ derived. (number, derived)) (derivation_in kept.verdict)) kept.number

-- the derivation that the last check left, as long as it stands
abbrev pub derived_kept : Option Kept → Option Derived
derived_kept None = None
derived_kept (Some kept) = derivation_in kept.verdict

-- a derivation, and what its check assumed
pub record Refuted : Type 0 where
  pub derived : Derived
  pub assumed : List Assumption

-- the same with what the last check assumed
abbrev pub refuted_kept : Option Kept → Option Refuted
refuted_kept None = None
refuted_kept (Some kept) = option_map (λ derived. record { derived = derived; assumed = kept.assumed }) (derivation_in kept.verdict)

-- the same of a check with assumptions, even if these are none
abbrev pub unless_numbered : {X : Type 0} → Option ℕ → Option X → Option X
unless_numbered None x = x
unless_numbered (Some number) x = None

abbrev pub assuming_kept : Option Kept → Option Refuted
assuming_kept None = None
assuming_kept (Some kept) = unless_numbered kept.number (refuted_kept (Some kept))

-- what a check asked: the assertions in force, and then its assumptions
abbrev pub asked : State → List Assumption → List Formula
asked s assumed = assuming s.stack assumed

-- the verdict is printed as `unknown`
abbrev pub is_undecided : Verdict → Bool
is_undecided (Sat i) = false
is_undecided (Unsat derived) = false
is_undecided (Unknown spent) = true

-- the last answer was `unknown`, as long as it stands
abbrev pub undecided_kept : Option Kept → Bool
undecided_kept None = false
undecided_kept (Some kept) = is_undecided kept.verdict
