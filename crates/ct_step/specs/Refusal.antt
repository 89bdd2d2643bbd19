-- When a command is refused, and with which error: of the causes of its line, in their order, the first that applies.
use Rattle.std.specs.Prelude.{◌≡◌, ◌≢◌, ℕ, true, List, None}
use Rattle.ct_sexpr.specs.Expression.{Expression}
use Rattle.ct_sorts.specs.Refusals.{IsFirstCause, IsNone}
use Rattle.ct_closure.specs.Closed.{HasMoreThan, most_closure_terms}
use Rattle.ct_command.specs.declared.option.Setting.{Setting}
use Rattle.ct_command.specs.Command.{Command, set_logic, set_option, set_diagnostic_output, get_option, set_info, get_info, declare_sort, define_sort, declare_block, declare_fun, define_fun, assert, check_sat, check_sat_assuming, push, pop, reset_assertions, reset, get_model, get_value, get_proof, get_unsat_core, get_unsat_assumptions, echo, exit, unsupported}
use Rattle.ct_stack.specs.Stack.{Stack, first_stack, in_force, cores, declaring}
use Rattle.ct_stack.specs.Assuming.{Assumption, assumptions, assuming}
use Rattle.ct_stack.specs.Numbers.{too_many_terms}
use Rattle.ct_stack.specs.Refusal.{HasManyTerms, IsErrorNeeding, IsSortRefusal, IsSynonymRefusal, IsTypesRefusal, IsFunctionRefusal, IsDefinitionRefusal, IsAssertionRefusal, IsTermsRefusal, IsPushRefusal, IsPopRefusal}
use Rattle.ct_step.specs.Logics.{IsLogic}
use Rattle.ct_step.specs.Numbers.{closure_too_large, no_model, no_derivation, not_now, unknown_logic}
use Rattle.ct_step.specs.Options.{sets_global}
use Rattle.ct_step.specs.State.{State, context_of, declared, model_kept, derivation_kept, refuted_kept, assuming_kept}

abbrev pub IsLogicRefusal : List ℕ → ℕ → Type 0
IsLogicRefusal name = IsFirstCause unknown_logic (IsLogic name → ⊥) IsNone

-- to which level declarations belong is set before anything is declared, defined or asserted and before a level is added
abbrev pub IsOptionRefusal : State → Setting → ℕ → Type 0
IsOptionRefusal s setting = IsFirstCause not_now ((sets_global setting ≡ true) × (s.stack ≢ first_stack)) IsNone

-- a check of the assertions in force
abbrev pub IsCheckRefusal : Stack → ℕ → Type 0
IsCheckRefusal stack =
    IsFirstCause closure_too_large (HasMoreThan stack.top.context.declarations (cores stack.top.context (in_force stack)) most_closure_terms) IsNone

-- what asks for the model
abbrev pub IsModelRefusal : State → ℕ → Type 0
IsModelRefusal s = IsFirstCause no_model (model_kept s.kept ≡ None) IsNone

-- the values of terms in the model
abbrev pub IsValueRefusal : State → List Expression → ℕ → Type 0
IsValueRefusal s ts =
    IsFirstCause no_model (model_kept s.kept ≡ None) (IsTermsRefusal (context_of s) (cores (context_of s) (in_force s.stack)) ts)

-- a check of the assertions in force with these assumptions, by the core terms of all together
abbrev pub IsTooLarge : Stack → List Assumption → ℕ → Type 0
IsTooLarge stack assumed =
    IsFirstCause too_many_terms (HasManyTerms (cores stack.top.context (assuming stack assumed)))
    (IsFirstCause closure_too_large (HasMoreThan stack.top.context.declarations (cores stack.top.context (assuming stack assumed)) most_closure_terms) IsNone)

-- the same with what these terms assume, of which the first error counts by place, over the declarations that have the sorts which they
-- need
abbrev pub IsAssumingRefusal : Stack → List Expression → ℕ → Type 0
IsAssumingRefusal stack ts =
    IsErrorNeeding (λ d. assumptions d ts) stack.top.context.declarations (λ later. IsTooLarge (declaring stack later))

-- what asks for the derivation
abbrev pub IsProofRefusal : State → ℕ → Type 0
IsProofRefusal s = IsFirstCause no_derivation (derivation_kept s.kept ≡ None) IsNone

-- what asks for the core of the derivation: names of assertions, or assumptions
abbrev pub IsCoreRefusal : State → ℕ → Type 0
IsCoreRefusal s = IsFirstCause no_derivation (refuted_kept s.kept ≡ None) IsNone

abbrev pub IsAssumptionsRefusal : State → ℕ → Type 0
IsAssumptionsRefusal s = IsFirstCause no_derivation (assuming_kept s.kept ≡ None) IsNone

-- the command is refused with the error of this number
abbrev pub IsRefusal : State → Command → ℕ → Type 0
IsRefusal s (set_logic name) = IsLogicRefusal name
IsRefusal s (set_option setting) = IsOptionRefusal s setting
IsRefusal s (set_diagnostic_output text) = IsNone
IsRefusal s (get_option option) = IsNone
IsRefusal s set_info = IsNone
IsRefusal s (get_info info) = IsNone
IsRefusal s (declare_sort name params) = IsSortRefusal (declared s) name
IsRefusal s (define_sort name params body) = IsSynonymRefusal (declared s) name params body
IsRefusal s (declare_block family heads bodies) = IsTypesRefusal (declared s) family heads bodies
IsRefusal s (declare_fun name args sort) = IsFunctionRefusal (declared s) name args sort
IsRefusal s (define_fun name params sort t) = IsDefinitionRefusal (declared s) name params sort t
IsRefusal s (assert t label) = IsAssertionRefusal s.stack label t
IsRefusal s check_sat = IsCheckRefusal s.stack
IsRefusal s (check_sat_assuming ts) = IsAssumingRefusal s.stack ts
IsRefusal s (push n) = IsPushRefusal s.stack n
IsRefusal s (pop n) = IsPopRefusal s.stack n
IsRefusal s reset_assertions = IsNone
IsRefusal s reset = IsNone
IsRefusal s get_model = IsModelRefusal s
IsRefusal s (get_value ts) = IsValueRefusal s ts
IsRefusal s get_proof = IsProofRefusal s
IsRefusal s get_unsat_core = IsCoreRefusal s
IsRefusal s get_unsat_assumptions = IsAssumptionsRefusal s
IsRefusal s (echo e) = IsNone
IsRefusal s exit = IsNone
IsRefusal s unsupported = IsNone
