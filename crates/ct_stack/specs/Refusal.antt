-- When a command is refused, and with which error: of the causes of its line, in their order, the first that applies.
use Rattle.std.specs.Prelude.{◌≡◌, ◌⊎◌, ℕ, ◌+◌, ◌<◌, ◌≤◌, true, false, List, [], ◌∷◌, ◌++◌, length, map, Contains, Option, None, Some}
use Rattle.ct_sexpr.specs.Expression.{Expression}
use Rattle.ct_sorts.specs.Availability.{IsUnavailable, IsUnavailableSort}
use Rattle.ct_sorts.specs.Block.{IsBlockRefusal}
use Rattle.ct_sorts.specs.Declarations.{Declarations, declared_names, symbol_names, most_sorts, most_functions, most_definitions}
use Rattle.ct_sorts.specs.Limits.{sort_count}
use Rattle.ct_generics.specs.declared.decl.SortDecl.{SortDecl}
use Rattle.ct_generics.specs.Text.{text_length, most_text}
use Rattle.ct_sorts.specs.Refusals.{IsFirstCause, IsNone, name_taken, symbol_taken, too_many}
use Rattle.ct_terms.specs.Terms.{most_terms}
use Rattle.ct_terms.specs.CoreTree.{CoreTree, subtrees}
use Rattle.ct_formulas.specs.Formula.{Formula}
use Rattle.ct_closure.specs.Closed.{AreDifferent, truth_trees}
use Rattle.ct_names.specs.Outcome.{Outcome, Elaborated, Sorted}
use Rattle.ct_names.specs.Refusals.{out_of_scope, repeated_variable}
use Rattle.ct_names.specs.Variables.{has_repeated}
use Rattle.ct_names.specs.Needs.{ComesTo, ends_with}
use Rattle.ct_command.specs.declared.command.Family.{Family}
use Rattle.ct_command.specs.Command.{Named, SortHead, Body}
use Rattle.ct_stack.specs.Numbers.{counts_differ, too_many_terms, above_levels, too_many_levels, most_levels}
use Rattle.ct_stack.specs.Stack.{Context, Stack, in_force, core, cores, context_with, asserted_as}
use Rattle.ct_stack.specs.Outcomes.{IsErrorOr}
use Rattle.ct_stack.specs.Elaborations.{kind_of, are_counted, have_repeated_parameter, AreDecls, synonym_body, declared_function, defined_function, asserted_formula, valued_terms}

-- `true`, `false` and all subterms of these core terms are more different terms than there may be
pub record HasManyTerms (roots : List CoreTree) : Type 0 where
  pub terms : List CoreTree
  pub different : AreDifferent terms
  pub inside : (t : CoreTree) → Contains terms t → (root : CoreTree) × Contains (truth_trees ++ roots) root × Contains (subtrees root) t
  pub many : most_terms < length terms

-- an uninterpreted sort, with arguments or without
abbrev pub IsSortRefusal : Declarations → List ℕ → ℕ → Type 0
IsSortRefusal d name =
    IsFirstCause name_taken (IsUnavailableSort (declared_names d) name)
    (IsFirstCause too_many (most_sorts ≤ sort_count d) IsNone)

-- a synonym of a sort
abbrev pub IsSynonymRefusal : Declarations → List ℕ → List (List ℕ) → Expression → ℕ → Type 0
IsSynonymRefusal d name params body =
    IsFirstCause name_taken (IsUnavailableSort (declared_names d) name)
    (IsFirstCause repeated_variable (has_repeated params ≡ true)
    (IsErrorOr (synonym_body d params body) (λ e.
    IsFirstCause too_many ((most_text < text_length d.declared.heads e) ⊎ (most_sorts ≤ sort_count d)) IsNone)))

-- some sort of a field has the form of no sort
abbrev pub HasFormlessField : List SortHead → List Body → Type 0
HasFormlessField heads bodies = (block : List SortDecl) → AreDecls heads bodies block → ⊥

-- what the block declares is refused with this number
abbrev pub IsRefusedBlock : Declarations → Family → List SortHead → List Body → ℕ → Type 0
IsRefusedBlock d family heads bodies n = (block : List SortDecl) × AreDecls heads bodies block × IsBlockRefusal d (kind_of family) block n

-- a block of datatypes or codatatypes
abbrev pub IsTypesRefusal : Declarations → Family → List SortHead → List Body → ℕ → Type 0
IsTypesRefusal d family heads bodies =
    IsFirstCause counts_differ (are_counted heads bodies ≡ false)
    (IsFirstCause repeated_variable (have_repeated_parameter bodies ≡ true)
    (IsFirstCause out_of_scope (HasFormlessField heads bodies)
    (IsRefusedBlock d family heads bodies)))

-- The number is that of the error of a step that adds the sorts that it needs, or is what refuses its value over the declarations
-- with these sorts.
abbrev pub IsErrorNeeding : {X : Type 0} → (Declarations → Elaborated X) → Declarations → (Declarations → X → ℕ → Type 0) → ℕ → Type 0
IsErrorNeeding {X} step d later_refusal n = (later : Declarations) × (outcome : Outcome X) × ComesTo step d later outcome × IsErrorOr outcome (later_refusal later) n

-- a function
abbrev pub IsFunctionRefusal : Declarations → List ℕ → List Expression → Expression → ℕ → Type 0
IsFunctionRefusal d name args sort =
    IsFirstCause symbol_taken (IsUnavailable (symbol_names d) name)
    (IsErrorNeeding (λ e. declared_function e name args sort) d (λ later f.
    IsFirstCause too_many (most_functions ≤ length later.functions) IsNone))

-- a definition
abbrev pub IsDefinitionRefusal : Declarations → List ℕ → List Named → Expression → Expression → ℕ → Type 0
IsDefinitionRefusal d name params sort t =
    IsFirstCause symbol_taken (IsUnavailable (symbol_names d) name)
    (IsErrorNeeding (λ e. defined_function e name params sort t) d (λ later f.
    IsFirstCause too_many (most_definitions ≤ length later.definitions) IsNone))

-- the context with these declarations
abbrev pub over : Context → Declarations → Context
over c d = record c { declarations = d }

-- the name of the label is taken, or cannot be declared
abbrev pub IsTakenLabel : Declarations → Option (List ℕ) → Type 0
IsTakenLabel d None = ⊥
IsTakenLabel d (Some name) = IsUnavailable (symbol_names d) name

-- there is no room for the definition that the label makes
abbrev pub HasNoRoomForLabel : Declarations → Option (List ℕ) → Type 0
HasNoRoomForLabel d None = ⊥
HasNoRoomForLabel d (Some name) = most_definitions ≤ length d.definitions

-- the core terms of these assertions with those of one more, which has this label, are too many
abbrev pub HasManyWith : List Formula → Context → Option (List ℕ) → Formula → Type 0
HasManyWith before c label t = HasManyTerms (cores (context_with c label t) before ++ core (context_with c label t) (asserted_as c label t) ∷ [])

-- the label or its definition is refused, or the core terms with those of the assertion are too many
abbrev pub IsLabelledRefusal : List Formula → Context → Option (List ℕ) → Formula → ℕ → Type 0
IsLabelledRefusal before c label t =
    IsFirstCause symbol_taken (IsTakenLabel c.declarations label)
    (IsFirstCause too_many (HasNoRoomForLabel c.declarations label)
    (IsFirstCause too_many_terms (HasManyWith before c label t) IsNone))

-- an assertion with this label, after these
abbrev pub IsAssertedRefusal : Context → List Formula → Option (List ℕ) → Expression → ℕ → Type 0
IsAssertedRefusal c before label t =
    IsErrorNeeding (λ d. asserted_formula d t) c.declarations (λ later formula. IsLabelledRefusal before (over c later) label formula)

-- an assertion with this label, after those in force
abbrev pub IsAssertionRefusal : Stack → Option (List ℕ) → Expression → ℕ → Type 0
IsAssertionRefusal stack = IsAssertedRefusal stack.top.context (in_force stack)

-- the formulas of terms
abbrev pub formula_list : List Sorted → List Formula
formula_list terms = map (λ (t : Sorted). t.0) terms

-- terms whose values are asked, beside these core terms
abbrev pub IsTermsRefusal : Context → List CoreTree → List Expression → ℕ → Type 0
IsTermsRefusal c roots ts =
    IsErrorOr (ends_with out_of_scope (valued_terms c.declarations ts)) (λ terms.
    IsFirstCause too_many_terms (HasManyTerms (roots ++ cores c (formula_list terms))) IsNone)

-- so many levels more
abbrev pub IsPushRefusal : Stack → ℕ → ℕ → Type 0
IsPushRefusal s n = IsFirstCause too_many_levels (most_levels < length s.below + n) IsNone

-- so many levels fewer
abbrev pub IsPopRefusal : Stack → ℕ → ℕ → Type 0
IsPopRefusal s n = IsFirstCause above_levels (length s.below < n) IsNone
