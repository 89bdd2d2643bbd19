-- The loops over arguments, bindings and cases: the next item, where its term stops, and where it has a sort.
use Rattle.std.proofs.Common.{◌≡◌, ℕ, zero, suc, ◌+◌, ◌<◌, ◌≤◌, true, false, List, [], ◌∷◌, ◌++◌, length, take, drop, get_or, Ok, Err, refl, sym, ◌∙◌, ap, subst, arith}
use Rattle.std.proofs.lemmas.List.{take-append-drop}
use Rattle.ct_sexpr.specs.declared.sexpr.Sexpr.{Sexpr}
use Rattle.ct_sexpr.specs.View.{expression_of}
use Rattle.ct_sorts.specs.declared.ids.SortId.{SortId}
use Rattle.ct_sorts.specs.Consistent.{IsConsistent}
use Rattle.ct_sorts.specs.Declarations.{Declarations, IsSort}
use Rattle.ct_formulas.specs.declared.tree.Tree.{Tree}
use Rattle.ct_formulas.specs.Formula.{Formulas, bind}
use Rattle.ct_formulas.specs.TreeFormula.{formulas_of_trees}
use Rattle.ct_names.specs.declared.needs.Needs.{Needs}
use Rattle.ct_names.specs.declared.stop.Stop.{Stop}
use Rattle.ct_names.specs.Answer.{StopsAt}
use Rattle.ct_names.specs.Needs.{Reaches}
use Rattle.ct_names.specs.Outcome.{Halt, Sorted, step, refused}
use Rattle.ct_names.specs.Refusals.{wrong_sort, out_of_scope}
use Rattle.ct_names.specs.Patterns.{Binding, pattern}
use Rattle.ct_names.specs.Variables.{Variable, ScopeIn}
use Rattle.ct_names.specs.Elaboration.{Checked, elaborated, part_of, goes_with}
use Rattle.ct_names.proofs.PartLemmas.{take_item}
use Rattle.ct_check.specs.declared.expected.Expected.{Expected}
use Rattle.ct_check.specs.Expected.{expectation_of, next_expected, arguments_of, IsExpectation}
use Rattle.ct_check.specs.Trees.{sorted_of, sorted_trees, sorted_list, checked_of}
use Rattle.ct_check.proofs.ArgumentSteps as arguments
use Rattle.ct_check.proofs.ArgumentSteps.{formulas_push, with_next}
use Rattle.ct_check.proofs.BindingLemmas as bindings
use Rattle.ct_check.proofs.BindingLemmas.{IsPair, sorted_trees-push}
use Rattle.ct_check.proofs.CaseLemmas as cases
use Rattle.ct_check.proofs.OtherForms.{is_pair}
use Rattle.ct_check.proofs.StepLemmas.{stops_with, reaches_with}

-- all, where no item is left
pub all_taken : {X : Type 0} (xs : List X) (i : ℕ) → length xs ≤ i → take i xs ≡ xs
all_taken [] zero h = refl
all_taken [] (suc i) h = refl
all_taken (x ∷ xs) zero h = absurd (omega (arith, h))
all_taken (x ∷ xs) (suc i) h = ap (λ ys. x ∷ ys) (all_taken xs i (omega (arith, h)))

-- ---- arguments

module _ (needs : Needs) (scope outer : List Variable) (back : outer ≡ scope) (x : Expected) (first now later : Declarations) (c : IsConsistent first) (cn : IsConsistent now) (inside : ScopeIn first scope) (is : IsExpectation first x) (met : Expected) (is_met : IsExpectation now met)
    (all : List Sexpr) (i : ℕ) (e : Sexpr) (h : i < length all) (at : e ≡ get_or all i e) (trees : List Tree)
    (value : arguments.so_far scope x (take i all) now ≡ Ok (formulas_of_trees trees, expectation_of now met)) (reaches : Reaches (arguments.so_far scope x (take i all)) first now)
    (next : Reaches (λ n. elaborated n outer (expression_of e)) now later) where
  abbrev us : Formulas
  us = formulas_of_trees trees

  here : Reaches (λ n. elaborated n scope (expression_of e)) now later
  here = subst (λ (s : List Variable). Reaches (λ n. elaborated n s (expression_of e)) now later) back next

  argument_reached : Reaches (arguments.so_far scope x (take i all ++ e ∷ [])) first later
  argument_reached = arguments.more_reached scope x first now c cn inside is met is_met (take i all) us value reaches e later here

  pub arguments_reach : Reaches (arguments.so_far scope x all) first later
  arguments_reach = reaches_with (arguments.so_far scope x (take i all ++ e ∷ [])) (arguments.so_far scope x all) first later (λ d k _ f. arguments.all_stop scope x (take i all ++ e ∷ []) (drop (i + 1) all) all (with_next all i e h at) d k f) argument_reached

  argument_stop : (k : Halt) → arguments.so_far scope x (take i all ++ e ∷ []) later ≡ Err k → arguments.so_far scope x all later ≡ Err k
  argument_stop k f = arguments.all_stop scope x (take i all ++ e ∷ []) (drop (i + 1) all) all (with_next all i e h at) later k f

  -- its term stops
  pub argument_stops : (error : Stop) → StopsAt needs later sorted_of (elaborated later outer (expression_of e)) (Err error) → StopsAt needs later (arguments_of later) (arguments.so_far scope x all later) (Err error)
  argument_stops error stops =
      stops_with needs later sorted_of (arguments_of later) (elaborated later outer (expression_of e)) (arguments.so_far scope x all later) error
      (λ k f. argument_stop k (arguments.more_stop scope x first now c cn inside is met is_met (take i all) us value reaches e later here k (ap (λ (s : List Variable). elaborated later s (expression_of e)) (sym back) ∙ f))) stops

  module _ (t : Tree × SortId) (means : elaborated later outer (expression_of e) ≡ Ok (sorted_of t)) where
    own : elaborated later scope (expression_of e) ≡ Ok (sorted_of t)
    own = ap (λ (s : List Variable). elaborated later s (expression_of e)) (sym back) ∙ means

    -- its sort is not expected
    pub argument_unmet : (error : Stop) → StopsAt needs later (expectation_of later) (step (next_expected later (expectation_of later met) t.1)) (Err error) → StopsAt needs later (arguments_of later) (arguments.so_far scope x all later) (Err error)
    argument_unmet error stops =
        stops_with needs later (expectation_of later) (arguments_of later) (step (next_expected later (expectation_of later met) t.1)) (arguments.so_far scope x all later) error
        (λ k f. argument_stop k (arguments.after_stop scope x first now c cn inside is met is_met (take i all) us value reaches e later here (sorted_of t) k own f)) stops

    -- it is
    pub argument_met : (y : Expected) → step (next_expected later (expectation_of later met) t.1) ≡ Ok (expectation_of later y) → arguments.so_far scope x (take (i + 1) all) later ≡ Ok (formulas_of_trees (trees ++ t.0 ∷ []), expectation_of later y)
    argument_met y f =
        ap (λ (xs : List Sexpr). arguments.so_far scope x xs later) (take_item all i e h at)
        ∙ arguments.after_met scope x first now c cn inside is met is_met (take i all) us value reaches e later here (sorted_of t) (expectation_of later y) own f
        ∙ ap (λ (fs : Formulas). Ok (fs, expectation_of later y)) (formulas_push trees t.0)

  pub argument_reaches : Reaches (arguments.so_far scope x (take (i + 1) all)) first later
  argument_reaches = subst (λ (xs : List Sexpr). Reaches (arguments.so_far scope x xs) first later) (sym (take_item all i e h at)) argument_reached

-- ---- bindings

module _ (needs : Needs) (scope outer : List Variable) (back : outer ≡ scope) (first now : Declarations) (c : IsConsistent first) (cn : IsConsistent now) (inside : ScopeIn first scope)
    (all : List Sexpr) (i : ℕ) (b : Sexpr) (h : i < length all) (at : b ≡ get_or all i b) (trees : List Tree) (sorts : List SortId) (long : length trees ≡ length sorts)
    (value : bindings.so_far scope (take i all) now ≡ Ok (sorted_trees trees sorts)) (reaches : Reaches (bindings.so_far scope (take i all)) first now) where
  binding_stop : (d : Declarations) (k : Halt) → bindings.so_far scope (take i all ++ b ∷ []) d ≡ Err k → bindings.so_far scope all d ≡ Err k
  binding_stop d k f = bindings.all_stop scope (take i all ++ b ∷ []) (drop (i + 1) all) all (with_next all i b h at) d k f

  -- a binding that is no list of two
  pub binding_other : is_pair (part_of now (expression_of b)) ≡ false → bindings.so_far scope all now ≡ Err (refused out_of_scope)
  binding_other other = binding_stop now (refused out_of_scope) (bindings.other_stop scope first now c cn inside (take i all) (sorted_trees trees sorts) value reaches b other)

  -- those so far stop nothing
  pub bindings_so_far : Reaches (bindings.so_far scope all) first now
  bindings_so_far = reaches_with (bindings.so_far scope (take i all)) (bindings.so_far scope all) first now (λ d k _ f. bindings.all_stop scope (take i all) (drop i all) all (sym (take-append-drop i all)) d k f) reaches

  module _ (x t : Sexpr) (pair : IsPair b x t) (later : Declarations) (next : Reaches (λ n. elaborated n outer (expression_of t)) now later) where
    bound_here : Reaches (λ n. elaborated n scope (expression_of t)) now later
    bound_here = subst (λ (s : List Variable). Reaches (λ n. elaborated n s (expression_of t)) now later) back next

    binding_reached : Reaches (bindings.so_far scope (take i all ++ b ∷ [])) first later
    binding_reached = bindings.more_reached scope first now c cn inside (take i all) (sorted_trees trees sorts) value reaches b x t pair later bound_here

    pub bindings_reach : Reaches (bindings.so_far scope all) first later
    bindings_reach = reaches_with (bindings.so_far scope (take i all ++ b ∷ [])) (bindings.so_far scope all) first later (λ d k _ f. binding_stop d k f) binding_reached

    pub binding_stops : (error : Stop) → StopsAt needs later sorted_of (elaborated later outer (expression_of t)) (Err error) → StopsAt needs later sorted_list (bindings.so_far scope all later) (Err error)
    binding_stops error stops =
        stops_with needs later sorted_of sorted_list (elaborated later outer (expression_of t)) (bindings.so_far scope all later) error
        (λ k f. binding_stop later k (bindings.more_stop scope first now c cn inside (take i all) (sorted_trees trees sorts) value reaches b x t pair later bound_here k (ap (λ (s : List Variable). elaborated later s (expression_of t)) (sym back) ∙ f))) stops

    pub binding_met : (u : Tree × SortId) → elaborated later outer (expression_of t) ≡ Ok (sorted_of u) → bindings.so_far scope (take (i + 1) all) later ≡ Ok (sorted_trees (trees ++ u.0 ∷ []) (sorts ++ u.1 ∷ []))
    binding_met u means =
        ap (λ (xs : List Sexpr). bindings.so_far scope xs later) (take_item all i b h at)
        ∙ bindings.more_met scope first now c cn inside (take i all) (sorted_trees trees sorts) value reaches b x t pair later bound_here (sorted_of u) (ap (λ (s : List Variable). elaborated later s (expression_of t)) (sym back) ∙ means)
        ∙ ap (λ (us : List Sorted). Ok us) (sym (sorted_trees-push trees sorts u.0 u.1 long))

    pub binding_reaches : Reaches (bindings.so_far scope (take (i + 1) all)) first later
    binding_reaches = subst (λ (xs : List Sexpr). Reaches (bindings.so_far scope xs) first later) (sym (take_item all i b h at)) binding_reached

-- ---- cases

module _ (needs : Needs) (scope : List Variable) (side : SortId) (first now : Declarations) (c : IsConsistent first) (cn : IsConsistent now) (inside : ScopeIn first scope) (there : IsSort first side)
    (all : List Sexpr) (i : ℕ) (b : Sexpr) (h : i < length all) (at : b ≡ get_or all i b) (checked : Checked)
    (value : cases.so_far scope side (take i all) now ≡ Ok checked) (reaches : Reaches (cases.so_far scope side (take i all)) first now) where
  case_stop : (d : Declarations) (k : Halt) → cases.so_far scope side (take i all ++ b ∷ []) d ≡ Err k → cases.so_far scope side all d ≡ Err k
  case_stop d k f = cases.all_stop scope side (take i all ++ b ∷ []) (drop (i + 1) all) all (with_next all i b h at) d k f

  -- a case that is no list of two
  pub case_other : is_pair (part_of now (expression_of b)) ≡ false → cases.so_far scope side all now ≡ Err (refused out_of_scope)
  case_other other = case_stop now (refused out_of_scope) (cases.other_stop scope side first now c cn inside there (take i all) checked value reaches b other)

  pub cases_so_far : Reaches (cases.so_far scope side all) first now
  cases_so_far = reaches_with (cases.so_far scope side (take i all)) (cases.so_far scope side all) first now (λ d k _ f. cases.all_stop scope side (take i all) (drop i all) all (sym (take-append-drop i all)) d k f) reaches

  module _ (p t : Sexpr) (pair : IsPair b p t) where
    -- its pattern is refused
    pub pattern_stops : (k : Halt) → step (pattern now side (part_of now (expression_of p))) ≡ Err k → cases.so_far scope side all now ≡ Err k
    pattern_stops k f = case_stop now k (cases.pattern_stop scope side first now c cn inside there (take i all) checked value reaches b p t pair k f)

    module _ (binding : Binding) (fits : step (pattern now side (part_of now (expression_of p))) ≡ Ok binding) (inner : List Variable) (same : inner ≡ bind binding.1 scope) (later : Declarations) (next : Reaches (λ n. elaborated n inner (expression_of t)) now later) where
      case_here : Reaches (λ n. elaborated n (bind binding.1 scope) (expression_of t)) now later
      case_here = subst (λ (s : List Variable). Reaches (λ n. elaborated n s (expression_of t)) now later) same next

      case_reached : Reaches (cases.so_far scope side (take i all ++ b ∷ [])) first later
      case_reached = cases.more_reached scope side first now c cn inside there (take i all) checked value reaches b p t pair binding fits later case_here

      pub cases_reach : Reaches (cases.so_far scope side all) first later
      cases_reach = reaches_with (cases.so_far scope side (take i all ++ b ∷ [])) (cases.so_far scope side all) first later (λ d k _ f. case_stop d k f) case_reached

      -- its term stops
      pub case_stops : (error : Stop) → StopsAt needs later sorted_of (elaborated later inner (expression_of t)) (Err error) → StopsAt needs later checked_of (cases.so_far scope side all later) (Err error)
      case_stops error stops =
          stops_with needs later sorted_of checked_of (elaborated later inner (expression_of t)) (cases.so_far scope side all later) error
          (λ k f. case_stop later k (cases.more_stop scope side first now c cn inside there (take i all) checked value reaches b p t pair binding fits later case_here k (ap (λ (s : List Variable). elaborated later s (expression_of t)) (sym same) ∙ f))) stops

      module _ (u : Tree × SortId) (means : elaborated later inner (expression_of t) ≡ Ok (sorted_of u)) where
        case_means : elaborated later (bind binding.1 scope) (expression_of t) ≡ Ok (sorted_of u)
        case_means = ap (λ (s : List Variable). elaborated later s (expression_of t)) (sym same) ∙ means

        -- its term has another sort
        pub case_unmet : goes_with checked.sort u.1 ≡ false → cases.so_far scope side all later ≡ Err (refused wrong_sort)
        case_unmet goes = case_stop later (refused wrong_sort) (cases.sort_stop scope side first now c cn inside there (take i all) checked value reaches b p t pair binding fits later case_here (sorted_of u) case_means goes)

        pub case_met : goes_with checked.sort u.1 ≡ true → cases.so_far scope side (take (i + 1) all) later ≡ Ok (cases.with_last checked binding.0 (sorted_of u))
        case_met goes =
            ap (λ (xs : List Sexpr). cases.so_far scope side xs later) (take_item all i b h at)
            ∙ cases.more_met scope side first now c cn inside there (take i all) checked value reaches b p t pair binding fits later case_here (sorted_of u) case_means goes

      pub case_reaches : Reaches (cases.so_far scope side (take (i + 1) all)) first later
      case_reaches = subst (λ (xs : List Sexpr). Reaches (cases.so_far scope side xs) first later) (sym (take_item all i b h at)) case_reached
