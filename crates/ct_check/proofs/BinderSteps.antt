-- `let` and `match`, step by step: what is reached, and what the whole comes to then.
use Rattle.std.proofs.Common.{◌≡◌, ℕ, List, length, Option, None, Ok, Err, sym, ◌∙◌, ap, subst}
use Rattle.ct_sexpr.specs.declared.sexpr.Sexpr.{Sexpr}
use Rattle.ct_sexpr.specs.View.{expression_of, expressions_of}
use Rattle.ct_sorts.specs.declared.ids.SortId.{SortId}
use Rattle.ct_sorts.specs.Consistent.{IsConsistent}
use Rattle.ct_sorts.specs.Declarations.{Declarations, IsSort}
use Rattle.ct_formulas.specs.declared.tree.Tree.{Tree}
use Rattle.ct_formulas.specs.Formula as formula
use Rattle.ct_formulas.specs.Formula.{Formulas, bind}
use Rattle.ct_formulas.specs.TreeFormula.{formulas_of_trees}
use Rattle.ct_names.specs.Needs.{Reaches, as_they_are}
use Rattle.ct_names.specs.Outcome.{Elaborated, Halt, Sorted, and_then, step}
use Rattle.ct_names.specs.Patterns.{Binding, pattern, matchable}
use Rattle.ct_names.specs.Variables.{Variable, ScopeIn, variables}
use Rattle.ct_names.specs.Elaboration.{elaborated, part_of, parts_of, checked_cases, exhausted, without_sorts, sorts_of}
use Rattle.ct_names.proofs.LastingLemmas.{AreSorts}
use Rattle.ct_names.proofs.NeedLemmas.{grows_itself, reaches_grows, reaches_same, reaches_first}
use Rattle.ct_names.proofs.StayLemmas.{ScopeIn-variables, stays_step}
use Rattle.ct_names.proofs.StayPatterns.{pattern_stays, matchable_stays}
use Rattle.ct_names.proofs.StayTerms.{elaborated_stays, bound_terms_stay, all_last}
use Rattle.ct_check.specs.Binders.{let_of_names}
use Rattle.ct_check.specs.Trees.{sorted_trees}
use Rattle.ct_check.proofs.BindingLemmas as bindings
use Rattle.ct_check.proofs.BindingLemmas.{formulas_of-sorted, sorts_of-sorted}
use Rattle.ct_check.proofs.StepLemmas.{Stands, next_is, next_reaches}

-- the sort of a term is there
pub term_inside : (d : Declarations) → IsConsistent d → (scope : List Variable) → ScopeIn d scope → (t : Sexpr) (u : Sorted) → elaborated d scope (expression_of t) ≡ Ok u → IsSort d u.1
term_inside d c scope inside t u e = (elaborated_stays d d (grows_itself d) c scope inside (expression_of t) u e).1

-- so are those of the variables of a pattern
pub pattern_variables : (d : Declarations) → IsConsistent d → (side : SortId) → IsSort d side → (p : Sexpr) (b : Binding) → pattern d side (part_of d (expression_of p)) ≡ Ok b → ScopeIn d b.1
pattern_variables d c side there p b e = (pattern_stays d d (grows_itself d) c side there (expression_of p) b e).1

-- ---- `let`

module _ (whole : Declarations → Elaborated Sorted) (scope : List Variable) (names : List (Option (List ℕ))) (bs : List Sexpr) (body : Sexpr) (named_is : (n : Declarations) → whole n ≡ let_of_names n scope names (parts_of n (expressions_of bs)) (part_of n (expression_of body))) (first now : Declarations) (reaches : Reaches (bindings.so_far scope bs) first now) where
  -- what follows the terms
  abbrev rest : Declarations → List Sorted → Elaborated Sorted
  rest n ts = and_then (elaborated n (bind (variables names (sorts_of ts)) scope) (expression_of body)) (λ u. Ok (formula.Let (without_sorts ts) u.0, u.1))

  pub let_terms : Reaches whole first now
  let_terms = reaches_same (λ n. and_then (bindings.so_far scope bs n) (rest n)) whole first now (λ n _. named_is n) (reaches_first (bindings.so_far scope bs) rest first now reaches)

  -- the terms stop
  pub let_stop : (h : Halt) → bindings.so_far scope bs now ≡ Err h → whole now ≡ Err h
  let_stop h e = named_is now ∙ ap (λ o. and_then o (rest now)) e

  module _ (c : IsConsistent first) (cn : IsConsistent now) (inside : ScopeIn first scope) (trees : List Tree) (sorts : List SortId) (long : length trees ≡ length sorts) (value : bindings.so_far scope bs now ≡ Ok (sorted_trees trees sorts)) where
    abbrev ts : List Sorted
    ts = sorted_trees trees sorts

    -- the variables that are bound have sorts that are there
    pub let_variables : ScopeIn now scope → ScopeIn now (variables names sorts)
    let_variables inside_now =
        ScopeIn-variables now names sorts
        (subst (AreSorts now) (sorts_of-sorted trees sorts long) (bound_terms_stay now now (grows_itself now) cn scope inside_now (expressions_of bs) (all_last now now (grows_itself now) cn (expressions_of bs)) ts value).1)

    stands : Stands (bindings.so_far scope bs) first now ts
    stands = bindings.stands scope first now c cn inside bs ts value reaches

    module _ (inner : List Variable) (same : inner ≡ bind (variables names sorts) scope) (later : Declarations) (next : Reaches (λ n. elaborated n inner (expression_of body)) now later) where
      inner_is : inner ≡ bind (variables names (sorts_of ts)) scope
      inner_is = same ∙ ap (λ (ss : List SortId). bind (variables names ss) scope) (sym (sorts_of-sorted trees sorts long))

      own : Reaches (λ n. elaborated n (bind (variables names (sorts_of ts)) scope) (expression_of body)) now later
      own = subst (λ (s : List Variable). Reaches (λ n. elaborated n s (expression_of body)) now later) inner_is next

      pub let_reached : Reaches whole first later
      let_reached =
          reaches_same (λ n. and_then (bindings.so_far scope bs n) (rest n)) whole first later (λ n _. named_is n)
          (next_reaches (bindings.so_far scope bs) rest first now ts stands later
          (reaches_first (λ n. elaborated n (bind (variables names (sorts_of ts)) scope) (expression_of body)) (λ n u. Ok (formula.Let (without_sorts ts) u.0, u.1)) now later own))

      pub let_is : whole later ≡ and_then (elaborated later inner (expression_of body)) (λ u. Ok (formula.Let (formulas_of_trees trees) u.0, u.1))
      let_is =
          named_is later
          ∙ next_is (bindings.so_far scope bs) rest first now ts stands later (reaches_grows (λ n. elaborated n inner (expression_of body)) now later next)
          ∙ ap (λ (s : List Variable). and_then (elaborated later s (expression_of body)) (λ u. Ok (formula.Let (without_sorts ts) u.0, u.1))) (sym inner_is)
          ∙ ap (λ (fs : Formulas). and_then (elaborated later inner (expression_of body)) (λ u. Ok (formula.Let fs u.0, u.1))) (formulas_of-sorted trees sorts long)

-- ---- `match`

module _ (whole : Declarations → Elaborated Sorted) (scope : List Variable) (t : Sexpr) (cs : List Sexpr) where
  -- what follows the sort, and what follows the subject
  abbrev after_side : Declarations → Sorted → SortId → Elaborated Sorted
  after_side n subject side = and_then (checked_cases n scope side None (parts_of n (expressions_of cs))) (λ checked. exhausted n subject checked)

  abbrev after_subject : Declarations → Sorted → Elaborated Sorted
  after_subject n subject = and_then (step (matchable n subject.1)) (after_side n subject)

  module _ (match_is : (n : Declarations) → whole n ≡ and_then (elaborated n scope (expression_of t)) (after_subject n)) (first now : Declarations) (reaches : Reaches (λ n. elaborated n scope (expression_of t)) first now) where
    pub match_subject : Reaches whole first now
    match_subject = reaches_same (λ n. and_then (elaborated n scope (expression_of t)) (after_subject n)) whole first now (λ n _. match_is n) (reaches_first (λ n. elaborated n scope (expression_of t)) after_subject first now reaches)

    -- the subject stops
    pub match_stop : (h : Halt) → elaborated now scope (expression_of t) ≡ Err h → whole now ≡ Err h
    match_stop h e = match_is now ∙ ap (λ (o : Elaborated Sorted). and_then o (after_subject now)) e

    -- its sort is refused
    pub match_refused : (subject : Sorted) (h : Halt) → elaborated now scope (expression_of t) ≡ Ok subject → step (matchable now subject.1) ≡ Err h → whole now ≡ Err h
    match_refused subject h e f = match_is now ∙ ap (λ (o : Elaborated Sorted). and_then o (after_subject now)) e ∙ ap (λ (o : Elaborated SortId). and_then o (after_side now subject)) f

    module _ (cn : IsConsistent now) (inside : ScopeIn now scope) (subject : Sorted) (means : elaborated now scope (expression_of t) ≡ Ok subject) (side : SortId) (is : step (matchable now subject.1) ≡ Ok side) (later : Declarations) (next : Reaches (λ n. checked_cases n scope side None (parts_of n (expressions_of cs))) now later) where
      subject_stands : Stands (λ n. elaborated n scope (expression_of t)) first now subject
      subject_stands = record { reaches = reaches; stays = λ n grows. (elaborated_stays n now grows cn scope inside (expression_of t) subject means).0 }

      side_stands : Stands (λ n. step (matchable n subject.1)) now now side
      side_stands = record {
        reaches = as_they_are now;
        stays = λ n grows. (stays_step (IsSort now) (matchable now subject.1) (matchable n subject.1) (matchable_stays n now grows cn subject.1 (term_inside now cn scope inside t subject means)) side is).0;
      }

      pub match_reached : Reaches whole first later
      match_reached =
          reaches_same (λ n. and_then (elaborated n scope (expression_of t)) (after_subject n)) whole first later (λ n _. match_is n)
          (next_reaches (λ n. elaborated n scope (expression_of t)) after_subject first now subject subject_stands later
          (next_reaches (λ n. step (matchable n subject.1)) (λ n. after_side n subject) now now side side_stands later
          (reaches_first (λ n. checked_cases n scope side None (parts_of n (expressions_of cs))) (λ n checked. exhausted n subject checked) now later next)))

      pub match_cases : whole later ≡ and_then (checked_cases later scope side None (parts_of later (expressions_of cs))) (λ checked. exhausted later subject checked)
      match_cases =
          let grows = reaches_grows (λ n. checked_cases n scope side None (parts_of n (expressions_of cs))) now later next in
          match_is later
          ∙ next_is (λ n. elaborated n scope (expression_of t)) after_subject first now subject subject_stands later grows
          ∙ next_is (λ n. step (matchable n subject.1)) (λ n. after_side n subject) now now side side_stands later grows
