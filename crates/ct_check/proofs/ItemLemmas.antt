-- Bindings and cases one after the other: those so far, and the next one.
use Rattle.std.proofs.Common.{◌≡◌, List, [], ◌∷◌, ◌++◌, Bool, true, false, Option, Some, Ok, Err, refl, ◌∙◌, ap}
use Rattle.ct_sexpr.specs.Expression.{Expressions as Sexprs, leaf, list, none, more}
use Rattle.ct_sorts.specs.declared.ids.SortId.{SortId}
use Rattle.ct_sorts.specs.Declarations.{Declarations}
use Rattle.ct_formulas.specs.Formula.{Formula, Cases, no_cases, with_case, bind}
use Rattle.ct_formulas.specs.declared.tree.Pattern.{Pattern}
use Rattle.ct_names.specs.Outcome.{Outcome, Elaborated, Sorted, and_then, unless_halted, step}
use Rattle.ct_names.specs.Refusals.{wrong_sort}
use Rattle.ct_names.specs.Patterns.{Binding, pattern}
use Rattle.ct_names.specs.Variables.{Variable}
use Rattle.ct_names.specs.Elaboration.{Checked, elaborated, part_of, parts_of, bound_terms, no_more, goes_with, with_case_before, checked_cases}

-- expressions, and others after them
abbrev pub joined : Sexprs → Sexprs → Sexprs
joined none ys = ys
joined (more x xs) ys = more x (joined xs ys)

-- cases, and others after them
abbrev pub cases_joined : Cases → Cases → Cases
cases_joined no_cases ks = ks
cases_joined (with_case p t cs) ks = with_case p t (cases_joined cs ks)

abbrev pub both : Checked → Checked → Checked
both first second = record { cases = cases_joined first.cases second.cases; patterns = first.patterns ++ second.patterns; sort = second.sort }

module _ (d : Declarations) (scope : List Variable) where
  -- ---- bindings

  abbrev pub and_others : List Sorted → List Sorted → Elaborated (List Sorted)
  and_others ts us = Ok (ts ++ us)

  abbrev pub after_first : Sorted → List Sorted → Elaborated (List Sorted)
  after_first t ts = Ok (t ∷ ts)

  bound_lifted : (t : Sorted) (o w : Elaborated (List Sorted)) → and_then (and_then o (λ ts. and_then w (and_others ts))) (after_first t) ≡ and_then (and_then o (after_first t)) (λ ts. and_then w (and_others ts))
  bound_lifted t (Err h) w = refl
  bound_lifted t (Ok ts) (Err h) = refl
  bound_lifted t (Ok ts) (Ok us) = refl

  bound_start : (w : Elaborated (List Sorted)) → w ≡ and_then w (and_others [])
  bound_start (Err h) = refl
  bound_start (Ok ts) = refl

  bound_first : (o : Elaborated Sorted) (all those w : Elaborated (List Sorted)) → all ≡ and_then those (λ ts. and_then w (and_others ts)) → and_then o (λ t. and_then all (after_first t)) ≡ and_then (and_then o (λ t. and_then those (after_first t))) (λ ts. and_then w (and_others ts))
  bound_first (Err h) all those w e = refl
  bound_first (Ok t) all those w e = ap (λ (x : Elaborated (List Sorted)). and_then x (after_first t)) e ∙ bound_lifted t those w

  pub bound_join : (xs ys : Sexprs) → bound_terms d scope (parts_of d (joined xs ys)) ≡ and_then (bound_terms d scope (parts_of d xs)) (λ ts. and_then (bound_terms d scope (parts_of d ys)) (and_others ts))
  bound_join none ys = bound_start (bound_terms d scope (parts_of d ys))
  bound_join (more (leaf a) xs) ys = refl
  bound_join (more (list none) xs) ys = refl
  bound_join (more (list (more x none)) xs) ys = refl
  bound_join (more (list (more x (more t (more u es)))) xs) ys = refl
  bound_join (more (list (more x (more t none))) xs) ys = bound_first (elaborated d scope t) (bound_terms d scope (parts_of d (joined xs ys))) (bound_terms d scope (parts_of d xs)) (bound_terms d scope (parts_of d ys)) (bound_join xs ys)

  -- ---- cases

  abbrev pub and_rest : Checked → Checked → Elaborated Checked
  and_rest first second = Ok (both first second)

  abbrev pub after_case : Pattern → Formula → Checked → Elaborated Checked
  after_case p t checked = Ok (with_case_before p t checked)

  -- the cases after these
  abbrev pub cases_after : SortId → Sexprs → Checked → Elaborated Checked
  cases_after side ys first = and_then (checked_cases d scope side first.sort (parts_of d ys)) (and_rest first)

  cases_lifted : (p : Pattern) (t : Formula) (side : SortId) (ys : Sexprs) (o : Elaborated Checked) → and_then (and_then o (cases_after side ys)) (after_case p t) ≡ and_then (and_then o (after_case p t)) (cases_after side ys)
  cases_lifted p t side ys (Err h) = refl
  cases_lifted p t side ys (Ok first) = by (checked_cases d scope side first.sort (parts_of d ys))
    where
      by : (w : Elaborated Checked) → and_then (and_then w (and_rest first)) (after_case p t) ≡ and_then w (and_rest (with_case_before p t first))
      by (Err h) = refl
      by (Ok second) = refl

  cases_start : (sort : Option SortId) (w : Elaborated Checked) → w ≡ and_then w (and_rest (no_more sort))
  cases_start sort (Err h) = refl
  cases_start sort (Ok checked) = refl

  pub cases_join : (side : SortId) (sort : Option SortId) (xs ys : Sexprs) → checked_cases d scope side sort (parts_of d (joined xs ys)) ≡ and_then (checked_cases d scope side sort (parts_of d xs)) (cases_after side ys)
  cases_join side sort none ys = cases_start sort (checked_cases d scope side sort (parts_of d ys))
  cases_join side sort (more (leaf a) xs) ys = refl
  cases_join side sort (more (list none) xs) ys = refl
  cases_join side sort (more (list (more x none)) xs) ys = refl
  cases_join side sort (more (list (more x (more t (more u es)))) xs) ys = refl
  cases_join side sort (more (list (more p (more body none))) xs) ys = by_pattern (pattern d side (part_of d p)) (λ s. cases_join side (Some s) xs ys)
    where
      by_sort : (p : Pattern) (u : Sorted) (b : Bool) → ((s : SortId) → checked_cases d scope side (Some s) (parts_of d (joined xs ys)) ≡ and_then (checked_cases d scope side (Some s) (parts_of d xs)) (cases_after side ys)) → unless_halted b wrong_sort (and_then (checked_cases d scope side (Some u.1) (parts_of d (joined xs ys))) (after_case p u.0)) ≡ and_then (unless_halted b wrong_sort (and_then (checked_cases d scope side (Some u.1) (parts_of d xs)) (after_case p u.0))) (cases_after side ys)
      by_sort p u false rest = refl
      by_sort p u true rest = ap (λ (x : Elaborated Checked). and_then x (after_case p u.0)) (rest u.1) ∙ cases_lifted p u.0 side ys (checked_cases d scope side (Some u.1) (parts_of d xs))

      by_body : (p : Pattern) (o : Elaborated Sorted) → ((s : SortId) → checked_cases d scope side (Some s) (parts_of d (joined xs ys)) ≡ and_then (checked_cases d scope side (Some s) (parts_of d xs)) (cases_after side ys)) → and_then o (λ u. unless_halted (goes_with sort u.1) wrong_sort (and_then (checked_cases d scope side (Some u.1) (parts_of d (joined xs ys))) (after_case p u.0))) ≡ and_then (and_then o (λ u. unless_halted (goes_with sort u.1) wrong_sort (and_then (checked_cases d scope side (Some u.1) (parts_of d xs)) (after_case p u.0)))) (cases_after side ys)
      by_body p (Err h) rest = refl
      by_body p (Ok u) rest = by_sort p u (goes_with sort u.1) rest

      by_pattern : (o : Outcome Binding) → ((s : SortId) → checked_cases d scope side (Some s) (parts_of d (joined xs ys)) ≡ and_then (checked_cases d scope side (Some s) (parts_of d xs)) (cases_after side ys)) → and_then (step o) (λ binding. and_then (elaborated d (bind binding.1 scope) body) (λ u. unless_halted (goes_with sort u.1) wrong_sort (and_then (checked_cases d scope side (Some u.1) (parts_of d (joined xs ys))) (after_case binding.0 u.0)))) ≡ and_then (and_then (step o) (λ binding. and_then (elaborated d (bind binding.1 scope) body) (λ u. unless_halted (goes_with sort u.1) wrong_sort (and_then (checked_cases d scope side (Some u.1) (parts_of d xs)) (after_case binding.0 u.0))))) (cases_after side ys)
      by_pattern (Err n) rest = refl
      by_pattern (Ok binding) rest = by_body binding.0 (elaborated d (bind binding.1 scope) body) rest
