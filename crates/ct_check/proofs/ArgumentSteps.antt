-- The loop over arguments: those so far, the next one, and all.
use Rattle.std.proofs.Common.{◌≡◌, ℕ, ◌+◌, ◌<◌, List, [], ◌∷◌, ◌++◌, length, take, drop, get_or, Ok, Err, refl, sym, ◌∙◌, ap, arith}
use Rattle.std.proofs.lemmas.List.{take-append-drop}
use Rattle.ct_sexpr.specs.declared.sexpr.Sexpr.{Sexpr}
use Rattle.ct_sexpr.specs.View.{expression_of, expressions_of}
use Rattle.ct_sorts.specs.Consistent.{IsConsistent}
use Rattle.ct_sorts.specs.Declarations.{Declarations}
use Rattle.ct_formulas.specs.declared.tree.Tree.{Tree}
use Rattle.ct_formulas.specs.Formula.{Formulas, with_formula}
use Rattle.ct_formulas.specs.TreeFormula.{formula_of, formulas_of_trees}
use Rattle.ct_names.specs.Needs.{Grows, Reaches}
use Rattle.ct_names.specs.Outcome.{Elaborated, Halt, Sorted, and_then, step}
use Rattle.ct_names.specs.Variables.{Variable, ScopeIn}
use Rattle.ct_names.specs.Elaboration.{elaborated, parts_of}
use Rattle.ct_names.proofs.LastingLemmas.{scope_declared}
use Rattle.ct_names.proofs.NeedLemmas.{reaches_grows, reaches_first, reaches_same}
use Rattle.ct_names.proofs.PartLemmas.{take_item}
use Rattle.ct_check.specs.declared.expected.Expected.{Expected}
use Rattle.ct_check.specs.Expected.{Expectation, expectation_of, expected_terms, next_expected, IsExpectation}
use Rattle.ct_check.proofs.ExpectationLemmas.{expectation_about, expectation_stays, expectation_same}
use Rattle.ct_check.proofs.ExpectedStays.{expected_stay}
use Rattle.ct_check.proofs.StepLemmas.{Stands, next_is, next_reaches}
use Rattle.ct_check.proofs.TermLemmas.{pushed, next_term, terms_push, terms_stop}

-- one tree more
pub formulas_push : (ts : List Tree) (t : Tree) → pushed (formulas_of_trees ts) (formula_of t) ≡ formulas_of_trees (ts ++ t ∷ [])
formulas_push [] t = refl
formulas_push (u ∷ ts) t = ap (λ (fs : Formulas). with_formula (formula_of u) fs) (formulas_push ts t)

-- items with the next one, and all
pub with_next : {X : Type 0} (xs : List X) (i : ℕ) (x : X) → i < length xs → x ≡ get_or xs i x → xs ≡ (take i xs ++ x ∷ []) ++ drop (i + 1) xs
with_next xs i x h e = sym (take-append-drop (i + 1) xs) ∙ ap (λ ys. ys ++ drop (i + 1) xs) (take_item xs i x h e)

module _ (scope : List Variable) (x : Expected) where
  -- these arguments
  abbrev pub so_far : List Sexpr → Declarations → Elaborated (Formulas × Expectation)
  so_far xs n = expected_terms n scope (expectation_of n x) (parts_of n (expressions_of xs))

  -- where these stop, so do all
  pub all_stop : (xs ys all : List Sexpr) → all ≡ xs ++ ys → (d : Declarations) (h : Halt) → so_far xs d ≡ Err h → so_far all d ≡ Err h
  all_stop xs ys all is d h e = ap (λ zs. so_far zs d) is ∙ terms_stop d scope (expectation_of d x) xs ys h e

  module _ (first now : Declarations) (c : IsConsistent first) (cn : IsConsistent now) (inside : ScopeIn first scope) (is : IsExpectation first x) (met : Expected) (is_met : IsExpectation now met) (xs : List Sexpr) (us : Formulas) (value : so_far xs now ≡ Ok (us, expectation_of now met)) (reaches : Reaches (so_far xs) first now) where
    abbrev r : Formulas × Expectation
    r = (us, expectation_of now met)

    pub stands : Stands (so_far xs) first now r
    stands =
        let grown = reaches_grows (so_far xs) first now reaches in
        let here = expectation_stays now first grown c x is in
        record {
          reaches = reaches;
          stays = λ n grows.
              ap (λ (y : Expectation). expected_terms n scope y (parts_of n (expressions_of xs))) (expectation_same n now grows cn x here)
              ∙ (expected_stay n now grows cn scope (scope_declared now first grown c scope inside) (expectation_of now x) (expectation_about now x here) (expressions_of xs) r value).0;
        }

    module _ (e : Sexpr) (later : Declarations) (next : Reaches (λ n. elaborated n scope (expression_of e)) now later) where
      next_reached : Reaches (λ n. next_term n scope e r) now later
      next_reached = reaches_first (λ n. elaborated n scope (expression_of e)) (λ n t. and_then (step (next_expected n r.1 t.1)) (λ y. Ok (pushed us t.0, y))) now later next

      pub more_reached : Reaches (so_far (xs ++ e ∷ [])) first later
      more_reached =
          reaches_same (λ n. and_then (so_far xs n) (next_term n scope e)) (so_far (xs ++ e ∷ [])) first later (λ n _. terms_push n scope (expectation_of n x) xs e)
          (next_reaches (so_far xs) (λ n. next_term n scope e) first now r stands later next_reached)

      grown_later : Grows later now
      grown_later = reaches_grows (λ n. elaborated n scope (expression_of e)) now later next

      more_is : so_far (xs ++ e ∷ []) later ≡ next_term later scope e r
      more_is = terms_push later scope (expectation_of later x) xs e ∙ next_is (so_far xs) (λ n. next_term n scope e) first now r stands later grown_later

      -- the term stops
      pub more_stop : (h : Halt) → elaborated later scope (expression_of e) ≡ Err h → so_far (xs ++ e ∷ []) later ≡ Err h
      more_stop h f = more_is ∙ ap (λ (o : Elaborated Sorted). and_then o (λ t. and_then (step (next_expected later r.1 t.1)) (λ y. Ok (pushed us t.0, y)))) f

      -- the term has a sort, which is expected or not
      pub more_after : (t : Sorted) → elaborated later scope (expression_of e) ≡ Ok t → so_far (xs ++ e ∷ []) later ≡ and_then (step (next_expected later (expectation_of later met) t.1)) (λ y. Ok (pushed us t.0, y))
      more_after t f =
          more_is
          ∙ ap (λ (o : Elaborated Sorted). and_then o (λ u. and_then (step (next_expected later r.1 u.1)) (λ y. Ok (pushed us u.0, y)))) f
          ∙ ap (λ (z : Expectation). and_then (step (next_expected later z t.1)) (λ y. Ok (pushed us t.0, y))) (sym (expectation_same later now grown_later cn met is_met))

      -- the sort is not expected
      pub after_stop : (t : Sorted) (h : Halt) → elaborated later scope (expression_of e) ≡ Ok t → step (next_expected later (expectation_of later met) t.1) ≡ Err h → so_far (xs ++ e ∷ []) later ≡ Err h
      after_stop t h f g = more_after t f ∙ ap (λ (o : Elaborated Expectation). and_then o (λ y. Ok (pushed us t.0, y))) g

      -- it is
      pub after_met : (t : Sorted) (y : Expectation) → elaborated later scope (expression_of e) ≡ Ok t → step (next_expected later (expectation_of later met) t.1) ≡ Ok y → so_far (xs ++ e ∷ []) later ≡ Ok (pushed us t.0, y)
      after_met t y f g = more_after t f ∙ ap (λ (o : Elaborated Expectation). and_then o (λ z. Ok (pushed us t.0, z))) g
