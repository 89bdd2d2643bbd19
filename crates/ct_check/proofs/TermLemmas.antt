-- Arguments one after the other: those so far, the next one, and the others.
use Rattle.std.proofs.Common.{◌≡◌, ℕ, zero, suc, ◌+◌, ◌<◌, ◌==◌, Bool, true, false, if◌then◌else◌, List, [], ◌∷◌, ◌++◌, length, take, drop, get_or, slice_get, option_map, Option, Some, None, Result, Ok, Err, refl, sym, ◌∙◌, ap, ap₂, subst, arith}
use Rattle.std.specs.Option.{option_and_then}
use Rattle.std.proofs.lemmas.Option.{none-some, same_Some}
use Rattle.ct_generics.specs.Expression.{Expression, parameter, named, applied}
use Rattle.ct_sexpr.specs.declared.sexpr.Sexpr.{Sexpr}
use Rattle.ct_sexpr.specs.View.{expression_of, expressions_of}
use Rattle.ct_sorts.specs.declared.ids.SortId.{SortId}
use Rattle.ct_sorts.specs.Declarations.{Declarations}
use Rattle.ct_sorts.specs.Same.{is_same}
use Rattle.ct_formulas.specs.Formula.{Formula, Formulas, no_formulas, with_formula}
use Rattle.ct_instances.specs.Among.{origin_of}
use Rattle.ct_instances.specs.Matching.{Assignment, assign, matched_parameter, matched}
use Rattle.ct_names.specs.Outcome.{Outcome, Elaborated, Halt, Sorted, and_then, step}
use Rattle.ct_names.specs.Parts.{Parts, no_parts, with_part}
use Rattle.ct_names.specs.Variables.{Variable}
use Rattle.ct_names.specs.Elaboration.{elaborated, meaning_of_part, part_of, parts_of}
use Rattle.ct_check.specs.Expected.{Expectation, these, same, choice, fields, owner, if_met, next_expected, expected_terms}
use Rattle.ct_check.specs.Heads.{assignment_in}
use Rattle.ct_check.proofs.ExpectedLemmas.{with_first}

-- one formula more at the end
abbrev pub pushed : Formulas → Formula → Formulas
pushed no_formulas t = with_formula t no_formulas
pushed (with_formula u us) t = with_formula u (pushed us t)

module _ (d : Declarations) (scope : List Variable) where
  -- the next argument, where these came before it
  abbrev pub next_term : Sexpr → Formulas × Expectation → Elaborated (Formulas × Expectation)
  next_term e r =
      and_then (elaborated d scope (expression_of e)) (λ t.
      and_then (step (next_expected d r.1 t.1)) (λ y.
      Ok (pushed r.0 t.0, y)))

  lifted : (f : Formula) (o : Elaborated Sorted) (r : Formulas × Expectation) → and_then (and_then o (λ t. and_then (step (next_expected d r.1 t.1)) (λ y. Ok (pushed r.0 t.0, y)))) (with_first f) ≡ and_then o (λ t. and_then (step (next_expected d r.1 t.1)) (λ y. Ok (with_formula f (pushed r.0 t.0), y)))
  lifted f (Err h) r = refl
  lifted f (Ok t) r = by (next_expected d r.1 t.1)
    where
      by : (o : Outcome Expectation) → and_then (and_then (step o) (λ y. Ok (pushed r.0 t.0, y))) (with_first f) ≡ and_then (step o) (λ y. Ok (with_formula f (pushed r.0 t.0), y))
      by (Ok y) = refl
      by (Err n) = refl

  -- one more at the end
  pub terms_push : (x : Expectation) (xs : List Sexpr) (e : Sexpr) → expected_terms d scope x (parts_of d (expressions_of (xs ++ e ∷ []))) ≡ and_then (expected_terms d scope x (parts_of d (expressions_of xs))) (next_term e)
  terms_push x [] e = by (elaborated d scope (expression_of e))
    where
      at : (t : Sorted) (o : Outcome Expectation) → and_then (step o) (λ y. and_then (expected_terms d scope y no_parts) (with_first t.0)) ≡ and_then (step o) (λ y. Ok (pushed no_formulas t.0, y))
      at t (Ok y) = refl
      at t (Err n) = refl

      by : (o : Elaborated Sorted) → and_then o (λ t. and_then (step (next_expected d x t.1)) (λ y. and_then (expected_terms d scope y no_parts) (with_first t.0))) ≡ and_then o (λ t. and_then (step (next_expected d x t.1)) (λ y. Ok (pushed no_formulas t.0, y)))
      by (Err h) = refl
      by (Ok t) = at t (next_expected d x t.1)
  terms_push x (a ∷ xs) e = by (elaborated d scope (expression_of a)) (λ y. terms_push y xs e)
    where
      rest : (f : Formula) (o : Elaborated (Formulas × Expectation)) → and_then (and_then o (next_term e)) (with_first f) ≡ and_then (and_then o (with_first f)) (next_term e)
      rest f (Err h) = refl
      rest f (Ok r) = lifted f (elaborated d scope (expression_of e)) r

      at : (t : Sorted) (o : Outcome Expectation) → ((y : Expectation) → expected_terms d scope y (parts_of d (expressions_of (xs ++ e ∷ []))) ≡ and_then (expected_terms d scope y (parts_of d (expressions_of xs))) (next_term e)) → and_then (step o) (λ y. and_then (expected_terms d scope y (parts_of d (expressions_of (xs ++ e ∷ [])))) (with_first t.0)) ≡ and_then (and_then (step o) (λ y. and_then (expected_terms d scope y (parts_of d (expressions_of xs))) (with_first t.0))) (next_term e)
      at t (Err n) more_is = refl
      at t (Ok y) more_is = ap (λ (o : Elaborated (Formulas × Expectation)). and_then o (with_first t.0)) (more_is y) ∙ rest t.0 (expected_terms d scope y (parts_of d (expressions_of xs)))

      by : (o : Elaborated Sorted) → ((y : Expectation) → expected_terms d scope y (parts_of d (expressions_of (xs ++ e ∷ []))) ≡ and_then (expected_terms d scope y (parts_of d (expressions_of xs))) (next_term e)) → and_then o (λ t. and_then (step (next_expected d x t.1)) (λ y. and_then (expected_terms d scope y (parts_of d (expressions_of (xs ++ e ∷ [])))) (with_first t.0))) ≡ and_then (and_then o (λ t. and_then (step (next_expected d x t.1)) (λ y. and_then (expected_terms d scope y (parts_of d (expressions_of xs))) (with_first t.0)))) (next_term e)
      by (Err h) more_is = refl
      by (Ok t) more_is = at t (next_expected d x t.1) more_is

  -- where those so far are refused, so are all of them
  pub terms_stop : (x : Expectation) (xs ys : List Sexpr) (h : Halt) → expected_terms d scope x (parts_of d (expressions_of xs)) ≡ Err h → expected_terms d scope x (parts_of d (expressions_of (xs ++ ys))) ≡ Err h
  terms_stop x [] ys h e = absurd cc
  terms_stop x (a ∷ xs) ys h e = by (elaborated d scope (expression_of a)) (λ y f. terms_stop y xs ys h f) e
    where
      rest : (f : Formula) (o w : Elaborated (Formulas × Expectation)) → (o ≡ Err h → w ≡ Err h) → and_then o (with_first f) ≡ Err h → and_then w (with_first f) ≡ Err h
      rest f (Err k) w stop is = ap (λ (v : Elaborated (Formulas × Expectation)). and_then v (with_first f)) (stop is)
      rest f (Ok r) w stop is = absurd cc

      at : (t : Sorted) (o : Outcome Expectation) → ((y : Expectation) → expected_terms d scope y (parts_of d (expressions_of xs)) ≡ Err h → expected_terms d scope y (parts_of d (expressions_of (xs ++ ys))) ≡ Err h) → and_then (step o) (λ y. and_then (expected_terms d scope y (parts_of d (expressions_of xs))) (with_first t.0)) ≡ Err h → and_then (step o) (λ y. and_then (expected_terms d scope y (parts_of d (expressions_of (xs ++ ys)))) (with_first t.0)) ≡ Err h
      at t (Err n) stop is = is
      at t (Ok y) stop is = rest t.0 (expected_terms d scope y (parts_of d (expressions_of xs))) (expected_terms d scope y (parts_of d (expressions_of (xs ++ ys)))) (stop y) is

      by : (o : Elaborated Sorted) → ((y : Expectation) → expected_terms d scope y (parts_of d (expressions_of xs)) ≡ Err h → expected_terms d scope y (parts_of d (expressions_of (xs ++ ys))) ≡ Err h) → and_then o (λ t. and_then (step (next_expected d x t.1)) (λ y. and_then (expected_terms d scope y (parts_of d (expressions_of xs))) (with_first t.0))) ≡ Err h → and_then o (λ t. and_then (step (next_expected d x t.1)) (λ y. and_then (expected_terms d scope y (parts_of d (expressions_of (xs ++ ys)))) (with_first t.0))) ≡ Err h
      by (Err k) stop is = is
      by (Ok t) stop is = at t (next_expected d x t.1) stop is

-- ---- places of parameters

assign-length : (i : ℕ) (e : Expression) (m : Assignment) → length (assign i e m) ≡ length m
assign-length i e [] = refl
assign-length zero e (x ∷ m) = refl
assign-length (suc i) e (x ∷ m) = ap suc (assign-length i e m)

same_length : (m n : Assignment) → (let o : Option Assignment = Some m in o) ≡ Some n → length n ≡ length m
same_length m n e = ap (λ (k : Assignment). length k) (sym (same_Some m n e))

if_length : (b : Bool) (m n : Assignment) → (if b then Some m else None) ≡ Some n → length n ≡ length m
if_length true m n e = same_length m n e
if_length false m n e = absurd (none-some n e)

parameter-length : (i : ℕ) (e : Expression) (m n : Assignment) (o : Option (Option Expression)) → matched_parameter i e m o ≡ Some n → length n ≡ length m
parameter-length i e m n None is = absurd (none-some n is)
parameter-length i e m n (Some None) is = same_length (assign i e m) n is ∙ assign-length i e m
parameter-length i e m n (Some (Some f)) is = if_length (is_same f e) m n is

matched-length : (e o : Expression) (m n : Assignment) → matched e o m ≡ Some n → length n ≡ length m
matched-length (parameter i) o m n is = parameter-length i o m n (slice_get m i) is
matched-length (named g) (named h) m n is = if_length (g == h) m n is
matched-length (applied f a) (applied e b) m n is = by (matched f e m) refl (λ k at. matched-length a b k n at) (λ k at. matched-length f e m k at) is
  where
    by : (r : Option Assignment) → matched f e m ≡ r → ((k : Assignment) → matched a b k ≡ Some n → length n ≡ length k) → ((k : Assignment) → matched f e m ≡ Some k → length k ≡ length m) → option_and_then (matched a b) r ≡ Some n → length n ≡ length m
    by None at second first f_is = absurd (none-some n f_is)
    by (Some k) at second first f_is = second k f_is ∙ first k at
matched-length (named g) (parameter i) m n is = absurd (none-some n is)
matched-length (named g) (applied e b) m n is = absurd (none-some n is)
matched-length (applied f a) (parameter i) m n is = absurd (none-some n is)
matched-length (applied f a) (named h) m n is = absurd (none-some n is)

module _ (d : Declarations) (scope : List Variable) where
  -- each argument that is matched leaves as many places
  pub places : (es : List Expression) (m : Assignment) (ps : Parts) (r : Formulas × Expectation) → expected_terms d scope (fields es m) ps ≡ Ok r → length (assignment_in r.1) ≡ length m
  places es m no_parts r e = let same : (let w : Formulas × Expectation = (no_formulas, fields es m) in w) ≡ r = cc in ap (λ (w : Formulas × Expectation). length (assignment_in w.1)) (sym same)
  places [] m (with_part p ps) r e = by (meaning_of_part d scope p) e
    where
      by : (o : Elaborated Sorted) → and_then o (λ t. and_then (step (next_expected d (fields [] m) t.1)) (λ y. and_then (expected_terms d scope y ps) (with_first t.0))) ≡ Ok r → length (assignment_in r.1) ≡ length m
      by (Err h) f = absurd cc
      by (Ok t) f = absurd cc
  places (x ∷ es) m (with_part p ps) r e = by (meaning_of_part d scope p) (λ n w f. places es n ps w f) e
    where
      rest : (f : Formula) (n : Assignment) (o : Elaborated (Formulas × Expectation)) → ((w : Formulas × Expectation) → o ≡ Ok w → length (assignment_in w.1) ≡ length n) → and_then o (with_first f) ≡ Ok r → length (assignment_in r.1) ≡ length n
      rest f n (Err h) long is = absurd cc
      rest f n (Ok w) long is = let same : (let v : Formulas × Expectation = (with_formula f w.0, w.1) in v) ≡ r = cc in ap (λ (v : Formulas × Expectation). length (assignment_in v.1)) (sym same) ∙ long w refl

      at : (t : Sorted) (o : Option Assignment) → ((n : Assignment) → o ≡ Some n → length n ≡ length m) → ((n : Assignment) (w : Formulas × Expectation) → expected_terms d scope (fields es n) ps ≡ Ok w → length (assignment_in w.1) ≡ length n) → and_then (step (if_met (option_map (fields es) o))) (λ y. and_then (expected_terms d scope y ps) (with_first t.0)) ≡ Ok r → length (assignment_in r.1) ≡ length m
      at t None long others is = absurd cc
      at t (Some n) long others is = rest t.0 n (expected_terms d scope (fields es n) ps) (others n) is ∙ long n refl

      by : (o : Elaborated Sorted) → ((n : Assignment) (w : Formulas × Expectation) → expected_terms d scope (fields es n) ps ≡ Ok w → length (assignment_in w.1) ≡ length n) → and_then o (λ t. and_then (step (next_expected d (fields (x ∷ es) m) t.1)) (λ y. and_then (expected_terms d scope y ps) (with_first t.0))) ≡ Ok r → length (assignment_in r.1) ≡ length m
      by (Err h) others f = absurd cc
      by (Ok t) others f = at t (matched x (origin_of d t.1) m) (λ n is. matched-length x (origin_of d t.1) m n is) others f
