-- Arguments of expected sorts, one after the other, are those of each form.
use Rattle.std.proofs.Common.{◌≡◌, ℕ, ◌≤◌, Bool, true, false, List, [], ◌∷◌, length, replicate, option_map, Option, Some, None, Result, Ok, Err, refl, sym, ◌∙◌, ap, arith}
use Rattle.std.proofs.lemmas.Bool.Decides.{Decides-eqb}
use Rattle.ct_generics.specs.Expression.{Expression}
use Rattle.ct_sorts.specs.declared.ids.SortId.{SortId}
use Rattle.ct_sorts.specs.Declarations.{Declarations}
use Rattle.ct_formulas.specs.Formula.{Formula, Formulas, with_formula}
use Rattle.ct_instances.specs.Among.{origin_of}
use Rattle.ct_instances.specs.Matching.{Assignment, matched}
use Rattle.ct_names.specs.Outcome.{Elaborated, Sorted, and_then, unless_refused, unless_halted, step, is_sort, of_sort}
use Rattle.ct_names.specs.Refusals.{wrong_sort}
use Rattle.ct_names.specs.Parts.{Parts, no_parts, with_part, count}
use Rattle.ct_names.specs.Variables.{Variable}
use Rattle.ct_names.specs.Elaboration.{meaning_of_part, arguments, all_of_sort, of_one_sort, fitting, matched_arguments}
use Rattle.ct_check.specs.Expected.{Expectation, these, same, fields, next_expected, expected_terms, if_met}
use Rattle.ct_check.specs.Heads.{assignment_in}

pub one_sort : (s t : SortId) → is_sort s t ≡ true → s ≡ t
one_sort s t e = let n : s.0 ≡ t.0 = (Decides-eqb s.0 t.0).0 e in ap (λ (k : ℕ). record { 0 = k }) n

own_sort : (s : SortId) → is_sort s s ≡ true
own_sort s = (Decides-eqb s.0 s.0).1 refl

-- the formulas alone, and with what was matched
abbrev pub terms_of : Formulas × Expectation → Elaborated Formulas
terms_of r = Ok r.0

abbrev pub matched_of : Formulas × Expectation → Elaborated (Formulas × Assignment)
matched_of r = Ok (r.0, assignment_in r.1)

-- one formula before others
abbrev pub with_first : Formula → Formulas × Expectation → Elaborated (Formulas × Expectation)
with_first f r = Ok (with_formula f r.0, r.1)

-- what comes before what follows a step
pub and_then-ok : {X Y Z E : Type 0} (o : Result X E) (f : X → Y) (g : Y → Result Z E) → and_then (and_then o (λ x. Ok (f x))) g ≡ and_then o (λ x. g (f x))
and_then-ok (Ok x) f g = refl
and_then-ok (Err e) f g = refl

module _ (d : Declarations) (scope : List Variable) where
  -- one argument more, and what is expected of the others
  abbrev expected_after : Expectation → Parts → Sorted → Elaborated (Formulas × Expectation)
  expected_after x ps t = and_then (step (next_expected d x t.1)) (λ next. and_then (expected_terms d scope next ps) (λ rest. Ok (with_formula t.0 rest.0, rest.1)))

  -- ---- stated sorts

  pub these_are : (sorts : List SortId) (ps : Parts) → length sorts ≡ count ps → arguments d scope sorts ps ≡ and_then (expected_terms d scope (these sorts) ps) terms_of
  these_are [] no_parts long = refl
  these_are [] (with_part p ps) long = absurd (omega (arith, long))
  these_are (s ∷ sorts) no_parts long = absurd (omega (arith, long))
  these_are (s ∷ sorts) (with_part p ps) long = by (meaning_of_part d scope p) (these_are sorts ps (omega (arith, long)))
    where
      rest : (f : Formula) (o : Elaborated Formulas) (r : Elaborated (Formulas × Expectation)) → o ≡ and_then r terms_of → and_then o (λ ts. Ok (with_formula f ts)) ≡ and_then (and_then r (λ x. Ok (with_formula f x.0, x.1))) terms_of
      rest f o (Ok x) e = ap (λ (y : Elaborated Formulas). and_then y (λ ts. Ok (with_formula f ts))) e
      rest f o (Err h) e = ap (λ (y : Elaborated Formulas). and_then y (λ ts. Ok (with_formula f ts))) e

      tested : (t : Sorted) (b : Bool) → arguments d scope sorts ps ≡ and_then (expected_terms d scope (these sorts) ps) terms_of → and_then (unless_halted b wrong_sort (Ok t.0)) (λ f. and_then (arguments d scope sorts ps) (λ ts. Ok (with_formula f ts))) ≡ and_then (and_then (step (unless_refused b wrong_sort (Ok (these sorts)))) (λ next. and_then (expected_terms d scope next ps) (λ r. Ok (with_formula t.0 r.0, r.1)))) terms_of
      tested t true others = rest t.0 (arguments d scope sorts ps) (expected_terms d scope (these sorts) ps) others
      tested t false others = refl

      by : (o : Elaborated Sorted) → arguments d scope sorts ps ≡ and_then (expected_terms d scope (these sorts) ps) terms_of → and_then (of_sort s o) (λ f. and_then (arguments d scope sorts ps) (λ ts. Ok (with_formula f ts))) ≡ and_then (and_then o (expected_after (these (s ∷ sorts)) ps)) terms_of
      by (Err h) others = refl
      by (Ok t) others = tested t (is_sort t.1 s) others

  -- ---- one sort

  pub all_are : (s : SortId) (ps : Parts) → all_of_sort d scope s ps ≡ and_then (expected_terms d scope (same (Some s)) ps) terms_of
  all_are s no_parts = refl
  all_are s (with_part p ps) = by (meaning_of_part d scope p) (all_are s ps)
    where
      rest : (f : Formula) (o : Elaborated Formulas) (r : Elaborated (Formulas × Expectation)) → o ≡ and_then r terms_of → and_then o (λ ts. Ok (with_formula f ts)) ≡ and_then (and_then r (λ x. Ok (with_formula f x.0, x.1))) terms_of
      rest f o (Ok x) e = ap (λ (y : Elaborated Formulas). and_then y (λ ts. Ok (with_formula f ts))) e
      rest f o (Err h) e = ap (λ (y : Elaborated Formulas). and_then y (λ ts. Ok (with_formula f ts))) e

      tested : (t : Sorted) (b : Bool) → is_sort t.1 s ≡ b → all_of_sort d scope s ps ≡ and_then (expected_terms d scope (same (Some s)) ps) terms_of → and_then (unless_halted b wrong_sort (Ok t.0)) (λ f. and_then (all_of_sort d scope s ps) (λ ts. Ok (with_formula f ts))) ≡ and_then (and_then (step (unless_refused b wrong_sort (Ok (same (Some t.1))))) (λ next. and_then (expected_terms d scope next ps) (λ r. Ok (with_formula t.0 r.0, r.1)))) terms_of
      tested t true e others = rest t.0 (all_of_sort d scope s ps) (expected_terms d scope (same (Some t.1)) ps) (others ∙ ap (λ (x : SortId). and_then (expected_terms d scope (same (Some x)) ps) terms_of) (sym (one_sort t.1 s e)))
      tested t false e others = refl

      by : (o : Elaborated Sorted) → all_of_sort d scope s ps ≡ and_then (expected_terms d scope (same (Some s)) ps) terms_of → and_then (of_sort s o) (λ f. and_then (all_of_sort d scope s ps) (λ ts. Ok (with_formula f ts))) ≡ and_then (and_then o (expected_after (same (Some s)) ps)) terms_of
      by (Err h) others = refl
      by (Ok t) others = tested t (is_sort t.1 s) refl others

  pub one_are : (ps : Parts) → 1 ≤ count ps → of_one_sort d scope ps ≡ and_then (expected_terms d scope (same None) ps) terms_of
  one_are no_parts some = absurd (omega (arith, some))
  one_are (with_part p ps) some = by (meaning_of_part d scope p)
    where
      rest : (f : Formula) (o : Elaborated Formulas) (r : Elaborated (Formulas × Expectation)) → o ≡ and_then r terms_of → and_then o (λ ts. Ok (with_formula f ts)) ≡ and_then (and_then r (λ x. Ok (with_formula f x.0, x.1))) terms_of
      rest f o (Ok x) e = ap (λ (y : Elaborated Formulas). and_then y (λ ts. Ok (with_formula f ts))) e
      rest f o (Err h) e = ap (λ (y : Elaborated Formulas). and_then y (λ ts. Ok (with_formula f ts))) e

      by : (o : Elaborated Sorted) → and_then o (λ t. and_then (all_of_sort d scope t.1 ps) (λ ts. Ok (with_formula t.0 ts))) ≡ and_then (and_then o (expected_after (same None) ps)) terms_of
      by (Err h) = refl
      by (Ok t) = rest t.0 (all_of_sort d scope t.1 ps) (expected_terms d scope (same (Some t.1)) ps) (all_are t.1 ps)

  -- so many of one sort
  pub replicated_are : (s : SortId) (ps : Parts) → arguments d scope (replicate (count ps) s) ps ≡ all_of_sort d scope s ps
  replicated_are s no_parts = refl
  replicated_are s (with_part p ps) = by (of_sort s (meaning_of_part d scope p)) (replicated_are s ps)
    where
      by : (o : Elaborated Formula) → arguments d scope (replicate (count ps) s) ps ≡ all_of_sort d scope s ps → and_then o (λ t. and_then (arguments d scope (replicate (count ps) s) ps) (λ ts. Ok (with_formula t ts))) ≡ and_then o (λ t. and_then (all_of_sort d scope s ps) (λ ts. Ok (with_formula t ts)))
      by (Err h) others = refl
      by (Ok t) others = ap (λ (x : Elaborated Formulas). and_then x (λ ts. Ok (with_formula t ts))) others

  -- ---- fields

  pub fields_are : (es : List Expression) (ps : Parts) (m : Assignment) → length es ≡ count ps → matched_arguments d scope es ps m ≡ and_then (expected_terms d scope (fields es m) ps) matched_of
  fields_are [] no_parts m long = refl
  fields_are [] (with_part p ps) m long = absurd (omega (arith, long))
  fields_are (e ∷ es) no_parts m long = absurd (omega (arith, long))
  fields_are (e ∷ es) (with_part p ps) m long = by (meaning_of_part d scope p) (λ n. fields_are es ps n (omega (arith, long)))
    where
      rest : (f : Formula) (o : Elaborated (Formulas × Assignment)) (r : Elaborated (Formulas × Expectation)) → o ≡ and_then r matched_of → and_then o (λ x. Ok (with_formula f x.0, x.1)) ≡ and_then (and_then r (λ x. Ok (with_formula f x.0, x.1))) matched_of
      rest f o (Ok x) h = ap (λ (y : Elaborated (Formulas × Assignment)). and_then y (λ z. Ok (with_formula f z.0, z.1))) h
      rest f o (Err n) h = ap (λ (y : Elaborated (Formulas × Assignment)). and_then y (λ z. Ok (with_formula f z.0, z.1))) h

      found : (t : Sorted) (o : Option Assignment) → ((n : Assignment) → matched_arguments d scope es ps n ≡ and_then (expected_terms d scope (fields es n) ps) matched_of) → and_then (step (fitting o)) (λ n. and_then (matched_arguments d scope es ps n) (λ r. Ok (with_formula t.0 r.0, r.1))) ≡ and_then (and_then (step (if_met (option_map (fields es) o))) (λ next. and_then (expected_terms d scope next ps) (λ r. Ok (with_formula t.0 r.0, r.1)))) matched_of
      found t None others = refl
      found t (Some n) others = rest t.0 (matched_arguments d scope es ps n) (expected_terms d scope (fields es n) ps) (others n)

      by : (o : Elaborated Sorted) → ((n : Assignment) → matched_arguments d scope es ps n ≡ and_then (expected_terms d scope (fields es n) ps) matched_of) → and_then o (λ t. and_then (step (fitting (matched e (origin_of d t.1) m))) (λ n. and_then (matched_arguments d scope es ps n) (λ r. Ok (with_formula t.0 r.0, r.1)))) ≡ and_then (and_then o (expected_after (fields (e ∷ es) m) ps)) matched_of
      by (Err h) others = refl
      by (Ok t) others = found t (matched e (origin_of d t.1) m) others
