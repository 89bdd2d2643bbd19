-- A quantifier: the body with one choice of values after the other.
use Rattle.std.proofs.Common.{◌≡◌, ℕ, zero, suc, ◌+◌, ◌<◌, ◌==◌, Bool, true, false, List, [], ◌∷◌, length, map, take, drop, Some, slice_get, refl, sym, ap, subst, ◌∙◌, arith, true≢false}
use Rattle.std.proofs.lemmas.Bool.Decides.{Decides-eqb}
use Rattle.std.proofs.lemmas.List.{length-map, length-take-le}
use Rattle.std.proofs.lemmas.Option.{none-some, same_Some}
use Rattle.ct_lemmas.proofs.Pairs.{AllZip-one_length}
use Rattle.ct_sorts.specs.Declarations.{Declarations}
use Rattle.ct_terms.specs.declared.ids.TermId.{TermId}
use Rattle.ct_terms.specs.Terms.{Terms}
use Rattle.ct_listing.specs.Closed.{ClosedValue}
use Rattle.ct_formulas.specs.Choices.{choices_of}
use Rattle.ct_formulas.specs.declared.tree.Quantifier.{Quantifier}
use Rattle.ct_formulas.specs.Compiled.{compiled}
use Rattle.ct_operators.specs.Effect.{Stands}
use Rattle.ct_scope.specs.declared.bound.Bound.{Bound}
use Rattle.ct_scope.specs.Compilable.{compiled_calls}
use Rattle.ct_formulas.specs.Formula.{Formula, Formulas, no_formulas, with_formula}
use Rattle.ct_formulas.specs.TreeFormula.{formulas_of}
use Rattle.ct_formulas.specs.Occurrence.{count_of}
use Rattle.ct_occurrence.specs.Marks.{flags_below}
use Rattle.ct_sorts.specs.declared.ids.SortId.{SortId}
use Rattle.ct_scope.specs.Choosing.{chosen, AreChosen}

-- the formulas of the choices from this one on
abbrev pub left_from : Formula → List (List ClosedValue) → ℕ → Formulas
left_from t cs k = formulas_of (map (chosen t) (drop k cs))

drop_next : (cs : List (List ClosedValue)) (k : ℕ) (vs : List ClosedValue) → slice_get cs k ≡ Some vs → drop k cs ≡ vs ∷ drop (k + 1) cs
drop_next [] k vs at = absurd (none-some vs at)
drop_next (c ∷ cs) zero vs at = ap (λ (x : List ClosedValue). x ∷ cs) (same_Some c vs at)
drop_next (c ∷ cs) (suc k) vs at =
    let e : suc k + 1 ≡ suc (k + 1) = omega arith in
    drop_next cs k vs at ∙ ap (λ (m : ℕ). vs ∷ drop m (c ∷ cs)) (sym e)

pub left_next : (t : Formula) (cs : List (List ClosedValue)) (k : ℕ) (vs : List ClosedValue) → slice_get cs k ≡ Some vs → left_from t cs k ≡ with_formula (chosen t vs) (left_from t cs (k + 1))
left_next t cs k vs at = ap (λ (xs : List (List ClosedValue)). formulas_of (map (chosen t) xs)) (drop_next cs k vs at)

count_left : (t : Formula) (xs : List (List ClosedValue)) → count_of (formulas_of (map (chosen t) xs)) ≡ length xs
count_left t [] = refl
count_left t (x ∷ xs) = ap suc (count_left t xs)

drop_length : (cs : List (List ClosedValue)) (k : ℕ) → k < length cs → length (drop (k + 1) cs) + (k + 1) ≡ length cs
drop_length [] k less = absurd (omega (arith, less))
drop_length (c ∷ cs) zero less = omega arith
drop_length (c ∷ cs) (suc k) less =
    let e : suc k + 1 ≡ suc (k + 1) = omega arith in
    let rest = drop_length cs k (omega (arith, less)) in
    let same : length (drop (suc k + 1) (c ∷ cs)) ≡ length (drop (k + 1) cs) = ap (λ (m : ℕ). length (drop m (c ∷ cs))) e in
    omega (arith, rest, same)

-- whether it is the last
pub last_test : (t : Formula) (cs : List (List ClosedValue)) (k count : ℕ) (b : Bool) → count ≡ length cs → k < length cs → b ≡ (k + 1 == count) → (b ≡ false → 0 < count_of (left_from t cs (k + 1))) × (b ≡ true → count_of (left_from t cs (k + 1)) ≡ 0)
last_test t cs k count b is less test =
    let long = drop_length cs k less in
    let size = count_left t (drop (k + 1) cs) in
    let decides = Decides-eqb (k + 1) count in (
      λ e. by (length (drop (k + 1) cs)) refl long size e,
      λ e. let same : k + 1 ≡ count = decides.0 (sym test ∙ e) in omega (arith, long, size, same, is),
    )
  where
    by : (m : ℕ) → length (drop (k + 1) cs) ≡ m → m + (k + 1) ≡ length cs → count_of (left_from t cs (k + 1)) ≡ m → b ≡ false → 0 < count_of (left_from t cs (k + 1))
    by zero none long size e = absurd (true≢false (sym ((Decides-eqb (k + 1) count).1 (omega (arith, long, is))) ∙ (sym test ∙ e)))
    by (suc m) some long size e = omega (arith, size)

pub left_end : (t : Formula) (cs : List (List ClosedValue)) (k : ℕ) → length cs ≡ k → left_from t cs k ≡ no_formulas
left_end t cs k is = ap (λ (xs : List (List ClosedValue)). formulas_of (map (chosen t) xs)) (all_dropped cs k is)
  where
    all_dropped : (xs : List (List ClosedValue)) (n : ℕ) → length xs ≡ n → drop n xs ≡ []
    all_dropped [] zero e = refl
    all_dropped [] (suc n) e = absurd (omega (arith, e))
    all_dropped (x ∷ xs) zero e = absurd (omega (arith, e))
    all_dropped (x ∷ xs) (suc n) e = all_dropped xs n (omega (arith, e))

-- the first choices have one term each
pub chosen_long : (d : Declarations) (bodies : List Formula) (table : Terms) (n : ℕ) (env : List Bound) (q : Quantifier) (bound : List SortId) (t : Formula) (k : ℕ) (args : List TermId) → AreChosen d bodies table n env q bound t k args → k < length (choices_of d bound) → length args ≡ k
chosen_long d bodies table n env q bound t k args h less =
    let core = λ (vs : List ClosedValue). compiled d (compiled_calls d bodies n) h.0 (chosen t vs) in
    let first = take k (choices_of d bound) in
    AllZip-one_length (Stands table) args (map core first) h.4 ∙ length-map first core ∙ length-take-le k (choices_of d bound) (omega (arith, less))

-- ---- the variables

-- a flag for each
pub flags_long : (p : ℕ → Bool) (sorts : List SortId) (flags : List Bool) → flags ≡ flags_below p (length sorts) → length flags ≡ length sorts
flags_long p sorts flags is = ap (λ (bs : List Bool). length bs) is ∙ below (length sorts)
  where
    below : (n : ℕ) → length (flags_below p n) ≡ n
    below zero = refl
    below (suc n) = ap suc (below n)
