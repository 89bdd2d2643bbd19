-- Where the table was found full, the terms that were added and one more did not fit.
use Rattle.std.proofs.Common.{◌≡◌, ℕ, zero, suc, ◌+◌, ◌<◌, List, [], ◌∷◌, length, Contains, Some, slice_get, refl, sym, ap, subst, ◌∙◌, arith}
use Rattle.std.proofs.lemmas.List.{length-append}
use Rattle.std.proofs.lemmas.Option.{none-some, same_Some}
use Rattle.ct_sorts.specs.Declarations.{Declarations}
use Rattle.ct_terms.specs.declared.ids.TermId.{TermId}
use Rattle.ct_terms.specs.Terms.{Terms}
use Rattle.ct_terms.specs.CoreTree.{CoreTree, term_at}
use Rattle.ct_operators.specs.Effect.{IsSoundTable, IsPrefix, AddsTrees, IsMissing, Lacks, AreDifferent, DoNotFit}
use Rattle.ct_operators.proofs.EffectLemmas.{prefix_length, same_tree}

abbrev id : ℕ → TermId
id k = record { 0 = k }

-- so many trees of the table, from a number on
abbrev trees_from : Terms → ℕ → ℕ → List CoreTree
trees_from table k zero = []
trees_from table k (suc m) = term_at table (id k) ∷ trees_from table (suc k) m

count_from : (table : Terms) (k m : ℕ) → length (trees_from table k m) ≡ m
count_from table k zero = refl
count_from table k (suc m) = ap suc (count_from table (suc k) m)

at_index : (table : Terms) (k m i : ℕ) (t : CoreTree) → slice_get (trees_from table k m) i ≡ Some t → (i < m) × (term_at table (id (k + i)) ≡ t)
at_index table k zero i t e = absurd (none-some t e)
at_index table k (suc m) zero t e =
    let n : k + 0 ≡ k = omega arith in
    (omega arith, ap (λ (x : ℕ). term_at table (id x)) n ∙ same_Some (term_at table (id k)) t e)
at_index table k (suc m) (suc i) t e =
    let h = at_index table (suc k) m i t e in
    let n : k + suc i ≡ suc k + i = omega arith in
    (omega (arith, h.0), ap (λ (x : ℕ). term_at table (id x)) n ∙ h.1)

module _ (d : Declarations) (allowed : List CoreTree) (old new : Terms) (grown : IsPrefix old new) (kept : IsSoundTable d new) (adds : AddsTrees allowed old new) (lacks : Lacks allowed new) where
  abbrev more : ℕ
  more = length grown.0

  abbrev trees : List CoreTree
  trees = lacks.0 ∷ trees_from new (length old) more

  long : length new ≡ length old + more
  long = ap (λ (ts : Terms). length ts) grown.1 ∙ length-append old grown.0

  different : AreDifferent trees
  different zero zero t at_i at_j = refl
  different zero (suc j) t at_i at_j =
      let h = at_index new (length old) more j t at_j in
      absurd (lacks.2 (id (length old + j)) (omega (arith, h.0, long)) (h.1 ∙ sym (same_Some lacks.0 t at_i)))
  different (suc i) zero t at_i at_j =
      let h = at_index new (length old) more i t at_i in
      absurd (lacks.2 (id (length old + i)) (omega (arith, h.0, long)) (h.1 ∙ sym (same_Some lacks.0 t at_j)))
  different (suc i) (suc j) t at_i at_j =
      let h = at_index new (length old) more i t at_i in
      let k = at_index new (length old) more j t at_j in
      let same = kept.theorems.one new (id (length old + i)) (id (length old + j)) kept.ordered kept.single (omega (arith, h.0, long)) (omega (arith, k.0, long)) (h.1 ∙ sym k.1) in
      let number : length old + i ≡ length old + j = ap (λ (u : TermId). u.0) same in
      omega (arith, number)

  inside : (i : ℕ) (t : CoreTree) → slice_get trees i ≡ Some t → Contains allowed t
  inside zero t at = subst (Contains allowed) (same_Some lacks.0 t at) lacks.1
  inside (suc i) t at =
      let h = at_index new (length old) more i t at in
      subst (Contains allowed) h.1 (adds (id (length old + i)) (omega arith) (omega (arith, h.0, long)))

  missing : (i : ℕ) (t : CoreTree) → slice_get trees i ≡ Some t → IsMissing old t
  missing zero t at u within is =
      lacks.2 u (omega (arith, within, prefix_length old new grown)) (same_tree d old new u grown kept within ∙ is ∙ sym (same_Some lacks.0 t at))
  missing (suc i) t at u within is =
      let h = at_index new (length old) more i t at in
      let same = kept.theorems.one new u (id (length old + i)) kept.ordered kept.single (omega (arith, within, prefix_length old new grown)) (omega (arith, h.0, long)) (same_tree d old new u grown kept within ∙ is ∙ sym h.1) in
      let number : u.0 ≡ length old + i = ap (λ (v : TermId). v.0) same in
      omega (arith, number, within)

  pub do_not_fit : (ts : List CoreTree) × DoNotFit allowed old ts
  do_not_fit = (
    trees,
    record {
      different = different;
      inside = inside;
      missing = missing;
      many = let count = count_from new (length old) more in let full = lacks.3 in omega (arith, count, long, full);
    },
  )
