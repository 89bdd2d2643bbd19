-- Tables that hold exactly some core terms with their subterms: the first one, one with one core term more, and how many terms
-- there are.
use Rattle.std.proofs.Common.{◌≡◌, ◌∙◌, ℕ, zero, suc, ◌+◌, ◌<◌, ◌≤◌, ◌⊎◌, List, [], ◌∷◌, ◌++◌, length, Contains, slice_get, Some, refl, sym, ap, subst, inl, inr, arith}
use Rattle.std.proofs.lemmas.List.{length-append}
use Rattle.std.proofs.lemmas.List.Elements.{Contains-append_cases, Contains-append_left, Contains-append_right}
use Rattle.std.proofs.lemmas.Option.{slice_get_within, same_Some}
use Rattle.ct_lemmas.proofs.Contained.{Contains-cons, Contains-first, Contains-from_slice_get, Contains-none, slice_get-from_Contains}
use Rattle.ct_lemmas.proofs.Lists.{slice_get-append_left, slice_get-last, slice_get-prefix}
use Rattle.ct_lemmas.proofs.Numbers.{below_or_not, last_or_before}
use Rattle.ct_sorts.specs.Declarations.{Declarations}
use Rattle.ct_terms.specs.declared.ids.TermId.{TermId}
use Rattle.ct_terms.specs.Terms.{Terms, AreSorted, AreOrdered, AreSingle, most_terms}
use Rattle.ct_terms.specs.CoreTree.{CoreTree, subtrees, term_at}
use Rattle.ct_closure.specs.Closed.{truth_trees}
use Rattle.ct_closure.specs.ClosedTable.{HasTree}
use Rattle.ct_compile.specs.Effect.{IsPrefix, DoNotFit}
use Rattle.ct_stack.specs.Theorems.{Theorems}
use Rattle.ct_stack.specs.Refusal.{HasManyTerms}
use Rattle.ct_stack.specs.Held.{IsTableOf}
use Rattle.ct_stack.proofs.ListLemmas.{no_longer}

abbrev id : ℕ → TermId
id k = record { 0 = k }

-- the trees of the terms below a number, in order
abbrev trees_below : Terms → ℕ → List CoreTree
trees_below table zero = []
trees_below table (suc n) = trees_below table n ++ (term_at table (id n) ∷ [])

module _ (table : Terms) where
  long_below : (n : ℕ) → length (trees_below table n) ≡ n
  long_below zero = refl
  long_below (suc n) = omega (arith, length-append (trees_below table n) (term_at table (id n) ∷ []), long_below n)

  tree_below_at : (n k : ℕ) → k < n → slice_get (trees_below table n) k ≡ Some (term_at table (id k))
  tree_below_at zero k h = absurd (omega arith)
  tree_below_at (suc n) k h =
      elim (last_or_before k n (omega arith)) [
        | inl before ↦ slice_get-append_left (trees_below table n) (term_at table (id n) ∷ []) k (term_at table (id k)) (tree_below_at n k before)
        | inr last ↦
            subst (λ (i : ℕ). slice_get (trees_below table n ++ (term_at table (id n) ∷ [])) i ≡ Some (term_at table (id i))) (sym last)
            (subst (λ (i : ℕ). slice_get (trees_below table n ++ (term_at table (id n) ∷ [])) i ≡ Some (term_at table (id n))) (long_below n)
            (slice_get-last (trees_below table n) (term_at table (id n))))
      ]

-- all trees of the table
all_trees : Terms → List CoreTree
all_trees table = trees_below table (length table)

module _ (table : Terms) where
  tree_at : (k : ℕ) (t : CoreTree) → slice_get (all_trees table) k ≡ Some t → (k < length table) × (term_at table (id k) ≡ t)
  unfolding all_trees
  tree_at k t e =
      let within : k < length table = omega (arith, slice_get_within (trees_below table (length table)) k t e, long_below table (length table)) in
      (within, same_Some (term_at table (id k)) t (sym (tree_below_at table (length table) k within) ∙ e))

  stands_listed : (t : CoreTree) → HasTree table t → Contains (all_trees table) t
  unfolding all_trees
  stands_listed t (n, within, e) = Contains-from_slice_get (trees_below table (length table)) n.0 t (tree_below_at table (length table) n.0 within ∙ ap Some e)

  listed_stands : (t : CoreTree) → Contains (all_trees table) t → HasTree table t
  listed_stands t h =
      let found = slice_get-from_Contains (all_trees table) t h in
      let here = tree_at found.0 t found.1 in
      (id found.0, here.0, here.1)

  long_trees : length (all_trees table) ≡ length table
  unfolding all_trees
  long_trees = long_below table (length table)

-- a table has no more terms than there may be, and so no more terms are needed
pub few_terms : (d : Declarations) (roots : List CoreTree) (table : Terms) → IsTableOf d roots table → length table ≤ most_terms → HasManyTerms roots → ⊥
few_terms d roots table of few many =
    let inside : (t : CoreTree) → Contains many.terms t → Contains (all_trees table) t = λ t h.
    let root = many.inside t h in
    stands_listed table t (of.complete root.0 t root.1 root.2)
    in
    absurd (omega (arith, no_longer many.terms (all_trees table) many.different inside, many.many, few, long_trees table))

-- a root is one with more roots
more_roots : (roots : List CoreTree) (c root : CoreTree) → Contains (truth_trees ++ roots) root → Contains (truth_trees ++ (roots ++ c ∷ [])) root
more_roots roots c root h =
    elim (Contains-append_cases truth_trees roots root h) [
      | inl truth ↦ Contains-append_left truth_trees (roots ++ c ∷ []) root truth
      | inr old ↦ Contains-append_right truth_trees (roots ++ c ∷ []) root (Contains-append_left roots (c ∷ []) root old)
    ]

last_root : (roots : List CoreTree) (c : CoreTree) → Contains (truth_trees ++ (roots ++ c ∷ [])) c
last_root roots c = Contains-append_right truth_trees (roots ++ c ∷ []) c (Contains-append_right roots (c ∷ []) c (Contains-first c []))

-- a root was one, or is the last
root_cases : (roots : List CoreTree) (c root : CoreTree) → Contains (truth_trees ++ (roots ++ c ∷ [])) root → Contains (truth_trees ++ roots) root ⊎ (c ≡ root)
root_cases roots c root h =
    elim (Contains-append_cases truth_trees (roots ++ c ∷ []) root h) [
      | inl truth ↦ inl (Contains-append_left truth_trees roots root truth)
      | inr some ↦ elim (Contains-append_cases roots (c ∷ []) root some) [
        | inl old ↦ inl (Contains-append_right truth_trees roots root old)
        | inr last ↦ elim (Contains-cons c [] root last) [
          | inl same ↦ inr same
          | inr none ↦ absurd (Contains-none root none)
        ]
      ]
    ]

module _ (theorems : Theorems) (d : Declarations) (roots : List CoreTree) (old : Terms) (of : IsTableOf d roots old) (ordered : AreOrdered old) (single : AreSingle old) (c : CoreTree) where
  -- terms that do not fit are too many
  module _ (trees : List CoreTree) (unfit : DoNotFit (subtrees c) old trees) where
    all : List CoreTree
    all = all_trees old ++ trees

    abbrev Split : ℕ → CoreTree → Type 0
    Split i t = ((i < length old) × (term_at old (id i) ≡ t)) ⊎ ((j : ℕ) × (i ≡ length old + j) × (slice_get trees j ≡ Some t))

    past : (xs : List CoreTree) (i : ℕ) (t : CoreTree) → length xs ≤ i → slice_get (xs ++ trees) i ≡ Some t → (j : ℕ) × (i ≡ length xs + j) × (slice_get trees j ≡ Some t)
    past [] i t h e = (i, omega arith, e)
    past (x ∷ xs) zero t h e = absurd (omega (arith, h))
    past (x ∷ xs) (suc i) t h e = let p = past xs i t (omega (arith, h)) e in (p.0, omega (arith, p.1), p.2)

    split : (i : ℕ) (t : CoreTree) → slice_get all i ≡ Some t → Split i t
    unfolding all
    split i t e =
        elim (below_or_not i (length (all_trees old))) [
          | inl below ↦ inl (tree_at old i t (sym (slice_get-prefix (all_trees old) trees i below) ∙ e))
          | inr from ↦ let p = past (all_trees old) i t from e in inr (p.0, omega (arith, p.1, long_trees old), p.2)
        ]

    apart : (i j : ℕ) (t : CoreTree) → Split i t → Split j t → i ≡ j
    apart i j t (inl a) (inl b) =
        ap (λ (n : TermId). n.0) (theorems.one old (id i) (id j) ordered single a.0 b.0 (a.1 ∙ sym b.1))
    apart i j t (inl a) (inr b) = absurd (unfit.missing b.0 t b.2 (id i) a.0 a.1)
    apart i j t (inr a) (inl b) = absurd (unfit.missing a.0 t a.2 (id j) b.0 b.1)
    apart i j t (inr a) (inr b) = omega (arith, a.1, b.1, unfit.different a.0 b.0 t a.2 b.2)

    inside : (t : CoreTree) → Contains all t → (root : CoreTree) × Contains (truth_trees ++ (roots ++ c ∷ [])) root × Contains (subtrees root) t
    unfolding all
    inside t h =
        elim (Contains-append_cases (all_trees old) trees t h) [
          | inl there ↦
              let n = listed_stands old t there in
              let root = of.covered n.0 n.1 in
              (root.0, more_roots roots c root.0 root.1, subst (Contains (subtrees root.0)) n.2 root.2)
          | inr new ↦ let at = slice_get-from_Contains trees t new in (c, last_root roots c, unfit.inside at.0 t at.1)
        ]

    many : most_terms < length all
    unfolding all
    many = omega (arith, length-append (all_trees old) trees, long_trees old, unfit.many)

    pub too_many : HasManyTerms (roots ++ c ∷ [])
    too_many =
        record {
          terms = all;
          different = λ i j t at_i at_j. apart i j t (split i t at_i) (split j t at_j);
          inside = inside;
          many = many;
        }

  -- one core term more, with what was made for it
  module _ (new : Terms) (grown : IsPrefix old new) (ordered_new : AreOrdered new) (sorted : AreSorted d new) (made : (t : TermId) → length old ≤ t.0 → t.0 < length new → Contains (subtrees c) (term_at new t)) (all_made : (s : CoreTree) → Contains (subtrees c) s → HasTree new s) where
    long : length new ≡ length old + length grown.0
    long = ap (λ (ts : Terms). length ts) grown.1 ∙ length-append old grown.0

    stays : (u : TermId) → u.0 < length old → term_at new u ≡ term_at old u
    stays u within = ap (λ (ts : Terms). term_at ts u) grown.1 ∙ theorems.longer old grown.0 u (subst AreOrdered grown.1 ordered_new) within

    stands_still : (s : CoreTree) → HasTree old s → HasTree new s
    stands_still s (u, within, e) = (u, omega (arith, within, long), stays u within ∙ e)

    pub one_more_core : IsTableOf d (roots ++ c ∷ []) new
    one_more_core =
        record {
          sorted = sorted;
          covered = λ t within.
              elim (below_or_not t.0 (length old)) [
                | inl below ↦ let root = of.covered t below in (root.0, more_roots roots c root.0 root.1, subst (Contains (subtrees root.0)) (sym (stays t below)) root.2)
                | inr from ↦ (c, last_root roots c, made t from within)
              ];
          complete = λ root s h sub.
              elim (root_cases roots c root h) [
                | inl was ↦ stands_still s (of.complete root s was sub)
                | inr last ↦ all_made s (subst (λ (r : CoreTree). Contains (subtrees r) s) (sym last) sub)
              ];
        }
