-- The subterms of a term: itself, and those of the terms right under it; those of a term of a table are terms of the table,
-- those of a subterm are subterms, and those of a well-sorted term are well sorted.
use Rattle.std.proofs.Common.{◌≡◌, ℕ, zero, suc, ◌<◌, ◌≤◌, List, [], ◌∷◌, ◌++◌, length, map, Contains, refl, sym, ap, subst, ◌∙◌, inl, inr, arith}
use Rattle.std.specs.List.{AllByRecursion, flat_map}
use Rattle.std.proofs.lemmas.List.{append-nil}
use Rattle.std.proofs.lemmas.List.Elements.{Contains-append_cases, Contains-append_left, Contains-append_right}
use Rattle.ct_lemmas.proofs.Contained.{Contains-cons, Contains-first, Contains-rest}
use Rattle.ct_sorts.specs.declared.ids.SortId.{SortId}
use Rattle.ct_sorts.specs.Declarations.{Declarations, bool_sort}
use Rattle.ct_terms.specs.declared.ids.TermId.{TermId}
use Rattle.ct_terms.specs.Children.{core_children}
use Rattle.ct_terms.specs.Terms.{Terms, AreOrdered}
use Rattle.ct_terms.specs.CoreTree.{CoreTree, CoreTrees, con, sel, test, apply, equation, negation, conjunction, disjunction, equivalence, choice, no_trees, with_tree, list_of_trees, tree_children, subtrees, subtrees_of_all, term_at}
use Rattle.ct_terms.specs.CoreSorts.{HasTreeSort, HaveTreeSorts, AreBooleanTrees}
use Rattle.ct_terms.proofs.CoreTreeLemmas.{children_of_layer, term_at-unfolds, entry_at}

-- the subterms of several trees, one tree after the other
several : (ts : CoreTrees) → subtrees_of_all ts ≡ flat_map subtrees (list_of_trees ts)
several no_trees = refl
several (with_tree t ts) = ap (λ (us : List CoreTree). subtrees t ++ us) (several ts)

one : (t : CoreTree) → subtrees t ≡ flat_map subtrees (t ∷ [])
one t = sym (append-nil (subtrees t))

two : (a b : CoreTree) → subtrees a ++ subtrees b ≡ flat_map subtrees (a ∷ b ∷ [])
two a b = ap (λ (us : List CoreTree). subtrees a ++ us) (one b)

-- the subterms of a tree are itself and those of the trees right under it
pub subtrees-unfold : (t : CoreTree) → subtrees t ≡ t ∷ flat_map subtrees (tree_children t)
subtrees-unfold (con c ts) = ap (λ (us : List CoreTree). con c ts ∷ us) (several ts)
subtrees-unfold (sel s t) = ap (λ (us : List CoreTree). sel s t ∷ us) (one t)
subtrees-unfold (test c t) = ap (λ (us : List CoreTree). test c t ∷ us) (one t)
subtrees-unfold (apply f ts) = ap (λ (us : List CoreTree). apply f ts ∷ us) (several ts)
subtrees-unfold (equation a b) = ap (λ (us : List CoreTree). equation a b ∷ us) (two a b)
subtrees-unfold (negation t) = ap (λ (us : List CoreTree). negation t ∷ us) (one t)
subtrees-unfold (conjunction ts) = ap (λ (us : List CoreTree). conjunction ts ∷ us) (several ts)
subtrees-unfold (disjunction ts) = ap (λ (us : List CoreTree). disjunction ts ∷ us) (several ts)
subtrees-unfold (equivalence a b) = ap (λ (us : List CoreTree). equivalence a b ∷ us) (two a b)
subtrees-unfold (choice c a b) = ap (λ (us : List CoreTree). choice c a b ∷ (subtrees c ++ us)) (two a b)

-- the subterms of a term of a table, below any bound, are terms of the table with numbers that are not greater
module _ (table : Terms) (ordered : AreOrdered table) where
  -- the tree stands at a number that is not greater
  abbrev StandsUpTo : ℕ → CoreTree → Type 0
  StandsUpTo n s = (u : TermId) × (u.0 ≤ n) × (term_at table u ≡ s)

  under : (n : ℕ) → ((t : TermId) → t.0 < n → (s : CoreTree) → Contains (subtrees (term_at table t)) s → StandsUpTo t.0 s) → (ts : List TermId) → AllByRecursion (λ t. t.0 < n) ts → (s : CoreTree) → Contains (flat_map subtrees (map (term_at table) ts)) s → StandsUpTo n s
  under n each [] below s h = absurd (omega (arith, h.1))
  under n each (t ∷ ts) below s h =
      elim (Contains-append_cases (subtrees (term_at table t)) (flat_map subtrees (map (term_at table) ts)) s h) [
        | inl first ↦ let found = each t below.0 s first in (found.0, omega (arith, found.1, below.0), found.2)
        | inr rest ↦ under n each ts below.1 s rest
      ]

  below_bound : (n : ℕ) (t : TermId) → t.0 < n → t.0 < length table → (s : CoreTree) → Contains (subtrees (term_at table t)) s → StandsUpTo t.0 s
  below_bound zero t bound within s h = absurd (omega (arith, bound))
  below_bound (suc n) t bound within s h =
      let e = entry_at table t within in
      let children : tree_children (term_at table t) ≡ map (term_at table) (core_children e.0.0) =
      ap tree_children (term_at-unfolds table t e.0.0 e.0.1 ordered e.1) ∙ children_of_layer (term_at table) e.0.0 in
      let all : subtrees (term_at table t) ≡ term_at table t ∷ flat_map subtrees (map (term_at table) (core_children e.0.0)) =
      subtrees-unfold (term_at table t) ∙ ap (λ (ts : List CoreTree). term_at table t ∷ flat_map subtrees ts) children in
      let inside : Contains (term_at table t ∷ flat_map subtrees (map (term_at table) (core_children e.0.0))) s = subst (λ (ts : List CoreTree). Contains ts s) all h in
      elim (Contains-cons (term_at table t) (flat_map subtrees (map (term_at table) (core_children e.0.0))) s inside) [
        | inl same ↦ (t, omega arith, same)
        | inr deeper ↦
            under t.0 (λ u below s' h'. below_bound n u (omega (arith, below, bound)) (omega (arith, below, within)) s' h')
            (core_children e.0.0) (ordered t.0 e.0.0 (e.0.1, e.1)) s deeper
      ]

  pub subterm_stands : (t : TermId) (s : CoreTree) → t.0 < length table → Contains (subtrees (term_at table t)) s → StandsUpTo t.0 s
  subterm_stands t s within h = below_bound (suc t.0) t (omega arith) within s h

-- a tree is a subterm of itself
pub subtrees-itself : (t : CoreTree) → Contains (subtrees t) t
subtrees-itself t = subst (λ (ts : List CoreTree). Contains ts t) (sym (subtrees-unfold t)) (Contains-first t (flat_map subtrees (tree_children t)))

-- the subterms of a subterm are subterms
step_further : (t s u : CoreTree) (rest : List CoreTree) → subtrees t ≡ t ∷ rest → (Contains rest s → Contains rest u) → Contains (subtrees t) s → Contains (subtrees s) u → Contains (subtrees t) u
step_further t s u rest all step h k =
    elim (Contains-cons t rest s (subst (λ (ts : List CoreTree). Contains ts s) all h)) [
      | inl same ↦ subst (λ (x : CoreTree). Contains (subtrees x) u) (sym same) k
      | inr inner ↦ subst (λ (ts : List CoreTree). Contains ts u) (sym all) (Contains-rest t rest u (step inner))
    ]

either_further : (xs ys : List CoreTree) (s u : CoreTree) → (Contains xs s → Contains xs u) → (Contains ys s → Contains ys u) → Contains (xs ++ ys) s → Contains (xs ++ ys) u
either_further xs ys s u left right h =
    elim (Contains-append_cases xs ys s h) [ inl g ↦ Contains-append_left xs ys u (left g) | inr g ↦ Contains-append_right xs ys u (right g) ]

mutual
  pub subtrees-further : (t s u : CoreTree) → Contains (subtrees t) s → Contains (subtrees s) u → Contains (subtrees t) u
  subtrees-further (con c ts) s u h k = step_further (con c ts) s u (subtrees_of_all ts) refl (λ g. several-further ts s u g k) h k
  subtrees-further (sel f t) s u h k = step_further (sel f t) s u (subtrees t) refl (λ g. subtrees-further t s u g k) h k
  subtrees-further (test c t) s u h k = step_further (test c t) s u (subtrees t) refl (λ g. subtrees-further t s u g k) h k
  subtrees-further (apply f ts) s u h k = step_further (apply f ts) s u (subtrees_of_all ts) refl (λ g. several-further ts s u g k) h k
  subtrees-further (equation a b) s u h k =
      step_further (equation a b) s u (subtrees a ++ subtrees b) refl (λ g. either_further (subtrees a) (subtrees b) s u (λ l. subtrees-further a s u l k) (λ r. subtrees-further b s u r k) g) h k
  subtrees-further (negation t) s u h k = step_further (negation t) s u (subtrees t) refl (λ g. subtrees-further t s u g k) h k
  subtrees-further (conjunction ts) s u h k = step_further (conjunction ts) s u (subtrees_of_all ts) refl (λ g. several-further ts s u g k) h k
  subtrees-further (disjunction ts) s u h k = step_further (disjunction ts) s u (subtrees_of_all ts) refl (λ g. several-further ts s u g k) h k
  subtrees-further (equivalence a b) s u h k =
      step_further (equivalence a b) s u (subtrees a ++ subtrees b) refl (λ g. either_further (subtrees a) (subtrees b) s u (λ l. subtrees-further a s u l k) (λ r. subtrees-further b s u r k) g) h k
  subtrees-further (choice c a b) s u h k =
      step_further (choice c a b) s u (subtrees c ++ (subtrees a ++ subtrees b)) refl
      (λ g.
      either_further (subtrees c) (subtrees a ++ subtrees b) s u (λ l. subtrees-further c s u l k)
      (λ r. either_further (subtrees a) (subtrees b) s u (λ l. subtrees-further a s u l k) (λ q. subtrees-further b s u q k) r) g) h k

  several-further : (ts : CoreTrees) (s u : CoreTree) → Contains (subtrees_of_all ts) s → Contains (subtrees s) u → Contains (subtrees_of_all ts) u
  several-further no_trees s u h k = absurd (omega (arith, h.1))
  several-further (with_tree t ts) s u h k = either_further (subtrees t) (subtrees_of_all ts) s u (λ l. subtrees-further t s u l k) (λ r. several-further ts s u r k) h

-- the subterms of a well-sorted tree are well sorted
module _ (d : Declarations) where
  -- the tree has a sort
  abbrev HasSomeSort : CoreTree → Type 0
  HasSomeSort t = (sort : SortId) × HasTreeSort d t sort

  step_sorted : (t s : CoreTree) (rest : List CoreTree) → subtrees t ≡ t ∷ rest → HasSomeSort t → (Contains rest s → HasSomeSort s) → Contains (subtrees t) s → HasSomeSort s
  step_sorted t s rest all here step h =
      elim (Contains-cons t rest s (subst (λ (ts : List CoreTree). Contains ts s) all h)) [
        | inl same ↦ subst HasSomeSort same here
        | inr inner ↦ step inner
      ]

  either_sorted : (xs ys : List CoreTree) (s : CoreTree) → (Contains xs s → HasSomeSort s) → (Contains ys s → HasSomeSort s) → Contains (xs ++ ys) s → HasSomeSort s
  either_sorted xs ys s left right h = elim (Contains-append_cases xs ys s h) [ inl g ↦ left g | inr g ↦ right g ]

  mutual
    pub subtrees-sorted : (t : CoreTree) (sort : SortId) (s : CoreTree) → HasTreeSort d t sort → Contains (subtrees t) s → HasSomeSort s
    subtrees-sorted (con c ts) sort s h k = step_sorted (con c ts) s (subtrees_of_all ts) refl (sort, h) (λ g. several-sorted ts h.1 s h.4 g) k
    subtrees-sorted (sel f t) sort s h k = step_sorted (sel f t) s (subtrees t) refl (sort, h) (λ g. subtrees-sorted t h.1.sort s h.4 g) k
    subtrees-sorted (test c t) sort s h k = step_sorted (test c t) s (subtrees t) refl (sort, h) (λ g. subtrees-sorted t h.0.sort s h.2 g) k
    subtrees-sorted (apply f ts) sort s h k = step_sorted (apply f ts) s (subtrees_of_all ts) refl (sort, h) (λ g. several-sorted ts h.0.args s h.2 g) k
    subtrees-sorted (equation a b) sort s h k =
        step_sorted (equation a b) s (subtrees a ++ subtrees b) refl (sort, h) (λ g. either_sorted (subtrees a) (subtrees b) s (λ l. subtrees-sorted a h.0 s h.1 l) (λ r. subtrees-sorted b h.0 s h.2 r) g) k
    subtrees-sorted (negation t) sort s h k = step_sorted (negation t) s (subtrees t) refl (sort, h) (λ g. subtrees-sorted t bool_sort s h.0 g) k
    subtrees-sorted (conjunction ts) sort s h k = step_sorted (conjunction ts) s (subtrees_of_all ts) refl (sort, h) (λ g. booleans-sorted ts s h.1 g) k
    subtrees-sorted (disjunction ts) sort s h k = step_sorted (disjunction ts) s (subtrees_of_all ts) refl (sort, h) (λ g. booleans-sorted ts s h.1 g) k
    subtrees-sorted (equivalence a b) sort s h k =
        step_sorted (equivalence a b) s (subtrees a ++ subtrees b) refl (sort, h) (λ g. either_sorted (subtrees a) (subtrees b) s (λ l. subtrees-sorted a bool_sort s h.0 l) (λ r. subtrees-sorted b bool_sort s h.1 r) g) k
    subtrees-sorted (choice c a b) sort s h k =
        step_sorted (choice c a b) s (subtrees c ++ (subtrees a ++ subtrees b)) refl (sort, h)
        (λ g.
        either_sorted (subtrees c) (subtrees a ++ subtrees b) s (λ l. subtrees-sorted c bool_sort s h.0 l)
        (λ r. either_sorted (subtrees a) (subtrees b) s (λ l. subtrees-sorted a sort s h.1 l) (λ q. subtrees-sorted b sort s h.2 q) r) g) k

    several-sorted : (ts : CoreTrees) (sorts : List SortId) (s : CoreTree) → HaveTreeSorts d ts sorts → Contains (subtrees_of_all ts) s → HasSomeSort s
    several-sorted no_trees sorts s h k = absurd (omega (arith, k.1))
    several-sorted (with_tree t ts) [] s h k = absurd h
    several-sorted (with_tree t ts) (r ∷ sorts) s h k = either_sorted (subtrees t) (subtrees_of_all ts) s (λ l. subtrees-sorted t r s h.0 l) (λ g. several-sorted ts sorts s h.1 g) k

    booleans-sorted : (ts : CoreTrees) (s : CoreTree) → AreBooleanTrees d ts → Contains (subtrees_of_all ts) s → HasSomeSort s
    booleans-sorted no_trees s h k = absurd (omega (arith, k.1))
    booleans-sorted (with_tree t ts) s h k = either_sorted (subtrees t) (subtrees_of_all ts) s (λ l. subtrees-sorted t bool_sort s h.0 l) (λ g. booleans-sorted ts s h.1 g) k
