-- The part of a store that names only what is below a mark.
use Rattle.std.proofs.Common.{◌≡◌, ◌↔◌, ℕ, zero, suc, ◌+◌, ◌<◌, ◌≤◌, ◌⊎◌, Bool, List, [], ◌∷◌, ◌++◌, length, take, drop, get_or, All, Contains, Option, MatchOption, slice_get, refl, sym, ap, subst, ◌∙◌, inl, inr, arith, length-append}
use Rattle.std.specs.List.{AllByRecursion, flat_map}
use Rattle.std.proofs.lemmas.List.{take-append-drop}
use Rattle.std.proofs.lemmas.List.FromFn.{length-map-range_with_len}
use Rattle.std.proofs.lemmas.List.Elements.{All-from_recursion, recursion_from_All, All-weaker, All-more, Contains-append_left, Contains-append_right}
use Rattle.std.proofs.lemmas.Option.{same_Some}
use Rattle.ct_sorts.specs.declared.ids.CtorId.{CtorId}
use Rattle.ct_sorts.specs.Declarations.{Declarations, Sort, ctor_ids, start}
use Rattle.ct_sorts.specs.Lengths.{Lengths}
use Rattle.ct_sorts.specs.Marks.{CanCut}
use Rattle.ct_terms.specs.declared.ids.TermId.{TermId}
use Rattle.ct_terms.specs.declared.term.Core.TheVariants.{Con}
use Rattle.ct_terms.specs.Terms.{Terms, AreOrdered, BeginsWithTruths, truth_terms}
use Rattle.ct_terms.specs.CoreTree.{term_at}
use Rattle.ct_closure.specs.ClosedTable.{terms_at}
use Rattle.ct_restriction.specs.Renamed.{number_in}
use Rattle.ct_restriction.specs.Restricted.{IsSubtermOfOne, IsMarked}
use Rattle.ct_restriction.specs.Renumbered.{IsEqualTerm, Numbers, IsNumber, IsKnown}
use Rattle.ct_lemmas.proofs.Each.{All-at}
use Rattle.ct_lemmas.proofs.Contained.{slice_get-from_Contains, Contains-from_slice_get, Contains-map_cases}
use Rattle.ct_kept.specs.declared.lemma.Lemma.{Lemma}
use Rattle.ct_kept.specs.Lemmas.{renamed_lemma, lemma_terms, IsMoved}
use Rattle.ct_kept.specs.Kept.{IsOver, IsStore, most_lemmas}
use Rattle.ct_kept.specs.Names.{NamesBelow, IsNamed, AreNamed}
use Rattle.ct_kept.specs.Chosen.{AreRoots, IsKnownLemma, AreLemmasBy}
use Rattle.ct_kept.proofs.ChosenLemmas.{chosen_next, chosen_otherwise, chosen_all, chosen_length}
use Rattle.ct_kept.proofs.MovedLemmas.{moved_by}
use Rattle.ct_kept.proofs.NamingLemmas.{names_of_parts, names_subterm}
use Rattle.ct_kept.proofs.TakenLemmas.{one_over}

-- the second of two lists stands in both
pub contains_second : (xs ys : List TermId) → All (Contains (xs ++ ys)) ys
contains_second xs ys = All-weaker (Contains ys) (Contains (xs ++ ys)) (λ t h. Contains-append_right xs ys t h) ys (All-from_recursion (Contains ys) ys (each ys ys (λ t h. h)))
  where
    each : (zs ts : List TermId) → ((t : TermId) → Contains ts t → Contains zs t) → AllByRecursion (Contains zs) ts
    each zs [] into = tt
    each zs (t ∷ ts) into = (into t (Contains-append_left (t ∷ []) ts t (Contains-from_slice_get (t ∷ []) 0 t refl)), each zs ts (λ u h. into u (Contains-append_right (t ∷ []) ts u h)))

-- the roots of one lemma more
pub roots_more : (marks : List Bool) (lemmas : List Lemma) (i : ℕ) (d : Lemma) (before after : List TermId) → i < length lemmas → AreRoots marks (take i lemmas) before →
    ((t : TermId) → Contains before t → Contains after t) → (All (IsMarked marks) before → All (IsMarked marks) after) →
    (All (IsMarked marks) (lemma_terms (get_or lemmas i d)) → All (Contains after) (lemma_terms (get_or lemmas i d))) → AreRoots marks (take (i + 1) lemmas) after
roots_more marks lemmas i d before after within roots stays marked all = record {
  marked = marked roots.marked;
  all = All-more (λ (lemma : Lemma). All (IsMarked marks) (lemma_terms lemma) → All (Contains after) (lemma_terms lemma)) lemmas i d within
      (All-weaker (λ (lemma : Lemma). All (IsMarked marks) (lemma_terms lemma) → All (Contains before) (lemma_terms lemma)) (λ (lemma : Lemma). All (IsMarked marks) (lemma_terms lemma) → All (Contains after) (lemma_terms lemma))
      (λ lemma h m. All-weaker (Contains before) (Contains after) stays (lemma_terms lemma) (h m)) (take i lemmas) roots.all)
      all;
}

-- the part of a store with one lemma more, where it was moved or left out
pub chosen_moved : (n : Numbers) (lemmas : List Lemma) (i : ℕ) (given d : Lemma) → i < length lemmas → given ≡ get_or lemmas i d → (before after : List Lemma) (found : Option Lemma) → AreLemmasBy n (take i lemmas) before →
    MatchOption found (All (IsKnown n) (lemma_terms given) → ⊥) (λ moved. All (IsKnown n) (lemma_terms given) × (moved ≡ renamed_lemma (number_in n.numbers) given)) → MatchOption found (after ≡ before) (λ moved. after ≡ before ++ moved ∷ []) →
    AreLemmasBy n (take (i + 1) lemmas) after
chosen_moved n lemmas i given d within is before after found chosen holds more =
    chosen_next (IsKnownLemma n) (λ (lemma moved : Lemma). moved ≡ renamed_lemma (number_in n.numbers) lemma)
    (λ (moved : Lemma). All (IsKnown n) (lemma_terms (get_or lemmas i d)) × (moved ≡ renamed_lemma (number_in n.numbers) (get_or lemmas i d))) lemmas i d within before after found chosen (λ moved h. h)
    (subst (λ (l : Lemma). MatchOption found (All (IsKnown n) (lemma_terms l) → ⊥) (λ moved. All (IsKnown n) (lemma_terms l) × (moved ≡ renamed_lemma (number_in n.numbers) l))) is holds) more

-- `true` and `false` are below each mark
two_ctors : (d : Declarations) (m : Lengths) → CanCut d m → take 1 d.sorts ≡ start.sorts → 1 ≤ m.sorts → 2 ≤ m.ctors
two_ctors d m can first some =
    omega (arith, more d.sorts m.sorts first some, ap length can.whole_sorts, length-map-range_with_len {X = CtorId} (λ n. record { 0 = n }) 0 m.ctors)
  where
    more : (sorts : List Sort) (k : ℕ) → take 1 sorts ≡ start.sorts → 1 ≤ k → 2 ≤ length (flat_map (λ (s : Sort). s.ctors) (take k sorts))
    more sorts zero e some = absurd (omega (arith, some))
    more [] (suc k) e some = absurd (omega (arith, ap length e))
    more (s ∷ sorts) (suc k) e some =
        let is : s.ctors ≡ ctor_ids 0 2 = ap (λ (t : Sort). t.ctors) (same_Some _ _ (ap (λ (ss : List Sort). slice_get ss 0) e)) in
        omega (arith, length-append s.ctors (flat_map (λ (s : Sort). s.ctors) (take k sorts)), ap length is, length-map-range_with_len {X = CtorId} (λ n. record { 0 = n }) 0 2)

module _ (d : Declarations) (m : Lengths) (can : CanCut d m) (first : take 1 d.sorts ≡ start.sorts) (some : 1 ≤ m.sorts)
    (table made : Terms) (lemmas : List Lemma) (marks : List Bool) (roots : List TermId) (n : Numbers)
    (named : (t : TermId) → IsMarked marks t ↔ ((t.0 < length table) × NamesBelow m (term_at table t)))
    (are_roots : AreRoots marks lemmas roots) (over : All (IsOver table) lemmas)
    (equal : (t u : TermId) → IsNumber n t u → IsEqualTerm table made t u) (known : All (IsKnown n) roots)
    (ordered : AreOrdered made) (begins : BeginsWithTruths made)
    (only : (u : TermId) → u.0 < length made → (u.0 < 2) ⊎ IsSubtermOfOne (terms_at table roots) (term_at made u)) where
  -- `true` and `false` name themselves
  truth_names : (u : TermId) → u.0 < 2 → NamesBelow m (term_at made u)
  truth_names u low =
      let two = two_ctors d m can first some in
      let split : made ≡ truth_terms ++ drop 2 made = sym (take-append-drop 2 made) ∙ ap (λ (ts : Terms). ts ++ drop 2 made) begins in
      by u.0 low two split
    where
      by : (k : ℕ) → k < 2 → 2 ≤ m.ctors → made ≡ truth_terms ++ drop 2 made → NamesBelow m (term_at made (record { 0 = k }))
      by zero low two split = names_of_parts m made (record { 0 = 0 }) (Con (record { 0 = 0 }) []) ordered (_, ap (λ (ts : Terms). slice_get ts 0) split) (omega (arith, two)) tt
      by (suc zero) low two split = names_of_parts m made (record { 0 = 1 }) (Con (record { 0 = 1 }) []) ordered (_, ap (λ (ts : Terms). slice_get ts 1) split) (omega (arith, two)) tt
      by (suc (suc k)) low two split = absurd (omega (arith, low))

  -- all terms of the new table name only what is below the mark
  pub only_named : (u : TermId) → u.0 < length made → NamesBelow m (term_at made u)
  only_named u there = elim (only u there) [
    | inl truth ↦ truth_names u truth
    | inr copy ↦
        let root = Contains-map_cases (term_at table) roots copy.0 copy.1 in
        let place = slice_get-from_Contains roots root.0 root.1 in
        let names = ((named root.0).0 (All-at (IsMarked marks) roots place.0 root.0 are_roots.marked place.1)).1 in
        names_subterm m copy.0 (term_at made u) (subst (NamesBelow m) root.2 names) copy.2
  ]

  -- exactly the lemmas that name only such are known
  abbrev IsRooted : Lemma → Type 0
  IsRooted lemma = IsOver table lemma × (All (IsMarked marks) (lemma_terms lemma) → All (Contains roots) (lemma_terms lemma))

  known_named : (lemma : Lemma) → IsKnownLemma n lemma → IsNamed m table lemma
  known_named lemma all =
      All-weaker (IsKnown n) (λ t. NamesBelow m (term_at table t))
      (λ t k. let e = equal t k.0 k.1 in subst (NamesBelow m) e.tree (only_named k.0 e.within)) (lemma_terms lemma) all

  named_known : (lemma : Lemma) → IsRooted lemma → IsNamed m table lemma → IsKnownLemma n lemma
  named_known lemma rooted names =
      let marked : All (IsMarked marks) (lemma_terms lemma) =
      All-from_recursion (IsMarked marks) (lemma_terms lemma)
      (both (lemma_terms lemma) (recursion_from_All (λ t. t.0 < length table) (lemma_terms lemma) rooted.0) (recursion_from_All (λ t. NamesBelow m (term_at table t)) (lemma_terms lemma) names)) in
      All-weaker (Contains roots) (IsKnown n) (λ t inside. let place = slice_get-from_Contains roots t inside in All-at (IsKnown n) roots place.0 t known place.1) (lemma_terms lemma) (rooted.1 marked)
    where
      both : (ts : List TermId) → AllByRecursion (λ t. t.0 < length table) ts → AllByRecursion (λ t. NamesBelow m (term_at table t)) ts → AllByRecursion (IsMarked marks) ts
      both [] low all = tt
      both (t ∷ ts) low all = ((named t).1 (low.0, all.0), both ts low.1 all.1)

  rooted_all : (ls : List Lemma) → AllByRecursion (IsOver table) ls → AllByRecursion (λ lemma. All (IsMarked marks) (lemma_terms lemma) → All (Contains roots) (lemma_terms lemma)) ls → AllByRecursion IsRooted ls
  rooted_all [] one other = tt
  rooted_all (lemma ∷ ls) one other = ((one.0, other.0), rooted_all ls one.1 other.1)

  module _ (chosen : List Lemma) (by : AreLemmasBy n lemmas chosen) where
    pub are_named : AreNamed m (record { table = table; lemmas = lemmas }) (record { table = made; lemmas = chosen })
    are_named =
        chosen_otherwise (IsKnownLemma n) (IsNamed m table) (λ lemma moved. moved ≡ renamed_lemma (number_in n.numbers) lemma) (IsMoved table made) IsRooted
        (λ lemma rooted. (known_named lemma, named_known lemma rooted))
        (λ lemma moved rooted all is. subst (IsMoved table made lemma) (sym is) (moved_by table made n lemma equal all)) lemmas chosen
        (rooted_all lemmas (recursion_from_All (IsOver table) lemmas over)
        (recursion_from_All (λ lemma. All (IsMarked marks) (lemma_terms lemma) → All (Contains roots) (lemma_terms lemma)) lemmas are_roots.all))
        by

    pub is_store : length lemmas ≤ most_lemmas → IsStore (record { table = made; lemmas = chosen })
    is_store few = record {
      few = omega (arith, few, chosen_length (IsKnownLemma n) (λ lemma moved. moved ≡ renamed_lemma (number_in n.numbers) lemma) lemmas chosen by);
      over = All-from_recursion (IsOver made) chosen
          (chosen_all (IsKnownLemma n) (λ lemma moved. moved ≡ renamed_lemma (number_in n.numbers) lemma) (IsOver made)
          (λ lemma moved all is. subst (IsOver made) (sym is) (one_over table made n equal lemma all)) lemmas chosen by);
    }
