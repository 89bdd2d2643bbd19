-- What a term names: its head, and what the terms right under it name.
use Rattle.std.proofs.Common.{◌≡◌, ◌↔◌, ℕ, ◌+◌, ◌<◌, Bool, true, List, [], ◌∷◌, ◌++◌, length, map, Contains, Some, slice_get, sym, ap, subst, ◌∙◌, inl, inr, arith}
use Rattle.std.specs.List.{AllByRecursion, flat_map}
use Rattle.std.proofs.lemmas.List.Elements.{Contains-append_left, Contains-append_right, Contains-append_cases}
use Rattle.ct_sorts.specs.Lengths.{Lengths}
use Rattle.ct_terms.specs.declared.ids.TermId.{TermId}
use Rattle.ct_terms.specs.declared.term.Core.{Core}
use Rattle.ct_terms.specs.Children.{core_head, core_children}
use Rattle.ct_terms.specs.Terms.{Terms, Has, AreOrdered}
use Rattle.ct_terms.specs.CoreTree.{CoreTree, tree_head, tree_children, subtrees, term_at}
use Rattle.ct_terms.proofs.CoreTreeLemmas.{term_at-unfolds, head_of_layer, children_of_layer}
use Rattle.ct_terms.proofs.SubtreeLemmas.{subtrees-unfold, subtrees-itself, subtrees-further}
use Rattle.ct_restriction.specs.Restricted.{IsMarked}
use Rattle.ct_lemmas.proofs.Contained.{Contains-cons, Contains-none}
use Rattle.ct_lemmas.proofs.Lists.{slice_get-push_cases, slice_get-append_left, slice_get-last}
use Rattle.ct_lemmas.proofs.Numbers.{last_or_before}
use Rattle.ct_kept.specs.Names.{IsHeadBelow, NamesBelow}

module _ (m : Lengths) where
  -- the subterms of terms that name only what is below
  each_names : (ts : List CoreTree) → AllByRecursion (NamesBelow m) ts → (s : CoreTree) → Contains (flat_map subtrees ts) s → IsHeadBelow m (tree_head s)
  each_names [] all s h = absurd (Contains-none s h)
  each_names (t ∷ ts) all s h = elim (Contains-append_cases (subtrees t) (flat_map subtrees ts) s h) [
    | inl here ↦ all.0 s here
    | inr later ↦ each_names ts all.1 s later
  ]

  names_each : (ts : List CoreTree) → ((s : CoreTree) → Contains (flat_map subtrees ts) s → IsHeadBelow m (tree_head s)) → AllByRecursion (NamesBelow m) ts
  names_each [] all = tt
  names_each (t ∷ ts) all = (λ s h. all s (Contains-append_left (subtrees t) (flat_map subtrees ts) s h), names_each ts (λ s h. all s (Contains-append_right (subtrees t) (flat_map subtrees ts) s h)))

  module _ (table : Terms) (t : TermId) (core : Core) (ordered : AreOrdered table) (has : Has table core t.0) where
    abbrev tree : TermId → CoreTree
    tree = term_at table

    head_is : tree_head (tree t) ≡ core_head core
    head_is = ap tree_head (term_at-unfolds table t core has.0 ordered has.1) ∙ head_of_layer tree core

    children_are : tree_children (tree t) ≡ map tree (core_children core)
    children_are = ap tree_children (term_at-unfolds table t core has.0 ordered has.1) ∙ children_of_layer tree core

    all_are : subtrees (tree t) ≡ tree t ∷ flat_map subtrees (map tree (core_children core))
    all_are = subtrees-unfold (tree t) ∙ ap (λ (ts : List CoreTree). tree t ∷ flat_map subtrees ts) children_are

    of_map : (cs : List TermId) → AllByRecursion (λ c. NamesBelow m (tree c)) cs → AllByRecursion (NamesBelow m) (map tree cs)
    of_map [] all = tt
    of_map (c ∷ cs) all = (all.0, of_map cs all.1)

    to_map : (cs : List TermId) → AllByRecursion (NamesBelow m) (map tree cs) → AllByRecursion (λ c. NamesBelow m (tree c)) cs
    to_map [] all = tt
    to_map (c ∷ cs) all = (all.0, to_map cs all.1)

    -- a term names only what is below where its head and the terms right under it do
    pub names_of_parts : IsHeadBelow m (core_head core) → AllByRecursion (λ c. NamesBelow m (tree c)) (core_children core) → NamesBelow m (tree t)
    names_of_parts head all s h =
        elim (Contains-cons (tree t) (flat_map subtrees (map tree (core_children core))) s (subst (λ (ts : List CoreTree). Contains ts s) all_are h)) [
          | inl same ↦ subst (λ (r : CoreTree). IsHeadBelow m (tree_head r)) same (subst (IsHeadBelow m) (sym head_is) head)
          | inr later ↦ each_names (map tree (core_children core)) (of_map (core_children core) all) s later
        ]

    -- and then they do
    pub head_of_names : NamesBelow m (tree t) → IsHeadBelow m (core_head core)
    head_of_names names = subst (IsHeadBelow m) head_is (names (tree t) (subtrees-itself (tree t)))

    pub parts_of_names : NamesBelow m (tree t) → AllByRecursion (λ c. NamesBelow m (tree c)) (core_children core)
    parts_of_names names =
        to_map (core_children core)
        (names_each (map tree (core_children core)) (λ s h. names s (subst (λ (ts : List CoreTree). Contains ts s) (sym all_are) (cons_rest s h))))
      where
        cons_rest : (s : CoreTree) → Contains (flat_map subtrees (map tree (core_children core))) s → Contains (tree t ∷ flat_map subtrees (map tree (core_children core))) s
        cons_rest s h = Contains-append_right (tree t ∷ []) (flat_map subtrees (map tree (core_children core))) s h

-- a subterm of a term that names only what is below does so
pub names_subterm : (m : Lengths) (t s : CoreTree) → NamesBelow m t → Contains (subtrees t) s → NamesBelow m s
names_subterm m t s names h u inside = names u (subtrees-further t s u h inside)

-- one mark more
module _ (m : Lengths) (table : Terms) (marks : List Bool) (k : ℕ) (core : Core) (ordered : AreOrdered table) (has : Has table core k) (long : length marks ≡ k)
    (named : (u : TermId) → IsMarked marks u ↔ ((u.0 < k) × NamesBelow m (term_at table u))) where
  abbrev here : TermId
  here = record { 0 = k }

  marked_names : (cs : List TermId) → AllByRecursion (IsMarked marks) cs → AllByRecursion (λ c. NamesBelow m (term_at table c)) cs
  marked_names [] all = tt
  marked_names (c ∷ cs) all = (((named c).0 all.0).1, marked_names cs all.1)

  names_marked : (cs : List TermId) → AllByRecursion (λ c. c.0 < k) cs → AllByRecursion (λ c. NamesBelow m (term_at table c)) cs → AllByRecursion (IsMarked marks) cs
  names_marked [] low all = tt
  names_marked (c ∷ cs) low all = ((named c).1 (low.0, all.0), names_marked cs low.1 all.1)

  module _ (yes : Bool) (is : (yes ≡ true) ↔ (IsHeadBelow m (core_head core) × AllByRecursion (IsMarked marks) (core_children core))) where
    pub named_more : (u : TermId) → IsMarked (marks ++ yes ∷ []) u ↔ ((u.0 < k + 1) × NamesBelow m (term_at table u))
    named_more u = (
      λ marked. elim (slice_get-push_cases marks yes true u.0 marked) [
        | inl before ↦ let was = (named u).0 before in (omega (arith, was.0), was.1)
        | inr last ↦
            let parts = is.0 last.1 in
            let at : u ≡ here = ap (λ (i : ℕ). record { 0 = i }) (last.0 ∙ long) in
            (omega (arith, last.0, long), subst (λ (v : TermId). NamesBelow m (term_at table v)) (sym at) (names_of_parts m table here core ordered has parts.0 (marked_names (core_children core) parts.1)))
      ],
      λ names. elim (last_or_before u.0 k names.0) [
        | inl before ↦ slice_get-append_left marks (yes ∷ []) u.0 true ((named u).1 (before, names.1))
        | inr same ↦
            let at : u ≡ here = ap (λ (i : ℕ). record { 0 = i }) same in
            let names_here = subst (λ (v : TermId). NamesBelow m (term_at table v)) at names.1 in
            let set : yes ≡ true = is.1 (head_of_names m table here core ordered has names_here, names_marked (core_children core) (ordered k core has) (parts_of_names m table here core ordered has names_here)) in
            subst (λ (b : Bool). slice_get (marks ++ yes ∷ []) u.0 ≡ Some b) set (subst (λ (i : ℕ). slice_get (marks ++ yes ∷ []) i ≡ Some yes) (long ∙ sym same) (slice_get-last marks yes))
      ],
    )
