-- Marks of subterms: one more mark, and one more term with what is under it.
use Rattle.std.proofs.Common.{◌≡◌, ℕ, ◌+◌, ◌<◌, ◌≤◌, ◌⊎◌, Bool, true, List, [], ◌∷◌, length, map, Contains, sym, ap, subst, ◌∙◌, inl, inr, arith}
use Rattle.std.specs.List.{AllByRecursion, flat_map}
use Rattle.std.proofs.lemmas.List.Elements.{Contains-append_left, Contains-append_right}
use Rattle.std.proofs.lemmas.Option.{slice_get_within}
use Rattle.ct_terms.specs.declared.ids.TermId.{TermId}
use Rattle.ct_terms.specs.declared.term.Core.{Core}
use Rattle.ct_terms.specs.Children.{core_children}
use Rattle.ct_terms.specs.Terms.{Terms, Has, AreOrdered}
use Rattle.ct_terms.specs.CoreTree.{CoreTree, tree_children, subtrees, term_at}
use Rattle.ct_closure.specs.ClosedTable.{terms_at}
use Rattle.ct_restriction.specs.Restricted.{IsSubtermOfOne, IsMarked, MarksUnder, MarksSubterms}
use Rattle.ct_lemmas.proofs.Contained.{Contains-cons, Contains-rest, Contains-map}
use Rattle.ct_lemmas.proofs.Each.{AllByRecursion-weaker}
use Rattle.ct_lemmas.proofs.Numbers.{last_or_before}
use Rattle.ct_terms.proofs.CoreTreeLemmas.{term_at-unfolds, children_of_layer}
use Rattle.ct_terms.proofs.SubtreeLemmas.{subtrees-unfold, subtrees-itself, subtrees-further}

-- a subterm of one of several trees is a subterm of them
among : (tree : TermId → CoreTree) (ts : List TermId) (u : TermId) → Contains ts u → Contains (flat_map subtrees (map tree ts)) (tree u)
among tree [] u h = absurd (omega (arith, h.1))
among tree (t ∷ ts) u h =
    elim (Contains-cons t ts u h) [
      | inl same ↦ Contains-append_left (subtrees (tree t)) (flat_map subtrees (map tree ts)) (tree u) (subst (λ (v : TermId). Contains (subtrees (tree t)) (tree v)) same (subtrees-itself (tree t)))
      | inr later ↦ Contains-append_right (subtrees (tree t)) (flat_map subtrees (map tree ts)) (tree u) (among tree ts u later)
    ]

-- the term right under a term is a subterm of it
pub child_subterm : (table : Terms) (t u : TermId) (core : Core) → AreOrdered table → Has table core t.0 → Contains (core_children core) u → Contains (subtrees (term_at table t)) (term_at table u)
child_subterm table t u core ordered has h =
    let tree = term_at table in
    let children : tree_children (tree t) ≡ map tree (core_children core) = ap tree_children (term_at-unfolds table t core has.0 ordered has.1) ∙ children_of_layer tree core in
    let all : subtrees (tree t) ≡ tree t ∷ flat_map subtrees (map tree (core_children core)) = subtrees-unfold (tree t) ∙ ap (λ (ts : List CoreTree). tree t ∷ flat_map subtrees ts) children in
    subst (λ (ts : List CoreTree). Contains ts (tree u)) (sym all) (Contains-rest (tree t) (flat_map subtrees (map tree (core_children core))) (tree u) (among tree (core_children core) u h))

-- with the terms under one more number marked, those under all numbers from it on are
module _ (table : Terms) (old new : List Bool) (n : ℕ) (stays : (u : TermId) → IsMarked old u → IsMarked new u) where
  pub under_more : MarksUnder table old (n + 1) → ((core : Core) → Has table core n → IsMarked new (record { 0 = n }) → AllByRecursion (IsMarked new) (core_children core)) → ((u : TermId) → n ≤ u.0 → IsMarked new u → IsMarked old u) → MarksUnder table new n
  under_more before here above t core from has is_marked =
      elim (last_or_before n t.0 (omega (arith, from))) [
        | inl later ↦ AllByRecursion-weaker (IsMarked old) (IsMarked new) stays (core_children core) (before t core (omega (arith, later)) has (above t from is_marked))
        | inr same ↦
            let id : ℕ → TermId = λ k. record { 0 = k } in
            here core (subst (Has table core) (sym same) has) (subst (λ (k : ℕ). IsMarked new (id k)) (sym same) is_marked)
      ]

-- a marked term is there
pub marked_within : (marks : List Bool) (t : TermId) → IsMarked marks t → t.0 < length marks
marked_within marks t h = slice_get_within marks t.0 true h

-- where the terms under a marked subterm are marked too, only subterms are marked
pub only_more : (table : Terms) (roots : List TermId) (old new : List Bool) (t : TermId) → AreOrdered table → MarksSubterms table roots old →
    ((u : TermId) → IsMarked new u → IsMarked old u ⊎ ((core : Core) × Has table core t.0 × IsMarked old t × Contains (core_children core) u)) → MarksSubterms table roots new
only_more table roots old new t ordered before only u is_marked =
    elim (only u is_marked) [
      | inl was ↦ before u was
      | inr child ↦
          let above = before t child.2 in
          (above.0, above.1, subtrees-further above.0 (term_at table t) (term_at table u) above.2 (child_subterm table t u child.0 ordered child.1 child.3))
    ]

-- the roots are subterms of themselves
pub only_roots : (table : Terms) (roots : List TermId) (t : TermId) → Contains roots t → IsSubtermOfOne (terms_at table roots) (term_at table t)
only_roots table roots t h = (term_at table t, Contains-map (term_at table) roots t h, subtrees-itself (term_at table t))
