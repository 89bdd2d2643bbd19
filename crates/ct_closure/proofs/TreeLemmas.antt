-- Terms of a table as trees, over the theorems on trees.
use Rattle.std.proofs.Common.{◌≡◌, ℕ, zero, suc, ◌<◌, ◌≤◌, List, [], ◌∷◌, length, map, Contains, slice_get, Some, refl, sym, ap, subst, ◌∙◌, arith}
use Rattle.std.specs.List.{AllZip, flat_map}
use Rattle.std.proofs.lemmas.Option.{slice_get_within}
use Rattle.ct_lemmas.proofs.Contained.{Contains-first, Contains-rest}
use Rattle.ct_sorts.specs.declared.ids.SelId.{SelId}
use Rattle.ct_sorts.specs.declared.ids.SortId.{SortId}
use Rattle.ct_sorts.specs.Declarations.{Declarations, bool_sort}
use Rattle.ct_sorts.specs.Grown.{Begins}
use Rattle.ct_sorts.specs.Structure.{AreOfTheirSorts}
use Rattle.ct_sorts.specs.Consistent.{IsConsistent}
use Rattle.ct_sorts.specs.Declarations.{IsSort}
use Rattle.ct_terms.specs.declared.ids.TermId.{TermId}
use Rattle.ct_terms.specs.declared.term.Core.{Core}
use Rattle.ct_terms.specs.declared.term.Core.TheVariants.{Con, Sel, Test, Apply, Eq, Not, And, Or, Iff, Ite}
use Rattle.ct_terms.specs.Terms.{Terms, Has, AreSorted, AreOrdered}
use Rattle.ct_terms.specs.CoreTree.{CoreTree, sel, choice, list_of_trees, trees_of, tree_children, subtrees, tree_layer, term_at}
use Rattle.ct_closure.specs.Closed.{IsBuilt}
use Rattle.ct_closure.specs.ClosedTable.{IsConstruction, IsFieldTerm}
use Rattle.ct_closure.specs.Trees.{TreeTheorems}
use Rattle.ct_closure.proofs.ListLemmas.{Contains-flat_map}

-- the arguments made of a list are the list
pub list_of_trees_of : (ts : List CoreTree) → list_of_trees (trees_of ts) ≡ ts
list_of_trees_of [] = refl
list_of_trees_of (t ∷ ts) = ap (λ (us : List CoreTree). t ∷ us) (list_of_trees_of ts)

-- a layer that is built by a constructor is that of a constructor term
pub IsBuilt-layer : (tree : TermId → CoreTree) (core : Core) → IsBuilt (tree_layer tree core) → IsConstruction core
IsBuilt-layer tree (Con c args) h = tt
IsBuilt-layer tree (Sel s t) h = h
IsBuilt-layer tree (Test c t) h = h
IsBuilt-layer tree (Apply f args) h = h
IsBuilt-layer tree (Eq a b) h = h
IsBuilt-layer tree (Not t) h = h
IsBuilt-layer tree (And args) h = h
IsBuilt-layer tree (Or args) h = h
IsBuilt-layer tree (Iff a b) h = h
IsBuilt-layer tree (Ite c a b) h = h

-- and back
pub IsConstruction-layer : (tree : TermId → CoreTree) (core : Core) → IsConstruction core → IsBuilt (tree_layer tree core)
IsConstruction-layer tree (Con c args) h = tt
IsConstruction-layer tree (Sel s t) h = h
IsConstruction-layer tree (Test c t) h = h
IsConstruction-layer tree (Apply f args) h = h
IsConstruction-layer tree (Eq a b) h = h
IsConstruction-layer tree (Not t) h = h
IsConstruction-layer tree (And args) h = h
IsConstruction-layer tree (Or args) h = h
IsConstruction-layer tree (Iff a b) h = h
IsConstruction-layer tree (Ite c a b) h = h

-- a layer that is a conditional is that of one
pub conditional_layer : (tree : TermId → CoreTree) (core : Core) (c a b : CoreTree) → tree_layer tree core ≡ choice c a b → (x y z : TermId) × (core ≡ Ite x y z) × (tree y ≡ a) × (tree z ≡ b)
conditional_layer tree (Con k args) c a b e = absurd (cc e)
conditional_layer tree (Sel s t) c a b e = absurd (cc e)
conditional_layer tree (Test k t) c a b e = absurd (cc e)
conditional_layer tree (Apply f args) c a b e = absurd (cc e)
conditional_layer tree (Eq x y) c a b e = absurd (cc e)
conditional_layer tree (Not t) c a b e = absurd (cc e)
conditional_layer tree (And args) c a b e = absurd (cc e)
conditional_layer tree (Or args) c a b e = absurd (cc e)
conditional_layer tree (Iff x y) c a b e = absurd (cc e)
conditional_layer tree (Ite x y z) c a b e = (x, y, z, refl, cc e, cc e)

module _ (th : TreeTheorems) where
  -- a tree is a subterm of itself, and so are the trees right under it
  pub subtree_itself : (t : CoreTree) → Contains (subtrees t) t
  subtree_itself t = subst (λ (ts : List CoreTree). Contains ts t) (sym (th.subterms t)) (Contains-first t (flat_map subtrees (tree_children t)))

  pub subtree_child : (t u : CoreTree) → Contains (tree_children t) u → Contains (subtrees t) u
  subtree_child t u h =
      subst (λ (ts : List CoreTree). Contains ts u) (sym (th.subterms t))
      (Contains-rest t (flat_map subtrees (tree_children t)) u (Contains-flat_map subtrees (tree_children t) u u h (subtree_itself u)))

  -- the tree of a term of the table is a layer
  pub layer_at : (table : Terms) → AreOrdered table → (core : Core) (t : TermId) → Has table core t.0 → term_at table t ≡ tree_layer (term_at table) core
  layer_at table ordered core t has = th.unfolds table t core has.0 ordered has.1

  -- trees stay as the table grows
  pub term_stays : (old new : Terms) → Begins old new → AreOrdered new → (t : TermId) → t.0 < length old → term_at new t ≡ term_at old t
  term_stays old new grown ordered t within =
      ap (λ (table : Terms). term_at table t) grown.1 ∙ th.longer old grown.0 t (subst AreOrdered grown.1 ordered) within

  -- the trees of the fields of a term are selections from its tree
  pub fields_are : (table : Terms) → AreOrdered table → (t : TermId) (sels : List SelId) (args : List TermId) → AllZip (IsFieldTerm table t) sels args → map (term_at table) args ≡ map (λ s. sel s (term_at table t)) sels
  fields_are table ordered t [] [] all = refl
  fields_are table ordered t [] (a ∷ args) all = absurd all
  fields_are table ordered t (s ∷ sels) [] all = absurd all
  fields_are table ordered t (s ∷ sels) (a ∷ args) all =
      ap (λ (u : CoreTree). u ∷ map (term_at table) args) (layer_at table ordered (Sel s t) a all.0)
      ∙ ap (λ (us : List CoreTree). sel s (term_at table t) ∷ us) (fields_are table ordered t sels args all.1)

-- the sort of each term of a well-sorted table is declared
module _ (d : Declarations) (consistent : IsConsistent d) (own : AreOfTheirSorts d) (some : 1 ≤ length d.sorts) (table : Terms) (sorted : AreSorted d table) (ordered : AreOrdered table) where
  is_bool : (sort : SortId) → sort ≡ bool_sort → IsSort d sort
  is_bool sort e = subst (IsSort d) (sym e) some

  inside_below : (n t : ℕ) (core : Core) (sort : SortId) → t < n → slice_get table t ≡ Some (core, sort) → IsSort d sort
  inside_below zero t core sort bound at = absurd (omega arith)
  inside_below (suc n) t (Con c args) sort bound at =
      let h = sorted t (Con c args) sort at in
      let found = own c.0 h.ctor h.declared in
      subst (IsSort d) (sym h.result) (slice_get_within d.sorts h.ctor.sort.0 found.0 found.2)
  inside_below (suc n) t (Sel s x) sort bound at =
      let h = sorted t (Sel s x) sort at in
      subst (IsSort d) (sym h.result) (consistent.fields s.0 h.selector h.declared)
  inside_below (suc n) t (Test c x) sort bound at = is_bool sort (sorted t (Test c x) sort at).result
  inside_below (suc n) t (Apply f args) sort bound at =
      let h = sorted t (Apply f args) sort at in
      subst (IsSort d) (sym h.result) (consistent.over_sorts f.0 h.function h.declared).1
  inside_below (suc n) t (Eq a b) sort bound at = is_bool sort (sorted t (Eq a b) sort at).result
  inside_below (suc n) t (Not x) sort bound at = is_bool sort (sorted t (Not x) sort at).1
  inside_below (suc n) t (And args) sort bound at = is_bool sort (sorted t (And args) sort at).result
  inside_below (suc n) t (Or args) sort bound at = is_bool sort (sorted t (Or args) sort at).result
  inside_below (suc n) t (Iff a b) sort bound at = is_bool sort (sorted t (Iff a b) sort at).2
  inside_below (suc n) t (Ite c a b) sort bound at =
      let branch = (sorted t (Ite c a b) sort at).1 in
      let below : a.0 < t = (ordered t (Ite c a b) (sort, at)).1.0 in
      inside_below n a.0 branch.0 sort (omega (arith, below, bound)) branch.1

  pub sort_inside : (t : ℕ) (core : Core) (sort : SortId) → slice_get table t ≡ Some (core, sort) → IsSort d sort
  sort_inside t core sort at = inside_below (suc t) t core sort (omega arith) at
