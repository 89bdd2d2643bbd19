-- Terms without numbers: the tree that a term of a table stands for, with the trees of the terms under it in their indices.
use Rattle.std.specs.Prelude.{ℕ, zero, suc, List, [], ◌∷◌, ◌++◌, map, Option, Some, None, slice_get}
use Rattle.ct_sorts.specs.declared.ids.CtorId.{CtorId}
use Rattle.ct_sorts.specs.declared.ids.SelId.{SelId}
use Rattle.ct_sorts.specs.declared.ids.FunId.{FunId}
use Rattle.ct_sorts.specs.declared.ids.SortId.{SortId}
use Rattle.ct_terms.specs.declared.ids.TermId.{TermId}
use Rattle.ct_terms.specs.declared.term.Core.{Core}
use Rattle.ct_terms.specs.declared.term.Core.TheVariants.{Con, Sel, Test, Apply, Eq, Not, And, Or, Iff, Ite}
use Rattle.ct_terms.specs.Terms.{Terms}
use Rattle.ct_terms.specs.Children.{CoreHead, con_head, sel_head, test_head, apply_head, eq_head, not_head, and_head, or_head, iff_head, ite_head}

mutual
  -- a term over the trees right under it
  pub data CoreTree : Type 0 where
    con : CtorId → CoreTrees → CoreTree
    sel : SelId → CoreTree → CoreTree
    test : CtorId → CoreTree → CoreTree
    apply : FunId → CoreTrees → CoreTree
    equation : CoreTree → CoreTree → CoreTree
    negation : CoreTree → CoreTree
    conjunction : CoreTrees → CoreTree
    disjunction : CoreTrees → CoreTree
    equivalence : CoreTree → CoreTree → CoreTree
    choice : CoreTree → CoreTree → CoreTree → CoreTree

  -- the arguments of a term, in order
  pub data CoreTrees : Type 0 where
    no_trees : CoreTrees
    with_tree : CoreTree → CoreTrees → CoreTrees

-- the arguments as a list
abbrev pub list_of_trees : CoreTrees → List CoreTree
list_of_trees no_trees = []
list_of_trees (with_tree t ts) = t ∷ list_of_trees ts

-- a list of trees as arguments
abbrev pub trees_of : List CoreTree → CoreTrees
trees_of [] = no_trees
trees_of (t ∷ ts) = with_tree t (trees_of ts)

-- the head of a tree
abbrev pub tree_head : CoreTree → CoreHead
tree_head (con c ts) = con_head c
tree_head (sel s t) = sel_head s
tree_head (test c t) = test_head c
tree_head (apply f ts) = apply_head f
tree_head (equation a b) = eq_head
tree_head (negation t) = not_head
tree_head (conjunction ts) = and_head
tree_head (disjunction ts) = or_head
tree_head (equivalence a b) = iff_head
tree_head (choice c a b) = ite_head

-- the trees right under a tree, in order
abbrev pub tree_children : CoreTree → List CoreTree
tree_children (con c ts) = list_of_trees ts
tree_children (sel s t) = t ∷ []
tree_children (test c t) = t ∷ []
tree_children (apply f ts) = list_of_trees ts
tree_children (equation a b) = a ∷ (b ∷ [])
tree_children (negation t) = t ∷ []
tree_children (conjunction ts) = list_of_trees ts
tree_children (disjunction ts) = list_of_trees ts
tree_children (equivalence a b) = a ∷ (b ∷ [])
tree_children (choice c a b) = c ∷ (a ∷ (b ∷ []))

abbrev mutual
  -- the subterms of a tree: itself, and those of the trees right under it
  pub subtrees : CoreTree → List CoreTree
  subtrees (con c ts) = con c ts ∷ subtrees_of_all ts
  subtrees (sel s t) = sel s t ∷ subtrees t
  subtrees (test c t) = test c t ∷ subtrees t
  subtrees (apply f ts) = apply f ts ∷ subtrees_of_all ts
  subtrees (equation a b) = equation a b ∷ (subtrees a ++ subtrees b)
  subtrees (negation t) = negation t ∷ subtrees t
  subtrees (conjunction ts) = conjunction ts ∷ subtrees_of_all ts
  subtrees (disjunction ts) = disjunction ts ∷ subtrees_of_all ts
  subtrees (equivalence a b) = equivalence a b ∷ (subtrees a ++ subtrees b)
  subtrees (choice c a b) = choice c a b ∷ (subtrees c ++ (subtrees a ++ subtrees b))

  -- the subterms of several trees
  pub subtrees_of_all : CoreTrees → List CoreTree
  subtrees_of_all no_trees = []
  subtrees_of_all (with_tree t ts) = subtrees t ++ subtrees_of_all ts

-- one layer of a term, over the trees of the terms under it
abbrev pub tree_layer : (TermId → CoreTree) → Core → CoreTree
tree_layer tree (Con c args) = con c (trees_of (map tree args))
tree_layer tree (Sel s t) = sel s (tree t)
tree_layer tree (Test c t) = test c (tree t)
tree_layer tree (Apply f args) = apply f (trees_of (map tree args))
tree_layer tree (Eq a b) = equation (tree a) (tree b)
tree_layer tree (Not t) = negation (tree t)
tree_layer tree (And args) = conjunction (trees_of (map tree args))
tree_layer tree (Or args) = disjunction (trees_of (map tree args))
tree_layer tree (Iff a b) = equivalence (tree a) (tree b)
tree_layer tree (Ite c a b) = choice (tree c) (tree a) (tree b)

-- a tree that stands for no term: a disjunction of nothing
abbrev pub no_term : CoreTree
no_term = disjunction no_trees

-- one layer of what stands at a number, where something does
abbrev pub tree_of_entry : (TermId → CoreTree) → Option (Core × SortId) → CoreTree
tree_of_entry tree None = no_term
tree_of_entry tree (Some (core, s)) = tree_layer tree core

-- the tree of a term whose number is below the bound; the terms under it have smaller numbers
unfoldable pub tree_below : ℕ → Terms → TermId → CoreTree
tree_below zero table t = no_term
tree_below (suc n) table t = tree_of_entry (tree_below n table) (slice_get table t.0)

-- the tree that stands at a number of a table
abbrev pub term_at : Terms → TermId → CoreTree
term_at table t = tree_below (suc t.0) table t
