-- Trees whose subterms are all in a list: with a tree those under it are.
use Rattle.std.proofs.Common.{List, [], ◌∷◌, ◌++◌, Contains, sym, subst}
use Rattle.std.proofs.lemmas.List.Elements.{Contains-append_left, Contains-append_right}
use Rattle.ct_lemmas.proofs.Contained.{Contains-first, Contains-rest}
use Rattle.ct_sorts.specs.declared.ids.CtorId.{CtorId}
use Rattle.ct_sorts.specs.declared.ids.FunId.{FunId}
use Rattle.ct_sorts.specs.declared.ids.SelId.{SelId}
use Rattle.ct_terms.specs.CoreTree.{CoreTree, con, sel, test, apply, negation, conjunction, disjunction, equivalence, choice, trees_of, subtrees, subtrees_of_all}
use Rattle.ct_operators.specs.Theorems.{Theorems}
use Rattle.ct_operators.specs.Effect.{Within, AllWithin}

-- a tree is a subterm of itself
pub within_itself : (theorems : Theorems) (allowed : List CoreTree) (t : CoreTree) → Within allowed t → Contains allowed t
within_itself theorems allowed t w = w t (subst (λ (ts : List CoreTree). Contains ts t) (sym (theorems.subterms t)) (Contains-first t _))

-- the subterms of a tree are its subterms
pub within_subtrees : (t : CoreTree) → Within (subtrees t) t
within_subtrees t s h = h

module _ (allowed : List CoreTree) where
  pub within_negation : (t : CoreTree) → Within allowed (negation t) → Within allowed t
  within_negation t w s h = w s (Contains-rest (negation t) (subtrees t) s h)

  pub within_equivalence : (a b : CoreTree) → Within allowed (equivalence a b) → Within allowed a × Within allowed b
  within_equivalence a b w = (
    λ s h. w s (Contains-rest (equivalence a b) (subtrees a ++ subtrees b) s (Contains-append_left (subtrees a) (subtrees b) s h)),
    λ s h. w s (Contains-rest (equivalence a b) (subtrees a ++ subtrees b) s (Contains-append_right (subtrees a) (subtrees b) s h)),
  )

  pub within_choice : (t a b : CoreTree) → Within allowed (choice t a b) → Within allowed t × (Within allowed a × Within allowed b)
  within_choice t a b w = (
    λ s h. w s (Contains-rest (choice t a b) (subtrees t ++ (subtrees a ++ subtrees b)) s (Contains-append_left (subtrees t) (subtrees a ++ subtrees b) s h)),
    (
      λ s h. w s (Contains-rest (choice t a b) (subtrees t ++ (subtrees a ++ subtrees b)) s (Contains-append_right (subtrees t) (subtrees a ++ subtrees b) s (Contains-append_left (subtrees a) (subtrees b) s h))),
      λ s h. w s (Contains-rest (choice t a b) (subtrees t ++ (subtrees a ++ subtrees b)) s (Contains-append_right (subtrees t) (subtrees a ++ subtrees b) s (Contains-append_right (subtrees a) (subtrees b) s h))),
    ),
  )

  pub within_sel : (l : SelId) (t : CoreTree) → Within allowed (sel l t) → Within allowed t
  within_sel l t w s h = w s (Contains-rest (sel l t) (subtrees t) s h)

  pub within_test : (c : CtorId) (t : CoreTree) → Within allowed (test c t) → Within allowed t
  within_test c t w s h = w s (Contains-rest (test c t) (subtrees t) s h)

  -- those of several
  pub within_all : (us : List CoreTree) → ((s : CoreTree) → Contains (subtrees_of_all (trees_of us)) s → Contains allowed s) → AllWithin allowed us
  within_all [] w = tt
  within_all (u ∷ us) w = (
    λ s h. w s (Contains-append_left (subtrees u) (subtrees_of_all (trees_of us)) s h),
    within_all us (λ s h. w s (Contains-append_right (subtrees u) (subtrees_of_all (trees_of us)) s h)),
  )

  pub within_con : (c : CtorId) (us : List CoreTree) → Within allowed (con c (trees_of us)) → AllWithin allowed us
  within_con c us w = within_all us (λ s h. w s (Contains-rest (con c (trees_of us)) (subtrees_of_all (trees_of us)) s h))

  pub within_apply : (f : FunId) (us : List CoreTree) → Within allowed (apply f (trees_of us)) → AllWithin allowed us
  within_apply f us w = within_all us (λ s h. w s (Contains-rest (apply f (trees_of us)) (subtrees_of_all (trees_of us)) s h))

  pub within_conjunction : (us : List CoreTree) → Within allowed (conjunction (trees_of us)) → AllWithin allowed us
  within_conjunction us w = within_all us (λ s h. w s (Contains-rest (conjunction (trees_of us)) (subtrees_of_all (trees_of us)) s h))

  pub within_disjunction : (us : List CoreTree) → Within allowed (disjunction (trees_of us)) → AllWithin allowed us
  within_disjunction us w = within_all us (λ s h. w s (Contains-rest (disjunction (trees_of us)) (subtrees_of_all (trees_of us)) s h))
