-- What terms name, and the part of a store that names only what is below a mark.
use Rattle.std.specs.Prelude.{◌<◌, All, Contains}
use Rattle.ct_sorts.specs.Lengths.{Lengths}
use Rattle.ct_terms.specs.Children.{CoreHead, con_head, sel_head, test_head, apply_head}
use Rattle.ct_terms.specs.Terms.{Terms}
use Rattle.ct_terms.specs.CoreTree.{CoreTree, tree_head, subtrees, term_at}
use Rattle.ct_kept.specs.declared.lemma.Lemma.{Lemma}
use Rattle.ct_kept.specs.Lemmas.{lemma_terms, IsMoved}
use Rattle.ct_kept.specs.Kept.{Stored, AreChosen}

-- the constructor, selector or function of the head is below the mark
abbrev pub IsHeadBelow : Lengths → CoreHead → Type 0
IsHeadBelow m (con_head c) = c.0 < m.ctors
IsHeadBelow m (sel_head s) = s.0 < m.sels
IsHeadBelow m (test_head c) = c.0 < m.ctors
IsHeadBelow m (apply_head f) = f.0 < m.functions
IsHeadBelow m head = Unit {0}

-- the term names only constructors, selectors and functions below the mark
abbrev pub NamesBelow : Lengths → CoreTree → Type 0
NamesBelow m t = (s : CoreTree) → Contains (subtrees t) s → IsHeadBelow m (tree_head s)

-- so do the terms of the lemma
abbrev pub IsNamed : Lengths → Terms → Lemma → Type 0
IsNamed m table lemma = All (λ t. NamesBelow m (term_at table t)) (lemma_terms lemma)

-- the new store has the lemmas of the old one whose terms name only what is below the mark, in order, moved into its table
abbrev pub AreNamed : Lengths → Stored → Stored → Type 0
AreNamed m old new = AreChosen (IsNamed m old.table) (IsMoved old.table new.table) old.lemmas new.lemmas
