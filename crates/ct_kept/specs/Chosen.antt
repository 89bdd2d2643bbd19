-- How a part of a store is chosen.
use Rattle.std.specs.Prelude.{◌≡◌, Bool, List, All, Contains}
use Rattle.ct_terms.specs.declared.ids.TermId.{TermId}
use Rattle.ct_restriction.specs.Renamed.{number_in}
use Rattle.ct_restriction.specs.Restricted.{IsMarked}
use Rattle.ct_restriction.specs.Renumbered.{Numbers, IsKnown}
use Rattle.ct_kept.specs.declared.lemma.Lemma.{Lemma}
use Rattle.ct_kept.specs.Lemmas.{lemma_terms, renamed_lemma}
use Rattle.ct_kept.specs.Kept.{AreChosen}

-- the roots are marked terms, with all terms of the lemmas all of whose terms are marked
pub record AreRoots (marks : List Bool) (lemmas : List Lemma) (roots : List TermId) : Type 0 where
  pub marked : All (IsMarked marks) roots
  pub all : All (λ lemma. All (IsMarked marks) (lemma_terms lemma) → All (Contains roots) (lemma_terms lemma)) lemmas

-- the terms of the lemma are known
abbrev pub IsKnownLemma : Numbers → Lemma → Type 0
IsKnownLemma n lemma = All (IsKnown n) (lemma_terms lemma)

-- the lemmas that are known, over the other numbers, in order
abbrev pub AreLemmasBy : Numbers → List Lemma → List Lemma → Type 0
AreLemmasBy n lemmas made = AreChosen (IsKnownLemma n) (λ lemma moved. moved ≡ renamed_lemma (number_in n.numbers) lemma) lemmas made
