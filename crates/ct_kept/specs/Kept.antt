-- The store of clauses that the theory gave: what is used of it in a check, and what a check leaves there.
use Rattle.std.specs.Prelude.{◌≡◌, ℕ, ◌<◌, ◌≤◌, ◌⊎◌, List, [], ◌∷◌, ◌++◌, length, take, All, Some, slice_get}
use Rattle.std.specs.List.{AllZip, flat_map}
use Rattle.ct_sorts.specs.Declarations.{Declarations}
use Rattle.ct_sorts.specs.Grown.{Begins}
use Rattle.ct_terms.specs.declared.ids.TermId.{TermId}
use Rattle.ct_terms.specs.Terms.{Terms}
use Rattle.ct_terms.specs.CoreTree.{term_at}
use Rattle.ct_closure.specs.ClosedTable.{terms_at}
use Rattle.ct_restriction.specs.Restricted.{IsSubtermOfOne}
use Rattle.ct_restriction.specs.Renumbered.{HasNoRoom}
use Rattle.ct_log.specs.declared.line.Line.{Line}
use Rattle.ct_kept.specs.declared.lemma.Lemma.{Lemma}
use Rattle.ct_kept.specs.Lemmas.{lemma_terms, IsMoved, theory_line, IsAcceptedLemma}

-- a table, and lemmas over it
pub record Stored : Type 0 where
  pub table : Terms
  pub lemmas : List Lemma

-- the greatest number of lemmas
abbrev pub most_lemmas : ℕ
most_lemmas = 4096

-- the terms of the lemma stand in the table
abbrev pub IsOver : Terms → Lemma → Type 0
IsOver table lemma = All (λ t. t.0 < length table) (lemma_terms lemma)

-- what a store always holds
pub record IsStore (store : Stored) : Type 0 where
  pub few : length store.lemmas ≤ most_lemmas
  pub over : All (IsOver store.table) store.lemmas

-- the second list has, for each item of the first of which this holds, one that goes with it, in order, and no others
abbrev pub AreChosen : {X Y : Type 0} (P : X → Type 0) (R : X → Y → Type 0) → List X → List Y → Type 0
AreChosen P R [] ys = ys ≡ []
AreChosen {X} {Y} P R (x ∷ xs) ys = (P x × ((y : Y) × (rest : List Y) × R x y × (ys ≡ y ∷ rest) × AreChosen P R xs rest)) ⊎ ((P x → ⊥) × AreChosen P R xs ys)

-- the line is that of the lemma, moved into the table and accepted there
abbrev pub IsLineOf : Declarations → Terms → Terms → Lemma → Line → Type 0
IsLineOf d from to lemma line = (moved : Lemma) × IsMoved from to lemma moved × IsAcceptedLemma d to moved × (line ≡ theory_line moved)

-- the lemma is moved into the table and accepted there
abbrev pub IsUsable : Declarations → Terms → Terms → Lemma → Type 0
IsUsable d from to lemma = (line : Line) × IsLineOf d from to lemma line

-- the lines are those of the lemmas of the store that are moved into the table and accepted there, in order
abbrev pub AreMovedLines : Declarations → Stored → Terms → List Line → Type 0
AreMovedLines d store terms lines = AreChosen (IsUsable d store.table terms) (IsLineOf d store.table terms) store.lemmas lines

-- the store has taken all these lemmas over the terms, in order, and of the terms only the subterms of theirs
pub record TakesAll (old : Stored) (terms : Terms) (lemmas : List Lemma) (new : Stored) : Type 0 where
  pub taken : List Lemma
  pub grown : Begins old.table new.table
  pub only : (u : TermId) → u.0 < length new.table → (u.0 < length old.table) ⊎ IsSubtermOfOne (terms_at terms (flat_map lemma_terms lemmas)) (term_at new.table u)
  pub after : new.lemmas ≡ old.lemmas ++ taken
  pub moved : AllZip (IsMoved terms new.table) lemmas taken

-- after so many of the lemmas there comes one for whose terms the table has no room
abbrev pub IsNextWithoutRoom : Terms → Terms → List Lemma → ℕ → Type 0
IsNextWithoutRoom table terms lemmas count = (next : Lemma) × (slice_get lemmas count ≡ Some next) × HasNoRoom table terms (lemma_terms next)

-- the store has taken these lemmas over the terms, in order, up to the first for which it holds 4,096 or its table has no room
pub record Takes (old : Stored) (terms : Terms) (lemmas : List Lemma) (new : Stored) : Type 0 where
  pub count : ℕ
  pub takes : TakesAll old terms (take count lemmas) new
  pub stops : (length lemmas ≤ count) ⊎ ((most_lemmas ≤ length new.lemmas) ⊎ IsNextWithoutRoom new.table terms lemmas count)
