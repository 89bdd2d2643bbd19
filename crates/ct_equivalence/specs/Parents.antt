-- The terms right above each term, while they are listed term by term.
use Rattle.std.specs.Prelude.{◌≡◌, ℕ, ◌<◌, ◌⊎◌, List, [], ◌∷◌, ◌++◌, length, set, Option, Some, None, slice_get, Contains}
use Rattle.ct_terms.specs.declared.ids.TermId.{TermId}
use Rattle.ct_terms.specs.declared.term.Core.{Core}
use Rattle.ct_terms.specs.Children.{core_children}
use Rattle.ct_terms.specs.Terms.{Terms, Has}
use Rattle.ct_equivalence.specs.Over.{IsConstructorTerm}
use Rattle.ct_equivalence.specs.Undoing.{row_of}

-- one more term stands in the rows of these terms, and the others are as they were
pub record AreAdded (old new : List (List TermId)) (children : List TermId) (p : TermId) : Type 0 where
  pub long : length new ≡ length old
  pub keeps : (t q : TermId) (was row : List TermId) → slice_get old t.0 ≡ Some was → slice_get new t.0 ≡ Some row → Contains was q → Contains row q
  pub adds : (t : TermId) (row : List TermId) → slice_get new t.0 ≡ Some row → Contains children t → Contains row p
  pub only : (t q : TermId) (was row : List TermId) → slice_get old t.0 ≡ Some was → slice_get new t.0 ≡ Some row → Contains row q → Contains was q ⊎ ((q ≡ p) × Contains children t)

-- the term stands in the row of the other: it is put to the end, or stood there
abbrev pub IsOneAdded : List (List TermId) → List (List TermId) → TermId → TermId → Type 0
IsOneAdded old new t p = (new ≡ set old t.0 (row_of old t ++ p ∷ [])) ⊎ ((new ≡ old) × Contains (row_of old t) p)

-- the row of each term has exactly the terms below a number that stand right above it
pub record AreParents (terms : Terms) (n : ℕ) (rows : List (List TermId)) : Type 0 where
  pub long : length rows ≡ length terms
  pub all : (p t : TermId) (core : Core) (row : List TermId) → p.0 < n → Has terms core p.0 → Contains (core_children core) t → slice_get rows t.0 ≡ Some row → Contains row p
  pub only : (p t : TermId) (row : List TermId) → slice_get rows t.0 ≡ Some row → Contains row p → (core : Core) × Has terms core p.0 × Contains (core_children core) t

-- where the term is a constructor term it stands there, and else nothing does
abbrev pub IsOwnCon : Terms → TermId → Option TermId → Type 0
IsOwnCon terms t None = IsConstructorTerm terms t → ⊥
IsOwnCon terms t (Some c) = (c ≡ t) × IsConstructorTerm terms t

abbrev pub AreOwnCons : Terms → List (Option TermId) → Type 0
AreOwnCons terms cons = (t : TermId) (c : Option TermId) → slice_get cons t.0 ≡ Some c → IsOwnCon terms t c
