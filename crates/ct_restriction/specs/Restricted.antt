-- A table that holds `true`, `false`, the subterms of some terms of another table, and no others.
use Rattle.std.specs.Prelude.{◌≡◌, ℕ, ◌<◌, ◌≤◌, ◌⊎◌, Bool, true, List, ◌++◌, length, Some, slice_get, Contains}
use Rattle.std.specs.List.{AllZip, AllByRecursion}
use Rattle.ct_sorts.specs.declared.ids.SortId.{SortId}
use Rattle.ct_terms.specs.declared.ids.TermId.{TermId}
use Rattle.ct_terms.specs.declared.term.Core.{Core}
use Rattle.ct_terms.specs.Children.{core_children}
use Rattle.ct_terms.specs.Terms.{Terms, IsOfSort, Has}
use Rattle.ct_terms.specs.CoreTree.{CoreTree, subtrees, term_at}
use Rattle.ct_closure.specs.Closed.{truth_trees}
use Rattle.ct_closure.specs.ClosedTable.{terms_at, HasTree, AreSubtermsOf}

-- the term is a subterm of one of these
abbrev pub IsSubtermOfOne : List CoreTree → CoreTree → Type 0
IsSubtermOfOne roots t = (root : CoreTree) × Contains roots root × Contains (subtrees root) t

-- the term of the new table is the one of the old table: it has the same tree, and the same sort
pub record StandsFor (old new : Terms) (t u : TermId) : Type 0 where
  pub within : u.0 < length new
  pub tree : term_at new u ≡ term_at old t
  pub sort : (s : SortId) → IsOfSort old t s → IsOfSort new u s

-- The new table holds `true`, `false` and the subterms of the roots, and no others; and these are the numbers of the roots
-- in it, in order.
pub record IsRestriction (table : Terms) (roots : List TermId) (restricted : Terms) (numbers : List TermId) : Type 0 where
  pub stand : AllZip (StandsFor table restricted) roots numbers
  pub all : (t : CoreTree) → IsSubtermOfOne (truth_trees ++ terms_at table roots) t → HasTree restricted t
  pub only : AreSubtermsOf restricted numbers

-- the term is marked
abbrev pub IsMarked : List Bool → TermId → Type 0
IsMarked marks t = slice_get marks t.0 ≡ Some true

-- these terms are marked beside those that were, and no others
pub record MarksToo (old new : List Bool) (ts : List TermId) : Type 0 where
  pub long : length new ≡ length old
  pub stays : (t : TermId) → IsMarked old t → IsMarked new t
  pub each : AllByRecursion (IsMarked new) ts
  pub only : (t : TermId) → IsMarked new t → IsMarked old t ⊎ Contains ts t

-- where a term whose number is not less than this is marked, the terms right under it are
abbrev pub MarksUnder : Terms → List Bool → ℕ → Type 0
MarksUnder table marks bound = (t : TermId) (core : Core) → bound ≤ t.0 → Has table core t.0 → IsMarked marks t → AllByRecursion (IsMarked marks) (core_children core)

-- each marked term is a subterm of one of these
abbrev pub MarksSubterms : Terms → List TermId → List Bool → Type 0
MarksSubterms table roots marks = (t : TermId) → IsMarked marks t → IsSubtermOfOne (terms_at table roots) (term_at table t)

-- the subterms of the roots are marked, and no others
pub record AreMarked (table : Terms) (roots : List TermId) (marks : List Bool) : Type 0 where
  pub long : length marks ≡ length table
  pub rooted : AllByRecursion (IsMarked marks) roots
  pub under : MarksUnder table marks 0
  pub only : MarksSubterms table roots marks

-- the term of the new table is `true`, `false` or a marked term of the old one
abbrev pub IsCopy : Terms → List Bool → CoreTree → Type 0
IsCopy old marks t = Contains truth_trees t ⊎ ((s : TermId) × IsMarked marks s × (t ≡ term_at old s))

-- the marked ones of the first terms stand in the new table, at the numbers in the list, and no others do but `true` and `false`
pub record AreCopied (old : Terms) (marks : List Bool) (new : Terms) (numbers : List TermId) : Type 0 where
  pub each : (t u : TermId) → IsMarked marks t → slice_get numbers t.0 ≡ Some u → StandsFor old new t u
  pub only : (u : TermId) → u.0 < length new → IsCopy old marks (term_at new u)
  pub few : length new ≤ length numbers
