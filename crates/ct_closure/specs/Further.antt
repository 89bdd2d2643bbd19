-- Closing goes on: a table whose first terms are the closure of some roots, and further terms with further roots.
use Rattle.std.specs.Prelude.{◌↔◌, ℕ, ◌≤◌, ◌<◌, List, ◌++◌, length, take, Contains}
use Rattle.ct_sorts.specs.declared.ids.SortId.{SortId}
use Rattle.ct_sorts.specs.Declarations.{Declarations}
use Rattle.ct_sorts.specs.Consistent.{IsConsistent}
use Rattle.ct_sorts.specs.Grown.{Extends}
use Rattle.ct_terms.specs.declared.ids.TermId.{TermId}
use Rattle.ct_terms.specs.Terms.{Terms, AreSorted}
use Rattle.ct_terms.specs.CoreTree.{CoreTree, subtrees, term_at}
use Rattle.ct_closure.specs.Closed.{InClosure, truth_trees}
use Rattle.ct_closure.specs.ClosedTable.{HasTree, IsClosedTable, IsSplitTerm, terms_at}

-- the terms of the table are closed, and are in the closure of these roots, which stand there; so they are that closure, where
-- `true` and `false` stand there, too. The terms that are split are these, in any order
pub record IsClosureOver (d : Declarations) (roots : List CoreTree) (table : Terms) (split : List TermId) : Type 0 where
  pub sorted : AreSorted d table
  pub closed : IsClosedTable d table
  pub inside : (t : CoreTree) → HasTree table t → InClosure d roots t
  pub rooted : (t : CoreTree) → Contains roots t → HasTree table t
  pub splits : (t : TermId) → Contains split t ↔ ((sort : SortId) × IsSplitTerm d table t sort)

-- each term from this number on is a subterm of `true`, of `false` or of one of these
abbrev pub AreFurtherSubtermsOf : Terms → ℕ → List TermId → Type 0
AreFurtherSubtermsOf table from roots = (t : TermId) → from ≤ t.0 → t.0 < length table → (root : CoreTree) × Contains (truth_trees ++ terms_at table roots) root × Contains (subtrees root) (term_at table t)

-- the first terms are the closure of these roots over earlier declarations
pub record BeginsClosed (d earlier : Declarations) (roots : List CoreTree) (table : Terms) (closed : ℕ) (split : List TermId) : Type 0 where
  pub consistent : IsConsistent earlier
  pub extends : Extends d earlier
  pub few : closed ≤ length table
  pub first : IsClosureOver earlier roots (take closed table) split
