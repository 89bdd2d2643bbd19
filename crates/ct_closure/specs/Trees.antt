-- The theorems on terms as trees that closing a table rests on.
use Rattle.std.specs.Prelude.{◌≡◌, ◌<◌, ◌≤◌, ◌∷◌, ◌++◌, length, Some, slice_get, Contains}
use Rattle.std.specs.List.{flat_map}
use Rattle.ct_sorts.specs.declared.ids.SortId.{SortId}
use Rattle.ct_sorts.specs.Declarations.{Declarations}
use Rattle.ct_terms.specs.declared.ids.TermId.{TermId}
use Rattle.ct_terms.specs.declared.term.Core.{Core}
use Rattle.ct_terms.specs.Terms.{Terms, IsOfSort, Has, HasArgumentsBelow, AreSorted, AreOrdered, AreSingle}
use Rattle.ct_terms.specs.CoreTree.{CoreTree, tree_children, subtrees, tree_layer, term_at}
use Rattle.ct_terms.specs.CoreSorts.{HasTreeSort}

pub record TreeTheorems : Type 0 where
  pub unfolds : (table : Terms) (t : TermId) (core : Core) (sort : SortId) → AreOrdered table → slice_get table t.0 ≡ Some (core, sort) → term_at table t ≡ tree_layer (term_at table) core
  pub one : (table : Terms) (s t : TermId) → AreOrdered table → AreSingle table → s.0 < length table → t.0 < length table → term_at table s ≡ term_at table t → s ≡ t
  pub stands : (table : Terms) (t : TermId) (core : Core) → AreOrdered table → AreSingle table → t.0 < length table → HasArgumentsBelow (length table) core → term_at table t ≡ tree_layer (term_at table) core → Has table core t.0
  pub longer : (table more : Terms) (t : TermId) → AreOrdered (table ++ more) → t.0 < length table → term_at (table ++ more) t ≡ term_at table t
  pub subterms : (t : CoreTree) → subtrees t ≡ t ∷ flat_map subtrees (tree_children t)
  pub stand : (table : Terms) (t : TermId) (s : CoreTree) → AreOrdered table → t.0 < length table → Contains (subtrees (term_at table t)) s → (u : TermId) × (u.0 ≤ t.0) × (term_at table u ≡ s)
  pub one_sort : (d : Declarations) (t : CoreTree) (r s : SortId) → HasTreeSort d t r → HasTreeSort d t s → r ≡ s
  pub sorted : (d : Declarations) (table : Terms) (t : TermId) (sort : SortId) → AreOrdered table → AreSorted d table → IsOfSort table t sort → HasTreeSort d (term_at table t) sort
