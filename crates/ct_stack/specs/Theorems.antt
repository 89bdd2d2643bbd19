-- The theorems on terms, formulas and declarations that a session stands on, as one record.
use Rattle.std.specs.Prelude.{◌≡◌, ◌<◌, ◌≤◌, List, [], ◌∷◌, ◌++◌, length, Contains, Some, slice_get}
use Rattle.std.specs.List.{AllZip, flat_map}
use Rattle.ct_generics.specs.Add.{Adds}
use Rattle.ct_generics.specs.Declarations.{Head}
use Rattle.ct_generics.specs.Expression.{Expression}
use Rattle.ct_sorts.specs.declared.ids.SortId.{SortId}
use Rattle.ct_sorts.specs.Declarations.{Declarations, Function, start, with_function, with_definition}
use Rattle.ct_sorts.specs.Marks.{CanCut, cut, lengths}
use Rattle.ct_sorts.specs.Consistent.{IsConsistent}
use Rattle.ct_sorts.specs.Grown.{Extends}
use Rattle.ct_terms.specs.declared.ids.TermId.{TermId}
use Rattle.ct_terms.specs.declared.term.Core.{Core}
use Rattle.ct_terms.specs.Terms.{Terms, IsOfSort, AreSorted as AreSortedTerms, AreOrdered, AreSingle}
use Rattle.ct_terms.specs.CoreTree.{CoreTree, tree_children, subtrees, tree_layer, term_at}
use Rattle.ct_terms.specs.CoreSorts.{HasTreeSort}
use Rattle.ct_formulas.specs.Formula.{Formula, bind}
use Rattle.ct_formulas.specs.FormulaSorts.{IsSorted, AreSound}
use Rattle.ct_formulas.specs.Compiled.{core_of}

-- which sorts are added with a sort is determined
abbrev pub AddSame : Type 0
AddSame = (heads : List Head) (es before after other : List Expression) → Adds heads es before after → Adds heads es before other → after ≡ other

pub record Theorems : Type 0 where
  pub add_same : AddSame
  pub itself : (d : Declarations) → Extends d d
  pub further : (last later earlier : Declarations) → Extends last later → Extends later earlier → Extends last earlier
  pub from_start : (d : Declarations) → IsConsistent d → Extends d start
  pub more_functions : (d : Declarations) (f : Function) → Extends (with_function d f) d
  pub more_definitions : (d : Declarations) (f : Function) → Extends (with_definition d f) d
  pub can_cut : (later earlier : Declarations) → IsConsistent earlier → Extends later earlier → CanCut later (lengths earlier)
  pub cut_back : (later earlier : Declarations) → Extends later earlier → cut later (lengths earlier) ≡ earlier
  pub unfolds : (table : Terms) (t : TermId) (core : Core) (sort : SortId) → AreOrdered table → slice_get table t.0 ≡ Some (core, sort) → term_at table t ≡ tree_layer (term_at table) core
  pub one : (table : Terms) (s t : TermId) → AreOrdered table → AreSingle table → s.0 < length table → t.0 < length table → term_at table s ≡ term_at table t → s ≡ t
  pub longer : (table more : Terms) (t : TermId) → AreOrdered (table ++ more) → t.0 < length table → term_at (table ++ more) t ≡ term_at table t
  pub subterms : (t : CoreTree) → subtrees t ≡ t ∷ flat_map subtrees (tree_children t)
  pub subterms_stand : (table : Terms) (t : TermId) (s : CoreTree) → AreOrdered table → t.0 < length table → Contains (subtrees (term_at table t)) s → (u : TermId) × (u.0 ≤ t.0) × (term_at table u ≡ s)
  pub one_sort : (d : Declarations) (t : CoreTree) (r s : SortId) → HasTreeSort d t r → HasTreeSort d t s → r ≡ s
  pub tree_sorted : (d : Declarations) (table : Terms) (t : TermId) (sort : SortId) → AreOrdered table → AreSortedTerms d table → IsOfSort table t sort → HasTreeSort d (term_at table t) sort
  pub core_sorted : (d : Declarations) (bodies : List Formula) (env : List CoreTree) (sorts : List SortId) (t : Formula) (sort : SortId) → IsConsistent d → AreSound d bodies → AllZip (HasTreeSort d) env sorts → IsSorted d sorts t sort → HasTreeSort d (core_of d bodies env t) sort
  pub core_lasting : (later earlier : Declarations) (bodies more : List Formula) (env : List CoreTree) (sorts : List SortId) (t : Formula) (sort : SortId) → IsConsistent earlier → Extends later earlier → AreSound earlier bodies → AllZip (HasTreeSort earlier) env sorts → IsSorted earlier sorts t sort → core_of later (bodies ++ more) env t ≡ core_of earlier bodies env t
  pub sorted_lasting : (later earlier : Declarations) (env : List SortId) (t : Formula) (sort : SortId) → IsConsistent later → IsConsistent earlier → Extends later earlier → IsSorted earlier env t sort → IsSorted later env t sort
  pub sound_lasting : (later earlier : Declarations) (bodies : List Formula) → IsConsistent later → IsConsistent earlier → Extends later earlier → later.definitions ≡ earlier.definitions → AreSound earlier bodies → AreSound later bodies
  pub sound_with : (d : Declarations) (f : Function) (bodies : List Formula) (body : Formula) → AreSound d bodies → IsSorted d (bind f.args []) body f.result → AreSound (with_definition d f) (bodies ++ body ∷ [])
  pub table_lasting : (later earlier : Declarations) (table : Terms) → Extends later earlier → AreSortedTerms earlier table → AreSortedTerms later table
