-- The theorems on terms and formulas that compiling stands on, as one record.
use Rattle.std.specs.Prelude.{◌≡◌, ℕ, ◌<◌, ◌≤◌, true, Bool, List, ◌∷◌, ◌++◌, length, All, Contains, Some, slice_get}
use Rattle.std.specs.List.{AllZip, flat_map}
use Rattle.ct_sorts.specs.declared.ids.CtorId.{CtorId}
use Rattle.ct_sorts.specs.declared.ids.DefId.{DefId}
use Rattle.ct_sorts.specs.declared.ids.SortId.{SortId}
use Rattle.ct_sorts.specs.Declarations.{Declarations, Constructor}
use Rattle.ct_sorts.specs.Consistent.{IsConsistent}
use Rattle.ct_terms.specs.declared.ids.TermId.{TermId}
use Rattle.ct_terms.specs.declared.term.Core.{Core}
use Rattle.ct_terms.specs.Terms.{Terms, IsOfSort, AreSorted as AreSortedTerms, AreOrdered, AreSingle}
use Rattle.ct_terms.specs.CoreTree.{CoreTree, tree_children, subtrees, tree_layer, no_term, term_at}
use Rattle.ct_terms.specs.CoreSorts.{AreFieldSorts, HasTreeSort, tree_sort}
use Rattle.ct_formulas.specs.Formula.{Formula, MentionsBelow}
use Rattle.ct_formulas.specs.FormulaSorts.{IsSorted, AreSound}
use Rattle.ct_listing.specs.Closed.{ClosedValue, IsClosedOf}
use Rattle.ct_listing.specs.Listable.{IsListable}
use Rattle.ct_formulas.specs.Choices.{choices_of}
use Rattle.ct_formulas.specs.Calls.{calls_below}
use Rattle.ct_terms.specs.Fields.{fields_of}
use Rattle.ct_formulas.specs.Compiled.{compiled, GiveSorted}
use Rattle.ct_formulas.specs.Occurrence.{occurs, uses_below, AreSameAt, UseSame, GiveUsed}

pub record Theorems : Type 0 where
  pub unfolds : (table : Terms) (t : TermId) (core : Core) (sort : SortId) → AreOrdered table → slice_get table t.0 ≡ Some (core, sort) → term_at table t ≡ tree_layer (term_at table) core
  pub one : (table : Terms) (s t : TermId) → AreOrdered table → AreSingle table → s.0 < length table → t.0 < length table → term_at table s ≡ term_at table t → s ≡ t
  pub longer : (table more : Terms) (t : TermId) → AreOrdered (table ++ more) → t.0 < length table → term_at (table ++ more) t ≡ term_at table t
  pub subterms : (t : CoreTree) → subtrees t ≡ t ∷ flat_map subtrees (tree_children t)
  pub subterms_stand : (table : Terms) (t : TermId) (s : CoreTree) → AreOrdered table → t.0 < length table → Contains (subtrees (term_at table t)) s → (u : TermId) × (u.0 ≤ t.0) × (term_at table u ≡ s)
  pub subterms_of_subterms : (t s u : CoreTree) → Contains (subtrees t) s → Contains (subtrees s) u → Contains (subtrees t) u
  pub read : (d : Declarations) (t : CoreTree) (sort : SortId) → HasTreeSort d t sort → tree_sort d t ≡ sort
  pub one_sort : (d : Declarations) (t : CoreTree) (r s : SortId) → HasTreeSort d t r → HasTreeSort d t s → r ≡ s
  pub sorted : (d : Declarations) (table : Terms) (t : TermId) (sort : SortId) → AreOrdered table → AreSortedTerms d table → IsOfSort table t sort → HasTreeSort d (term_at table t) sort
  pub compiled_sorted : (d : Declarations) (n : ℕ) (call : DefId → List CoreTree → CoreTree) (env : List CoreTree) (sorts : List SortId) (t : Formula) (sort : SortId) → IsConsistent d → GiveSorted d n call → AllZip (HasTreeSort d) env sorts → MentionsBelow n t → IsSorted d sorts t sort → HasTreeSort d (compiled d call env t) sort
  pub calls_sorted : (d : Declarations) (bodies : List Formula) (n : ℕ) → IsConsistent d → AreSound d bodies → GiveSorted d n (calls_below (compiled d) no_term bodies n)
  pub occurring : (d : Declarations) (uses : DefId → ℕ → Bool) (call : DefId → List CoreTree → CoreTree) (t : Formula) (env others : List CoreTree) → UseSame uses call → AreSameAt (occurs d uses t) env others → compiled d call env t ≡ compiled d call others t
  pub used : (d : Declarations) (bodies : List Formula) (n : ℕ) → UseSame (uses_below d bodies n) (calls_below (compiled d) no_term bodies n)
  pub used_subterm : (d : Declarations) (bodies : List Formula) (n : ℕ) → AreSound d bodies → GiveUsed (uses_below d bodies n) (calls_below (compiled d) no_term bodies n)
  pub occurring_subterm : (d : Declarations) (uses : DefId → ℕ → Bool) (call : DefId → List CoreTree → CoreTree) (env : List CoreTree) (sorts : List SortId) (t : Formula) (sort : SortId) (i : ℕ) (u : CoreTree) → GiveUsed uses call → IsSorted d sorts t sort → occurs d uses t i ≡ true → slice_get env i ≡ Some u → Contains (subtrees (compiled d call env t)) u
  pub mentions : (d : Declarations) (env : List SortId) (t : Formula) (sort : SortId) → IsSorted d env t sort → MentionsBelow (length d.definitions) t
  pub fields : (d : Declarations) (c : CtorId) (ctor : Constructor) (t : CoreTree) (sorts : List SortId) → IsConsistent d → slice_get d.ctors c.0 ≡ Some ctor → HasTreeSort d t ctor.sort → AreFieldSorts d ctor.sels sorts → AllZip (HasTreeSort d) (fields_of d c t) sorts
  pub chosen : (d : Declarations) (sorts : List SortId) (vs : List ClosedValue) → IsConsistent d → All (IsListable d) sorts → Contains (choices_of d sorts) vs → AllZip (IsClosedOf d) vs sorts
