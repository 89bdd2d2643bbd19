-- A table that grows by the core terms of assertions, one after the other.
use Rattle.std.specs.Prelude.{◌≡◌, ◌<◌, List, [], ◌++◌, length, All}
use Rattle.std.specs.List.{AllZip}
use Rattle.ct_sorts.specs.declared.ids.SortId.{SortId}
use Rattle.ct_sorts.specs.Declarations.{Declarations, bool_sort}
use Rattle.ct_sorts.specs.Consistent.{IsConsistent}
use Rattle.ct_terms.specs.declared.ids.TermId.{TermId}
use Rattle.ct_terms.specs.Terms.{Terms, IsOfSort, IsBoolean, AreSorted, AreOrdered, AreSingle}
use Rattle.ct_terms.specs.CoreTree.{CoreTree, term_at}
use Rattle.ct_terms.specs.CoreSorts.{HasTreeSort}
use Rattle.ct_formulas.specs.Formula.{Formula}
use Rattle.ct_formulas.specs.FormulaSorts.{IsSorted as IsSortedFormula, AreSound}
use Rattle.ct_formulas.specs.Compiled.{core_of}
use Rattle.ct_closure.specs.ClosedTable.{terms_at}
use Rattle.ct_compile.specs.Effect.{IsPrefix, AddsTrees}
use Rattle.ct_stack.specs.Stack.{Context, cores}
use Rattle.ct_audit.specs.Grown.{terms_of}

-- the theorems on terms that this stands on
pub record Theorems : Type 0 where
  pub one : (table : Terms) (s t : TermId) → AreOrdered table → AreSingle table → s.0 < length table → t.0 < length table → term_at table s ≡ term_at table t → s ≡ t
  pub longer : (table more : Terms) (t : TermId) → AreOrdered (table ++ more) → t.0 < length table → term_at (table ++ more) t ≡ term_at table t
  pub one_sort : (d : Declarations) (t : CoreTree) (r s : SortId) → HasTreeSort d t r → HasTreeSort d t s → r ≡ s
  pub tree_sorted : (d : Declarations) (table : Terms) (t : TermId) (sort : SortId) → AreOrdered table → AreSorted d table → IsOfSort table t sort → HasTreeSort d (term_at table t) sort
  pub core_sorted : (d : Declarations) (bodies : List Formula) (env : List CoreTree) (sorts : List SortId) (t : Formula) (sort : SortId) → IsConsistent d → AreSound d bodies → AllZip (HasTreeSort d) env sorts → IsSortedFormula d sorts t sort → HasTreeSort d (core_of d bodies env t) sort

-- all but the formulas that are left are in the table
pub record IsGrowing (c : Context) (all left : List Formula) (old now : Terms) (numbers : List TermId) : Type 0 where
  pub prefix : IsPrefix old now
  pub sorted : AreSorted c.declarations now
  pub booleans : All (IsBoolean now) numbers
  pub asserted : terms_at now numbers ++ cores c left ≡ cores c all
  pub adds : AddsTrees (terms_of c all) old now

-- the formulas are closed and Boolean
abbrev pub AreBoolean : Context → List Formula → Type 0
AreBoolean c formulas = All (λ t. IsSortedFormula c.declarations [] t bool_sort) formulas
