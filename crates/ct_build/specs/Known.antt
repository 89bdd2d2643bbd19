-- What holds of all classes, and the theorems on which their values rest.
use Rattle.std.specs.Prelude.{◌≡◌, ℕ, ◌≤◌, length}
use Rattle.ct_sorts.specs.declared.ids.SortId.{SortId}
use Rattle.ct_sorts.specs.Consistent.{IsConsistent}
use Rattle.ct_sorts.specs.Structure.{AreOfTheirSorts, AreOfTheirConstructors}
use Rattle.ct_card.specs.Cardinality.{IsSingle, IsInfinite}
use Rattle.ct_values.specs.Graph.{Nodes, IsClosed}
use Rattle.ct_values.specs.Fitting.{FitsGraph}
use Rattle.ct_terms.specs.declared.ids.TermId.{TermId}
use Rattle.ct_terms.specs.Terms.{IsOfSort, AreSorted, AreOrdered, BeginsWithTruths}
use Rattle.ct_closure.specs.ClosedTable.{IsClosedTable, IsSplitTerm, HasCases}
use Rattle.ct_congr.specs.State.{State, AreEqual}
use Rattle.ct_build.specs.ClassValues.{Laws}

pub record Known (state : State) : Type 0 where
  pub laws : Laws
  pub long : length state.reps ≡ length state.terms
  pub sorted : AreSorted state.declarations state.terms
  pub ordered : AreOrdered state.terms
  pub begins : BeginsWithTruths state.terms
  pub one_sort : (x y : TermId) (s : SortId) → AreEqual state x y → IsOfSort state.terms x s → IsOfSort state.terms y s
  pub consistent : IsConsistent state.declarations
  pub own_sorts : AreOfTheirSorts state.declarations
  pub own_ctors : AreOfTheirConstructors state.declarations
  pub some : 1 ≤ length state.declarations.sorts
  pub splits : IsClosedTable state.declarations state.terms → (t : TermId) (s : SortId) → IsSplitTerm state.declarations state.terms t s → HasCases state.declarations state.terms t s
  pub several : (s : ℕ) → IsInfinite state.declarations s → IsSingle state.declarations s → ⊥
  pub closed : (g : Nodes) → FitsGraph state.declarations g → IsClosed g
