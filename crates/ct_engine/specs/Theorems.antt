-- The theorems of lower crates that the proofs of this one rest on.
use Rattle.std.specs.Prelude.{◌≡◌, ◌↔◌, ℕ, ◌<◌, ◌⊎◌, IsTrue, List, ◌++◌, length, take, All, Some, slice_get, Contains}
use Rattle.ct_sorts.specs.declared.ids.SortId.{SortId}
use Rattle.ct_sorts.specs.Declarations.{Declarations, bool_sort}
use Rattle.ct_sorts.specs.Consistent.{IsConsistent}
use Rattle.ct_values.specs.Graph.{Nodes, IsClosed}
use Rattle.ct_values.specs.Agreement.{Point, same as same_values, AgreeAlways}
use Rattle.ct_values.specs.Fitting.{FitsGraph}
use Rattle.ct_terms.specs.declared.ids.TermId.{TermId}
use Rattle.ct_terms.specs.declared.ids.Lit.{Lit}
use Rattle.ct_terms.specs.declared.term.Core.{Core}
use Rattle.ct_terms.specs.declared.term.Core.TheVariants.{Eq, Ite}
use Rattle.ct_terms.specs.Literal.{opposite}
use Rattle.ct_terms.specs.Clause.{Clause}
use Rattle.ct_terms.specs.Terms.{Terms, IsOfSort, AreOrdered, AreSingle, AreSorted, BeginsWithTruths}
use Rattle.ct_terms.specs.CoreTree.{tree_layer, term_at}
use Rattle.ct_terms.specs.CoreSorts.{HasTreeSort}
use Rattle.ct_closure.specs.ClosedTable.{IsClosedTable, IsPresent, IsSplitTerm, HasCases}
use Rattle.ct_eval.specs.declared.interp.Interp.{Interp}
use Rattle.ct_eval.specs.Interpretation.{IsProper}
use Rattle.ct_eval.specs.Congruence.{HaveOneValue}
use Rattle.ct_eval.specs.Evaluation.{core_value, value_of}
use Rattle.ct_eval.specs.TreeValue.{tree_value}
use Rattle.ct_eval.specs.Truth.{Holds, truth_value}
use Rattle.ct_log.specs.declared.line.Line.{Line}
use Rattle.ct_log.specs.Acceptance.{Passes}
use Rattle.ct_sat.specs.declared.decided.Decided.{Decided}
use Rattle.ct_sat.specs.Up.{Up, IsContradictory, IsLowest}
use Rattle.ct_sat.specs.State.{SearchState, clauses_of, literals_of, FollowsByUnits, IsSound, IsConflict, IsQuiet}
use Rattle.ct_congr.specs.State.{State, AreEqual}

-- on what follows by units
pub record UnitTheorems : Type 0 where
  pub trail : (s : SearchState) (l : Lit) → IsSound s → Contains s.trail l → FollowsByUnits s l
  pub prefix : (s : SearchState) (k : ℕ) (next : Decided) (l : Lit) → IsSound s → slice_get s.decided k ≡ Some next
      → Contains (take next.index s.trail) l → Up (clauses_of s.clauses) (literals_of (take k s.decided)) l
  pub conflict : (s : SearchState) (step : ℕ) → IsSound s → IsConflict s step → IsContradictory (clauses_of s.clauses) (FollowsByUnits s)
  pub quiet : (s : SearchState) → IsQuiet s → IsContradictory (clauses_of s.clauses) (FollowsByUnits s) → ⊥
  pub lowest : (s : SearchState) (variables : List TermId) (t : TermId) → IsQuiet s → IsLowest variables (Contains s.trail) t → IsLowest variables (FollowsByUnits s) t

-- on what follows by units as clauses and decisions are added
pub record GrowthTheorems : Type 0 where
  pub decided : (clauses : List Clause) (decided : List Lit) → All (Up clauses decided) decided
  pub forced : (clauses : List Clause) (decided : List Lit) (clause : Clause) (l : Lit) → Contains clauses clause
      → Contains clause l → All (λ k. (k ≡ l) ⊎ Up clauses decided (opposite k)) clause → Up clauses decided l
  pub more_clauses : (clauses more : List Clause) (decided : List Lit) (l : Lit) → Up clauses decided l → Up (clauses ++ more) decided l
  pub more_decided : (clauses : List Clause) (decided more : List Lit) (l : Lit) → Up clauses decided l → Up clauses (decided ++ more) l

-- on terms of a table as trees
pub record TreeTheorems : Type 0 where
  pub unfolds : (table : Terms) (t : TermId) (core : Core) (sort : SortId) → AreOrdered table → slice_get table t.0 ≡ Some (core, sort) → term_at table t ≡ tree_layer (term_at table) core
  pub one : (table : Terms) (s t : TermId) → AreOrdered table → AreSingle table → s.0 < length table → t.0 < length table → term_at table s ≡ term_at table t → s ≡ t
  pub sorted : (d : Declarations) (table : Terms) (t : TermId) (sort : SortId) → AreOrdered table → AreSorted d table → IsOfSort table t sort → HasTreeSort d (term_at table t) sort

-- on classes as equivalences
pub record ClassTheorems : Type 0 where
  pub symmetric : (state : State) (x y : TermId) → AreEqual state x y → AreEqual state y x
  pub transitive : (state : State) (x y z : TermId) → AreEqual state x y → AreEqual state y z → AreEqual state x z
  pub inside : (state : State) (x y : TermId) → AreEqual state x y → y.0 < length state.reps

-- on closed tables, by numbers
pub record ClosureTheorems : Type 0 where
  pub conditionals : (d : Declarations) (table : Terms) (t c a b : TermId) (sort : SortId) → AreOrdered table → AreSingle table → AreSorted d table
      → IsClosedTable d table → slice_get table t.0 ≡ Some (Ite c a b, sort) → (sort ≡ bool_sort → ⊥) → IsPresent table (Eq t a) × IsPresent table (Eq t b)
  pub splits : (d : Declarations) (table : Terms) (t : TermId) (sort : SortId) → AreOrdered table → AreSingle table → AreSorted d table
      → IsClosedTable d table → IsSplitTerm d table t sort → HasCases d table t sort

-- on derivations of the empty clause, and on values of terms as trees
pub record ModelTheorems : Type 0 where
  pub no_model : (d : Declarations) (i : Interp) (terms : Terms) (asserts : List TermId) (lines : List Line) → IsConsistent d → IsProper d i
      → AreOrdered terms → BeginsWithTruths terms → AreSorted d terms → Passes d terms asserts lines → Holds d i terms asserts → ⊥
  pub tree : (d : Declarations) (i : Interp) (terms : Terms) (t : TermId) → value_of d i terms t ≡ tree_value d i (term_at terms t)

-- on values of terms in one interpretation
pub record ValueTheorems : Type 0 where
  pub same : (p q : Point) → IsClosed p.graph → IsClosed q.graph → IsTrue (same_values p q) ↔ AgreeAlways p q
  pub truth : (d : Declarations) (i : Interp) (terms : Terms) (t u : TermId) → HaveOneValue i (value_of d i terms) (value_of d i terms) t u
      → truth_value d i terms t ≡ truth_value d i terms u
  pub unfolds : (d : Declarations) (i : Interp) (terms : Terms) (t : TermId) (core : Core) (sort : SortId) → AreOrdered terms
      → slice_get terms t.0 ≡ Some (core, sort) → value_of d i terms t ≡ core_value d i (value_of d i terms) core
  pub closed : (d : Declarations) (g : Nodes) → FitsGraph d g → IsClosed g
