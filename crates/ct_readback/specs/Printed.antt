-- What a model that was printed reads back as.
use Rattle.std.specs.Prelude.{◌≡◌, ℕ, ◌<◌, ◌≤◌, List, map, length, Some, slice_get, true, Ok, Err}
use Rattle.std.specs.List.{AllZip}
use Rattle.ct_sorts.specs.declared.ids.SortId.{SortId}
use Rattle.ct_sorts.specs.Declarations.{Declarations, Function}
use Rattle.ct_sexpr.specs.Expression.{Expression}
use Rattle.ct_values.specs.declared.node.Node.TheVariants.{Elem}
use Rattle.ct_values.specs.Graph.{Nodes}
use Rattle.ct_values.specs.Value.{Value}
use Rattle.ct_values.specs.Agreement.{point, node_point, AgreeAlways}
use Rattle.ct_terms.specs.declared.ids.TermId.{TermId}
use Rattle.ct_terms.specs.Terms.{Terms, AreSorted, AreOrdered}
use Rattle.ct_eval.specs.declared.interp.Table.{Table}
use Rattle.ct_eval.specs.declared.interp.Interp.{Interp}
use Rattle.ct_eval.specs.Interpretation.{IsProper}
use Rattle.ct_eval.specs.LookUp.{look_up}
use Rattle.ct_eval.specs.Truth.{Holds}
use Rattle.ct_card.specs.Sizes.{Table as Sizes}
use Rattle.ct_model.specs.ModelText.{can_miss}
use Rattle.ct_readback.specs.Words.{number_bound}
use Rattle.ct_readback.specs.ModelReads.{ModelReads}

-- all numbers that a model writes are below 2^64: those of elements, of nodes and of parameters
pub record IsInRange (d : Declarations) (i : Interp) : Type 0 where
  pub elements : (n number : ℕ) (s : SortId) → slice_get i.graph n ≡ Some (Elem s number) → number < number_bound
  pub nodes : length i.graph ≤ number_bound
  pub parameters : (f : ℕ) (function : Function) → slice_get d.functions f ≡ Some function → length function.args ≤ number_bound

-- for so many arguments that are the same the tables give the same
abbrev pub GiveSame : Nodes → Nodes → ℕ → Table → Table → Type 0
GiveSame g h count table other =
    (vs ws : List Value) → length vs ≡ count → AllZip AgreeAlways (map (point g) vs) (map (point h) ws)
    → AgreeAlways (node_point g (look_up g table vs)) (node_point h (look_up h other ws))

-- so do the tables of each function, and those of each selector that can be wrongly applied: those that are printed
pub record HaveSameTables (d : Declarations) (i j : Interp) : Type 0 where
  pub functions : (f : ℕ) (function : Function) (table other : Table) → slice_get d.functions f ≡ Some function → slice_get i.funs f ≡ Some table → slice_get j.funs f ≡ Some other
      → GiveSame i.graph j.graph (length function.args) table other
  pub offs : (s : ℕ) (table other : Table) → can_miss d s ≡ true → slice_get i.offs s ≡ Some table → slice_get j.offs s ≡ Some other
      → GiveSame i.graph j.graph 1 table other

-- the expression reads back as the interpretation: it is not refused, and what it says is proper, has the same printed tables and makes
-- every assertion true that held before
pub record ReadsBack (d : Declarations) (sizes : Sizes) (i : Interp) (e : Expression) : Type 0 where
  pub accepted : (place code : ℕ) → ModelReads d sizes e (Err (place, code)) → ⊥
  pub proper : (j : Interp) → ModelReads d sizes e (Ok j) → IsProper d j
  pub tables : (j : Interp) → ModelReads d sizes e (Ok j) → HaveSameTables d i j
  pub assertions : (j : Interp) (terms : Terms) (asserts : List TermId) → ModelReads d sizes e (Ok j) → AreOrdered terms → AreSorted d terms
      → Holds d i terms asserts → Holds d j terms asserts
