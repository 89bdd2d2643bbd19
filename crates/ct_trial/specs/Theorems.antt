-- The theorems on declarations and graphs that growth rests on.
use Rattle.std.specs.Prelude.{◌≡◌, ◌++◌}
use Rattle.std.specs.List.{AllByRecursion}
use Rattle.ct_sorts.specs.declared.ids.SortId.{SortId}
use Rattle.ct_sorts.specs.Declarations.{Declarations}
use Rattle.ct_sorts.specs.Consistent.{IsConsistent}
use Rattle.ct_sorts.specs.Grown.{Extends}
use Rattle.ct_values.specs.declared.node.NodeId.{NodeId}
use Rattle.ct_values.specs.Graph.{Nodes, IsClosed}
use Rattle.ct_values.specs.Value.{Value, IsOver}
use Rattle.ct_values.specs.Agreement.{point, head, children_of, AgreeAlways}
use Rattle.ct_values.specs.Fitting.{HasNodeSort, FitsGraph}
use Rattle.ct_values.specs.WellFormed.{IsWellFormedGraph}
use Rattle.ct_eval.specs.declared.interp.Interp.{Interp}
use Rattle.ct_eval.specs.Interpretation.{IsProper}
use Rattle.ct_eval.specs.Appended.{IsClosedInterp}

pub record GrowthTheorems : Type 0 where
  pub closed : (d : Declarations) (g : Nodes) → FitsGraph d g → IsClosed g
  pub lasting : (later earlier : Declarations) (g : Nodes) (n : NodeId) (s : SortId) → Extends later earlier → HasNodeSort earlier g n s → HasNodeSort later g n s
  pub well_formed : (later earlier : Declarations) (g : Nodes) → IsConsistent earlier → Extends later earlier → IsWellFormedGraph earlier g → IsWellFormedGraph later g
  pub over : (d : Declarations) (i : Interp) → IsConsistent d → IsProper d i → IsClosedInterp i
  pub head : (g more : Nodes) (v : Value) → IsOver g v → head (point (g ++ more) v) ≡ head (point g v)
  pub children : (g more : Nodes) (v : Value) → IsOver g v → children_of (g ++ more) v ≡ children_of g v
  pub children_over : (g : Nodes) (v : Value) → IsClosed g → IsOver g v → AllByRecursion (IsOver g) (children_of g v)
  pub same : (g more : Nodes) (v : Value) → IsClosed g → IsOver g v → AgreeAlways (point (g ++ more) v) (point g v)
