use Rattle.std.proofs.Common.{◌≡◌, length}
use Rattle.ct_values.specs.Graph.{Nodes}
use Rattle.ct_eval.specs.Interpretation.{HasFunctions}
use Rattle.ct_build.specs.OpenClasses.{AreOfAllSorts}
use Rattle.ct_build.specs.Nodes.{HaveSortedNodes}
use Rattle.ct_build.specs.Tables.{AreFunctionRows}
use Rattle.ct_build.specs.Seen.{AreSeen}
use Rattle.ct_build.proofs.functions.function_tables.Given as goal

abbrev pub invariant-loop-t : goal.invariant-loop-t
invariant-loop-t l = record {
  many : length l.tables.items ≡ length l.sig.functions;
  functions : (g : Nodes) → AreOfAllSorts l.sig g l.defaults → HaveSortedNodes l.sig l.table g l.nodes → HasFunctions l.sig g l.tables.items;
  seen : AreSeen l.seen l.tables.items;
  rows : AreFunctionRows l.table l.nodes l.t l.tables.items;
}
