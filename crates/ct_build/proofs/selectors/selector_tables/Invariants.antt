use Rattle.std.proofs.Common.{◌≡◌, length}
use Rattle.ct_values.specs.Graph.{Nodes}
use Rattle.ct_eval.specs.Interpretation.{HasSelectors}
use Rattle.ct_build.specs.OpenClasses.{AreOfAllSorts}
use Rattle.ct_build.specs.Nodes.{HaveSortedNodes}
use Rattle.ct_build.specs.Tables.{AreSelectorRows}
use Rattle.ct_build.specs.Seen.{AreSeen}
use Rattle.ct_build.proofs.selectors.selector_tables.Given as goal

abbrev pub invariant-loop-t : goal.invariant-loop-t
invariant-loop-t l = record {
  many : length l.tables.items ≡ length l.classes.declarations.sels;
  selectors : (g : Nodes) → AreOfAllSorts l.classes.declarations g l.defaults → HaveSortedNodes l.classes.declarations l.classes.terms g l.nodes → HasSelectors l.classes.declarations g l.tables.items;
  seen : AreSeen l.seen l.tables.items;
  rows : AreSelectorRows l.classes l.nodes l.t l.tables.items;
}
