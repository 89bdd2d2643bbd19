use Rattle.std.proofs.Common.{◌≡◌, ℕ, [], length, slice_get, Some}
use Rattle.ct_values.specs.Graph.{Nodes}
use Rattle.ct_eval.specs.declared.interp.Table.{Table}
use Rattle.ct_build.specs.OpenClasses.{AreOfAllSorts}
use Rattle.ct_build.proofs.TableLemmas.{HasFirstFunctions}
use Rattle.ct_build.proofs.functions.empty_tables.Given as goal

abbrev pub invariant-loop-f : goal.invariant-loop-f
invariant-loop-f l = record {
  many : length l.tables.items ≡ l.f;
  functions : (g : Nodes) → AreOfAllSorts l.sig g l.defaults → HasFirstFunctions l.sig g l.f l.tables.items;
  empty : (f : ℕ) (table : Table) → slice_get l.tables.items f ≡ Some table → table.rows ≡ [];
}
