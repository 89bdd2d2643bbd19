use Rattle.std.proofs.Common.{◌≡◌, ℕ, [], length, slice_get, Some}
use Rattle.ct_values.specs.Graph.{Nodes}
use Rattle.ct_eval.specs.declared.interp.Table.{Table}
use Rattle.ct_build.specs.OpenClasses.{AreOfAllSorts}
use Rattle.ct_build.proofs.TableLemmas.{HasFirstSelectors}
use Rattle.ct_build.proofs.selectors.empty_tables.Given as goal

abbrev pub invariant-loop-s : goal.invariant-loop-s
invariant-loop-s l = record {
  many : length l.tables.items ≡ l.s;
  selectors : (g : Nodes) → AreOfAllSorts l.sig g l.defaults → HasFirstSelectors l.sig g l.s l.tables.items;
  empty : (s : ℕ) (table : Table) → slice_get l.tables.items s ≡ Some table → table.rows ≡ [];
}
