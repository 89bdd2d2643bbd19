-- Which rows tables have, as a set of keys.
use Rattle.std.specs.Prelude.{◌≡◌, ◌↔◌, Bool, true, List}
use Rattle.indexmap.specs.IndexSet.{IndexSet, contains}
use Rattle.ct_eval.specs.declared.interp.Table.{Table}
use Rattle.ct_build.specs.declared.rows.RowKey.{RowKey}
use Rattle.ct_build.specs.contracts.rows.RowKeyPartialEq.TheImpl as derived
use Rattle.ct_build.specs.Tables.{HasRowFor}

-- the derived test of two keys
abbrev pub same_row_key : RowKey → RowKey → Bool
same_row_key = derived.eq-value.it

-- the keys of the set are those whose table has a row for their arguments
abbrev pub AreSeen : {S : Type 0} → IndexSet RowKey S → List Table → Type 0
AreSeen seen tables = (key : RowKey) → contains same_row_key seen key ≡ true ↔ HasRowFor tables key.table key.args
