-- What a table gives: a node of the graph of the interpretation, of the table's sort.
use Rattle.std.proofs.Common.{◌≡◌, ℕ, suc, ◌<◌, Bool, true, false, List, [], ◌∷◌, length, Option, Some, unwrap_or, if◌then◌else◌, slice_get, refl, sym, ap, subst}
use Rattle.std.proofs.lemmas.Option.{slice_get_within}
use Rattle.ct_lemmas.proofs.Lists.{slice_get-there}
use Rattle.ct_sorts.specs.declared.ids.SortId.{SortId}
use Rattle.ct_sorts.specs.Declarations.{Declarations, Constructor, Selector, Function}
use Rattle.ct_values.specs.declared.node.NodeId.{NodeId}
use Rattle.ct_values.specs.Graph.{Nodes, IsClosed}
use Rattle.ct_values.specs.Value.{Value, reference}
use Rattle.ct_values.specs.Agreement.{point, node_point}
use Rattle.ct_values.specs.Fitting.{HasNodeSort}
use Rattle.ct_values.specs.Sharing.{IsRepresentative}
use Rattle.ct_eval.specs.declared.interp.Row.{Row}
use Rattle.ct_eval.specs.declared.interp.Table.{Table}
use Rattle.ct_eval.specs.Interpretation.{IsProper, FitsTable}
use Rattle.ct_eval.specs.declared.interp.Interp.{Interp}
use Rattle.ct_eval.specs.Evaluation.{table_value}
use Rattle.ct_eval.specs.LookUp.{are_same, row_for, look_up}
use Rattle.ct_eval.specs.Valued.{IsLonger}
use Rattle.ct_eval.specs.EvaluationStep.{HasValue, Theorems}
use Rattle.ct_eval.proofs.StepNodes.{HasNodeSort-longer, node_lasts, head_of_representative}
use Rattle.ct_eval.proofs.StepSorts.{same_sorts}

-- the result of the first row that fits, or the default, has a sort that all have
row_sorted : (d : Declarations) (g : Nodes) (sort : SortId) (rows : List Row) (default : NodeId) (values : List Value) → ((k : ℕ) (row : Row) → slice_get rows k ≡ Some row → HasNodeSort d g row.result sort) → HasNodeSort d g default sort → HasNodeSort d g (unwrap_or (row_for g rows values) default) sort
row_sorted d g sort [] default values each last = last
row_sorted d g sort (row ∷ rows) default values each last =
    by (are_same g row.args values) (each 0 row refl) (row_sorted d g sort rows default values (λ k r at. each (suc k) r at) last)
  where
    by : (b : Bool) → HasNodeSort d g row.result sort → HasNodeSort d g (unwrap_or (row_for g rows values) default) sort → HasNodeSort d g (unwrap_or (if b then Some row.result else row_for g rows values) default) sort
    by true here later = here
    by false here later = later

pub look_up_sorted : (d : Declarations) (g : Nodes) (sorts : List SortId) (sort : SortId) (table : Table) (values : List Value) → FitsTable d g sorts sort table → HasNodeSort d g (look_up g table values) sort
look_up_sorted d g sorts sort table values fits =
    row_sorted d g sort table.rows table.default values (λ k row at. (fits.rows_fit k row at).result_fits) fits.default_fits

-- a node with a sort is there, and in a longer graph too
pub sorted_within : (d : Declarations) (g longer : Nodes) (n : NodeId) (sort : SortId) → IsLonger g longer → HasNodeSort d g n sort → n.0 < length longer
sorted_within d g longer n sort l has =
    let stays = HasNodeSort-longer d g longer n sort l has in
    slice_get_within longer n.0 stays.0 stays.1

-- the representative of what a table gives
pub looked_up : Theorems → (d : Declarations) (g longer : Nodes) (n r : NodeId) (sort : SortId) → IsClosed g → IsLonger g longer → HasNodeSort d g n sort → IsRepresentative longer (node_point longer n) r → IsRepresentative longer (point g (reference n)) r × HasNodeSort d longer r sort
looked_up theorems d g longer n r sort closed l has f = (
  theorems.same_first longer (node_point longer n) (point g (reference n)) r (node_lasts theorems g longer n closed l (slice_get_within g n.0 has.0 has.1)) f,
  same_sorts d longer longer r n sort (head_of_representative theorems longer (node_point longer n) r f) (HasNodeSort-longer d g longer n sort l has),
)

-- each function has a table over its sorts
pub function_table : (d : Declarations) (i : Interp) (f : ℕ) (function : Function) → IsProper d i → slice_get d.functions f ≡ Some function → (table : Table) × (slice_get i.funs f ≡ Some table) × FitsTable d i.graph function.args function.result table
function_table d i f function proper declared =
    let within : f < length i.funs = subst (λ (n : ℕ). f < n) (sym proper.functions.one_each) (slice_get_within d.functions f function declared) in
    let table = slice_get-there i.funs f within in
    (table.0, table.1, proper.functions.fit f function table.0 declared table.1)

-- and each selector one over the sort of its constructor
pub selector_table : (d : Declarations) (i : Interp) (s : ℕ) (selector : Selector) (ctor : Constructor) → IsProper d i → slice_get d.sels s ≡ Some selector → slice_get d.ctors selector.ctor.0 ≡ Some ctor → (table : Table) × (slice_get i.offs s ≡ Some table) × FitsTable d i.graph (ctor.sort ∷ []) selector.sort table
selector_table d i s selector ctor proper declared built =
    let within : s < length i.offs = subst (λ (n : ℕ). s < n) (sym proper.selectors.one_each) (slice_get_within d.sels s selector declared) in
    let table = slice_get-there i.offs s within in
    (table.0, table.1, proper.selectors.fit s selector ctor table.0 declared built table.1)

-- what a table gives is a value that a reference stands for
pub given_is : (d : Declarations) (i : Interp) (g : Nodes) (o : Option Table) (table : Table) (values : List Value) (sort s : SortId) (n : NodeId) → o ≡ Some table → sort ≡ s → IsRepresentative g (point i.graph (reference (look_up i.graph table values))) n → HasNodeSort d g n s → HasValue d i g (table_value i o values) sort n
given_is d i g o table values sort s n at is first sorted =
    let value : table_value i o values ≡ reference (look_up i.graph table values) = ap (λ (x : Option Table). table_value i x values) at in
    record {
      first = subst (λ (v : Value). IsRepresentative g (point i.graph v) n) (sym value) first;
      sorted = subst (λ (t : SortId). HasNodeSort d g n t) (sym is) sorted;
    }
