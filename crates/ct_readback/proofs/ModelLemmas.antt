-- The tables of a model, item by item.
use Rattle.std.proofs.Common.{◌≡◌, ℕ, suc, ◌+◌, ◌<◌, List, [], ◌∷◌, ◌++◌, length, map, Option, Some, slice_get, refl, sym, ap, subst, ◌∙◌, arith, length-append, inl, inr}
use Rattle.std.specs.List.{AllZip}
use Rattle.std.proofs.lemmas.Option.{none-some}
use Rattle.std.proofs.lemmas.List.{length-map}
use Rattle.ct_lemmas.proofs.Lists.{slice_get-there, slice_get-append_left, slice_get-append_right, slice_get-map_at, slice_get-push_cases}
use Rattle.ct_lemmas.proofs.Pairs.{AllZip-weaker}
use Rattle.ct_sorts.specs.declared.ids.SortId.{SortId}
use Rattle.ct_sorts.specs.Declarations.{Declarations, Function}
use Rattle.ct_sexpr.specs.Expression.{Expression}
use Rattle.ct_values.specs.declared.node.NodeId.{NodeId}
use Rattle.ct_values.specs.Graph.{Nodes, IsClosed}
use Rattle.ct_values.specs.Fitting.{HasNodeSort}
use Rattle.ct_card.proofs.WellFormedLemmas.{longer_sort}
use Rattle.ct_eval.specs.declared.interp.Row.{Row}
use Rattle.ct_eval.specs.declared.interp.Table.{Table}
use Rattle.ct_eval.specs.Interpretation.{FitsRow}
use Rattle.ct_model.specs.ModelText.{off_numbers}
use Rattle.ct_readback.specs.ItemText.{Due, due_function, due_off, all_due}
use Rattle.ct_readback.specs.ItemAt.{RowValues, TableValues, IsRowFor}
use Rattle.ct_readback.specs.ModelReads.{IsRightAt, IsRefusedAt, IsFirstRefused}
use Rattle.ct_readback.specs.Said.{IsTableOf}
use Rattle.ct_readback.specs.Progress.{IsReadAt, AreFunctions}
use Rattle.ct_readback.proofs.PartLemmas.{row_longer, value_longer}

-- a table of a closed graph is one of a longer graph
pub table_longer : (d : Declarations) (g more : Nodes) (args : List SortId) (s : SortId) (values : TableValues) (table : Table) → IsClosed g → IsTableOf d g args s values table → IsTableOf d (g ++ more) args s values table
table_longer d g more args s values table closed h = record {
  fits = record {
    rows_fit = λ i row at.
        let fit = h.fits.rows_fit i row at in
        record { args_fit = longer_sorts args row.args fit.args_fit; result_fits = longer_sort d g more row.result s fit.result_fits };
    default_fits = longer_sort d g more table.default s h.fits.default_fits;
  };
  values_are = record {
    rows = longer_rows values.rows table.rows (λ i row at. h.fits.rows_fit i row at) h.values_are.rows;
    default = value_longer d g more s values.default table.default closed h.fits.default_fits h.values_are.default;
  };
}
  where
    longer_sorts : (ss : List SortId) (ns : List NodeId) → AllZip (HasNodeSort d g) ns ss → AllZip (HasNodeSort d (g ++ more)) ns ss
    longer_sorts ss ns k = AllZip-weaker (HasNodeSort d g) (HasNodeSort d (g ++ more)) (λ n t has. longer_sort d g more n t has) ns ss k

    longer_rows : (vs : List RowValues) (rows : List Row) → ((i : ℕ) (row : Row) → slice_get rows i ≡ Some row → FitsRow d g args s row) → AllZip (IsRowFor g) vs rows → AllZip (IsRowFor (g ++ more)) vs rows
    longer_rows [] [] fit k = tt
    longer_rows [] (r ∷ rs) fit k = absurd k
    longer_rows (v ∷ vs) [] fit k = absurd k
    longer_rows (v ∷ vs) (r ∷ rs) fit k = (
      (row_longer d g more args s v r closed (record { fits = fit 0 r refl; values_are = k.0 })).values_are,
      longer_rows vs rs (λ i row at. fit (suc i) row at) k.1,
    )

pub read_longer : (d : Declarations) (g more : Nodes) (items : List Expression) (due : Due) (place : ℕ) (table : Table) → IsClosed g → IsReadAt d g items due place table → IsReadAt d (g ++ more) items due place table
read_longer d g more items due place table closed (item, at, (values, right, is)) =
    (item, at, (values, right, table_longer d g more due.args due.result values table closed is))

-- ---- functions

pub functions_start : (d : Declarations) (g : Nodes) (items : List Expression) → AreFunctions d g items 0 []
functions_start d g items = record { long = refl; each = λ f function table at at_table. absurd (none-some table at_table) }

pub functions_longer : (d : Declarations) (g more : Nodes) (items : List Expression) (count : ℕ) (tables : List Table) → IsClosed g → AreFunctions d g items count tables → AreFunctions d (g ++ more) items count tables
functions_longer d g more items count tables closed h = record {
  long = h.long;
  each = λ f function table at at_table. read_longer d g more items (due_function function) f table closed (h.each f function table at at_table);
}

pub functions_more : (d : Declarations) (g : Nodes) (items : List Expression) (count : ℕ) (tables : List Table) (table : Table) → AreFunctions d g items count tables
    → ((function : Function) → slice_get d.functions count ≡ Some function → IsReadAt d g items (due_function function) count table) → AreFunctions d g items (count + 1) (tables ++ table ∷ [])
functions_more d g items count tables table h read = record {
  long = let long = h.long in omega (arith, long, length-append tables (table ∷ []));
  each = λ f function other at at_table.
      elim (slice_get-push_cases tables table other f at_table) [
        | inl old ↦ h.each f function other at old
        | inr new ↦
            let here : f ≡ count = new.0 ∙ h.long in
            subst (λ (t : Table). IsReadAt d g items (due_function function) f t) new.1
            (subst (λ k. IsReadAt d g items (due_function function) k table) (sym here) (read function (ap (slice_get d.functions) (sym here) ∙ at)))
      ];
}

-- ---- what is due

pub due_at : (d : Declarations) (f : ℕ) (function : Function) → slice_get d.functions f ≡ Some function → slice_get (all_due d) f ≡ Some (Some (due_function function))
due_at d f function at =
    slice_get-append_left (map (λ (k : Function). Some (due_function k)) d.functions) (map (due_off d) (off_numbers d)) f (Some (due_function function))
    (slice_get-map_at (λ (k : Function). Some (due_function k)) d.functions f function at)

pub due_off_at : (d : Declarations) (k s : ℕ) → slice_get (off_numbers d) k ≡ Some s → slice_get (all_due d) (length d.functions + k) ≡ Some (due_off d s)
due_off_at d k s at =
    ap (λ n. slice_get (all_due d) (n + k)) (sym (length-map d.functions (λ (f : Function). Some (due_function f))))
    ∙ slice_get-append_right (map (λ (f : Function). Some (due_function f)) d.functions) (map (due_off d) (off_numbers d)) k (due_off d s)
    (slice_get-map_at (due_off d) (off_numbers d) k s at)

-- the items of functions that were read are right
pub functions_right : (d : Declarations) (g : Nodes) (items : List Expression) (count : ℕ) (tables : List Table) → AreFunctions d g items count tables → (i : ℕ) → i < count → i < length d.functions
    → IsRightAt d (slice_get (all_due d) i) (slice_get items i)
functions_right d g items count tables h i within declared =
    let function = slice_get-there d.functions i declared in
    let table = slice_get-there tables i (let long = h.long in omega (arith, within, long)) in
    let read = h.each i function.0 table.0 function.1 table.1 in
    subst (λ (due : Option (Option Due)). IsRightAt d due (slice_get items i)) (sym (due_at d i function.0 function.1))
    (subst (λ (item : Option Expression). IsRightAt d (Some (Some (due_function function.0))) item) (sym read.1) (read.2.0, read.2.1))

pub functions_refused : (d : Declarations) (g : Nodes) (items : List Expression) (count : ℕ) (tables : List Table) (code : ℕ) → AreFunctions d g items count tables → count < length d.functions
    → IsRefusedAt d (slice_get (all_due d) count) (slice_get items count) code → IsFirstRefused d items count code
functions_refused d g items count tables code h within refused = record {
  before = λ i below. functions_right d g items count tables h i below (omega (arith, below, within));
  here = refused;
}
