-- A row more at the end of a table.
use Rattle.std.proofs.Common.{◌≡◌, ℕ, zero, suc, ◌<◌, ◌⊎◌, Bool, true, false, cond, nat_lt, List, [], ◌∷◌, ◌++◌, length, take, Option, Some, None, unwrap_or, slice_get, set, ◌≤◌, refl, sym, ap, subst, ◌∙◌, inl, inr, arith}
use Rattle.std.proofs.lemmas.Bool.{ltb-true, lt-ltb}
use Rattle.std.proofs.lemmas.List.{length-set, length-take}
use Rattle.std.proofs.lemmas.Option.{none-some, same_Some, slice_get_within}
use Rattle.ct_lemmas.proofs.Lists.{slice_get-push_cases, slice_get-set_other, slice_get-set_same}
use Rattle.ct_lemmas.proofs.Numbers.{same_or_other}
use Rattle.ct_lemmas.proofs.Prefixes.{slice_get-take, slice_get-take_below}
use Rattle.indexmap.specs.IndexMap.{IndexMap, get}
use Rattle.ct_sorts.specs.Declarations.{Declarations, Function}
use Rattle.ct_values.specs.declared.node.NodeId.{NodeId}
use Rattle.ct_values.specs.Graph.{Nodes, IsClosed}
use Rattle.ct_values.specs.Value.{Value, reference}
use Rattle.ct_eval.specs.declared.interp.Row.{Row}
use Rattle.ct_eval.specs.declared.interp.Table.{Table}
use Rattle.ct_eval.specs.declared.interp.Interp.{Interp}
use Rattle.ct_eval.specs.declared.index.RowKey.{RowKey}
use Rattle.ct_eval.specs.Index.{AreRepresentativeNodes, KeepsRows, AreIndexed, row_key, same_row_key}
use Rattle.ct_eval.specs.Interpretation.{FitsRow, FitsTable, HasFunctions}
use Rattle.ct_eval.specs.LookUp.{are_same, row_for}
use Rattle.ct_eval.specs.Evaluation.{table_value}
use Rattle.ct_eval.specs.Valued.{IsLonger}
use Rattle.ct_eval.proofs.IndexLemmas as index_lemmas
use Rattle.ct_trial.specs.Growth.{with_row, AddsRow, HasRow}

-- what is written last stands
pub set_twice : {X : Type 0} (xs : List X) (i : ℕ) (x y : X) → set (set xs i x) i y ≡ set xs i y
set_twice [] i x y = refl
set_twice (z ∷ xs) zero x y = refl
set_twice (z ∷ xs) (suc i) x y = ap (λ l. z ∷ l) (set_twice xs i x y)

-- the first row stays the first where one more follows
pub row_stays : (g : Nodes) (rows : List Row) (row : Row) (vs : List Value) (n : NodeId) → row_for g rows vs ≡ Some n → row_for g (rows ++ row ∷ []) vs ≡ Some n
row_stays g [] row vs n e = absurd (none-some n e)
row_stays g (r ∷ rs) row vs n e = by (are_same g r.args vs) (row_for g rs vs) (row_for g (rs ++ row ∷ []) vs) (row_stays g rs row vs n) e
  where
    by : (b : Bool) (old new : Option NodeId) → (old ≡ Some n → new ≡ Some n) → cond b (Some r.result) old ≡ Some n → cond b (Some r.result) new ≡ Some n
    by true old new later h = h
    by false old new later h = later h

module _ (old new : List Table) (number : ℕ) (row : Row) (adds : AddsRow old new number row) where
  -- the table with the row more
  pub at_number : slice_get new number ≡ Some (with_row adds.0 row)
  at_number = ap (λ (l : List Table). slice_get l number) adds.2 ∙ slice_get-set_same old number (with_row adds.0 row) (slice_get_within old number adds.0 adds.1)

  -- the other tables
  at_other : (k : ℕ) → (k ≡ number → ⊥) → slice_get new k ≡ slice_get old k
  at_other k other = ap (λ (l : List Table). slice_get l k) adds.2 ∙ slice_get-set_other old number k (with_row adds.0 row) other

  pub as_many : length new ≡ length old
  as_many = ap (λ (l : List Table). length l) adds.2 ∙ length-set old number (with_row adds.0 row)

  -- rows that there were there are, and they give what they gave
  row_in : (g : Nodes) (k : ℕ) (vs : List Value) → HasRow g (slice_get old k) vs → (table : Table) × (later : Table) × (slice_get old k ≡ Some table) × (slice_get new k ≡ Some later) × ((n : NodeId) × (row_for g table.rows vs ≡ Some n) × (row_for g later.rows vs ≡ Some n))
  row_in g k vs has = by (same_or_other k number) (slice_get old k) refl has
    where
      by : (k ≡ number) ⊎ (k ≡ number → ⊥) → (o : Option Table) → slice_get old k ≡ o → HasRow g o vs → (table : Table) × (later : Table) × (slice_get old k ≡ Some table) × (slice_get new k ≡ Some later) × ((n : NodeId) × (row_for g table.rows vs ≡ Some n) × (row_for g later.rows vs ≡ Some n))
      by side None e had = absurd had
      by (inr other) (Some table) e had = (table, table, e, at_other k other ∙ e, (had.0, had.1, had.1))
      by (inl same) (Some table) e had =
          let is : adds.0 ≡ table = same_Some adds.0 table (sym adds.1 ∙ ap (slice_get old) (sym same) ∙ e) in
          (table, with_row adds.0 row, e, ap (slice_get new) same ∙ at_number, (had.0, had.1, row_stays g adds.0.rows row vs had.0 (ap (λ (t : Table). row_for g t.rows vs) is ∙ had.1)))

  pub has_row_still : (g : Nodes) (k : ℕ) (vs : List Value) → HasRow g (slice_get old k) vs → HasRow g (slice_get new k) vs
  has_row_still g k vs has =
      let both = row_in g k vs has in
      subst (λ (o : Option Table). HasRow g o vs) (sym both.3) (both.4.0, both.4.2)

  pub given_still : (i : Interp) (k : ℕ) (vs : List Value) → HasRow i.graph (slice_get old k) vs → table_value i (slice_get new k) vs ≡ table_value i (slice_get old k) vs
  given_still i k vs has =
      let both = row_in i.graph k vs has in
      let table = both.0 in
      let later = both.1 in
      ap (λ (o : Option Table). table_value i o vs) both.3
      ∙ ap (λ (o : Option NodeId). reference (unwrap_or o later.default)) both.4.2
      ∙ sym (ap (λ (o : Option NodeId). reference (unwrap_or o table.default)) both.4.1)
      ∙ sym (ap (λ (o : Option Table). table_value i o vs) both.2)

  -- the tables fit where the row does
  pub functions_still : (d : Declarations) (g : Nodes) (f : Function) → slice_get d.functions number ≡ Some f → FitsRow d g f.args f.result row → HasFunctions d g old → HasFunctions d g new
  functions_still d g f declared fits had = record {
    one_each = as_many ∙ had.one_each;
    fit = λ k function table at stands. by k function table at stands (same_or_other k number);
  }
    where
      rows_fit : (table : Table) → FitsTable d g f.args f.result table → (r : ℕ) (x : Row) → slice_get (table.rows ++ row ∷ []) r ≡ Some x → FitsRow d g f.args f.result x
      rows_fit table before r x at = elim (slice_get-push_cases table.rows row x r at) [
        | inl old_one ↦ before.rows_fit r x old_one
        | inr new_one ↦ subst (FitsRow d g f.args f.result) new_one.1 fits
      ]

      here : FitsTable d g f.args f.result (with_row adds.0 row)
      here =
          let before = had.fit number f adds.0 declared adds.1 in
          record { rows_fit = rows_fit adds.0 before; default_fits = before.default_fits }

      by : (k : ℕ) (function : Function) (table : Table) → slice_get d.functions k ≡ Some function → slice_get new k ≡ Some table → (k ≡ number) ⊎ (k ≡ number → ⊥) → FitsTable d g function.args function.result table
      by k function table at stands (inr other) = had.fit k function table at (sym (at_other k other) ∙ stands)
      by k function table at stands (inl same) =
          let is_function : f ≡ function = same_Some f function (sym declared ∙ ap (slice_get d.functions) (sym same) ∙ at) in
          let is_table : with_row adds.0 row ≡ table = same_Some (with_row adds.0 row) table (sym at_number ∙ ap (slice_get new) (sym same) ∙ stands) in
          subst (λ (t : Table). FitsTable d g function.args function.result t) is_table (subst (λ (h : Function). FitsTable d g h.args h.result (with_row adds.0 row)) is_function here)

  -- the map keeps the rows, once it has the new one
  module _ {S : Type 0} (theorems : index_lemmas.Theorems) (g : Nodes) (index more : IndexMap RowKey NodeId S) (keys : List NodeId) (firsts : (longer : Nodes) → IsClosed longer → IsLonger g longer → AreRepresentativeNodes longer keys row.args) (stay : (k : RowKey) (n : NodeId) → get same_row_key index k ≡ Some n → get same_row_key more k ≡ Some n) (added : get same_row_key index (row_key number keys) ≡ None → get same_row_key more (row_key number keys) ≡ Some row.result) (only : (k : RowKey) (n : NodeId) → get same_row_key more k ≡ Some n → (get same_row_key index k ≡ Some n) ⊎ ((k ≡ row_key number keys) × (n ≡ row.result))) where
    elsewhere : (k : ℕ) (args : List NodeId) → (k ≡ number → ⊥) → get same_row_key more (row_key k args) ≡ get same_row_key index (row_key k args)
    elsewhere k args other = index_lemmas.same_elsewhere index more (row_key number keys) row.result stay only (row_key k args) (λ e. other (ap (λ (key : RowKey). key.table) e))

    here_still : AreIndexed g old index → KeepsRows g number (adds.0.rows ++ row ∷ []) more
    here_still had longer closed l =
        index_lemmas.HasRows-push theorems longer closed number adds.0.rows row keys index more (firsts longer closed l) stay added only (had.rows number adds.0 adds.1 longer closed l)

    pub indexed_still : AreIndexed g old index → AreIndexed g new more
    indexed_still had = record {
      rows = λ k table at. by k table at (same_or_other k number);
      only = λ k args past. elsewhere k args (λ same. past_number k past same) ∙ had.only k args (subst (λ (n : ℕ). n ≤ k) as_many past);
    }
      where
        past_number : (k : ℕ) → length new ≤ k → k ≡ number → ⊥
        past_number k past same =
            let within : number < length old = slice_get_within old number adds.0 adds.1 in
            let many = as_many in
            absurd (omega arith)

        by : (k : ℕ) (table : Table) → slice_get new k ≡ Some table → (k ≡ number) ⊎ (k ≡ number → ⊥) → KeepsRows g k table.rows more
        by k table at (inr other) = λ longer closed l.
            index_lemmas.HasRows-same longer k table.rows index more (λ args. elsewhere k args other) (had.rows k table (sym (at_other k other) ∙ at) longer closed l)
        by k table at (inl same) =
            let is_table : with_row adds.0 row ≡ table = same_Some (with_row adds.0 row) table (sym at_number ∙ ap (slice_get new) (sym same) ∙ at) in
            subst (λ (t : Table). KeepsRows g k t.rows more) is_table (subst (λ (m : ℕ). KeepsRows g m (adds.0.rows ++ row ∷ []) more) (sym same) (here_still had))

-- the map keeps the rows of so many tables, once it has those of no others
pub indexed_cut : {S : Type 0} (g : Nodes) (tables : List Table) (count : ℕ) (index more : IndexMap RowKey NodeId S) → ((k : RowKey) → get same_row_key more k ≡ cond (nat_lt k.table count) (get same_row_key index k) None) → AreIndexed g tables index → AreIndexed g (take count tables) more
indexed_cut g tables count index more left had = record {
  rows = λ t table at longer closed l.
      let below : t < count = slice_get-take_below count tables t table at in
      index_lemmas.HasRows-same longer t table.rows index more (λ args. left (row_key t args) ∙ ap (λ (b : Bool). cond b (get same_row_key index (row_key t args)) None) (lt-ltb t count below)) (had.rows t table (slice_get-take count tables t table at) longer closed l);
  only = λ t args past. left (row_key t args) ∙ by t args past (nat_lt t count) refl;
}
  where
    by : (t : ℕ) (args : List NodeId) → length (take count tables) ≤ t → (b : Bool) → nat_lt t count ≡ b → cond b (get same_row_key index (row_key t args)) None ≡ None
    by t args past false e = refl
    by t args past true e = let long = length-take count tables in let below = ltb-true t count e in had.only t args (omega arith)
