-- Tables of two graphs that have the same values give the same for the same arguments.
use Rattle.std.proofs.Common.{◌≡◌, ℕ, Bool, true, false, ◌&&◌, List, [], ◌∷◌, length, map, Option, Some, unwrap_or, slice_get, refl, sym, ap, ap₂, subst, ◌∙◌, arith, true≢false, if◌then◌else◌}
use Rattle.std.specs.List.{AllZip}
use Rattle.ct_sorts.specs.declared.ids.SortId.{SortId}
use Rattle.ct_sorts.specs.Declarations.{Declarations}
use Rattle.ct_values.specs.declared.node.NodeId.{NodeId}
use Rattle.ct_values.specs.Graph.{Nodes, IsClosed}
use Rattle.ct_values.specs.Value.{Value}
use Rattle.ct_values.specs.Agreement.{Point, point, node_point, AgreeAlways}
use Rattle.ct_values.specs.Fitting.{HasNodeSort}
use Rattle.ct_values.proofs.AgreeLemmas.{AgreeAlways-parts, AgreeAlways-refl, AgreeAlways-sym, AgreeAlways-trans}
use Rattle.ct_values.proofs.DepthLemmas.{every_depth}
use Rattle.ct_eval.specs.declared.interp.Row.{Row}
use Rattle.ct_eval.specs.declared.interp.Table.{Table}
use Rattle.ct_eval.specs.LookUp.{are_same, row_for, look_up}
use Rattle.ct_eval.specs.Interpretation.{FitsRow, FitsTable}
use Rattle.ct_eval.proofs.CongruenceLemmas.{Alike, same_alike}
use Rattle.ct_model.specs.TableText.{constant}
use Rattle.ct_readback.specs.ItemAt.{RowValues, TableValues, HasValue, IsRowFor, IsTableFor}
use Rattle.ct_readback.specs.Printed.{GiveSame}
use Rattle.ct_readback.proofs.PrintedBodies.{printed_table}

pub alike : Alike
alike = record {
  itself = AgreeAlways-refl;
  turned = AgreeAlways-sym;
  chained = AgreeAlways-trans;
  always = AgreeAlways-parts;
  every_depth = every_depth;
}

module _ (g h : Nodes) (closed_g : IsClosed g) (closed_h : IsClosed h) where
  -- nodes of one value are the same
  one_value : (p : Point) (m n : NodeId) → HasValue g p m → HasValue h p n → AgreeAlways (node_point g m) (node_point h n)
  one_value p m n first second = AgreeAlways-trans (node_point g m) p (node_point h n) first (AgreeAlways-sym (node_point h n) p second)

  abbrev AreStored : List NodeId → List NodeId → Type 0
  AreStored ms ns = AllZip (λ m n. AgreeAlways (node_point g m) (node_point h n)) ms ns

  stored : (ps : List Point) (ms ns : List NodeId) → AllZip (HasValue g) ps ms → AllZip (HasValue h) ps ns → AreStored ms ns
  stored [] [] [] first second = tt
  stored [] [] (n ∷ ns) first second = absurd second
  stored [] (m ∷ ms) ns first second = absurd first
  stored (p ∷ ps) [] ns first second = absurd first
  stored (p ∷ ps) (m ∷ ms) [] first second = absurd second
  stored (p ∷ ps) (m ∷ ms) (n ∷ ns) first second = (one_value p m n first.0 second.0, stored ps ms ns first.1 second.1)

  args_alike : (ms ns : List NodeId) (vs ws : List Value) → AreStored ms ns → AllZip AgreeAlways (map (point g) vs) (map (point h) ws) → are_same g ms vs ≡ are_same h ns ws
  args_alike [] [] [] [] are given = refl
  args_alike [] [] [] (w ∷ ws) are given = absurd given
  args_alike [] [] (v ∷ vs) [] are given = absurd given
  args_alike [] [] (v ∷ vs) (w ∷ ws) are given = refl
  args_alike [] (n ∷ ns) vs ws are given = absurd are
  args_alike (m ∷ ms) [] vs ws are given = absurd are
  args_alike (m ∷ ms) (n ∷ ns) [] [] are given = refl
  args_alike (m ∷ ms) (n ∷ ns) [] (w ∷ ws) are given = absurd given
  args_alike (m ∷ ms) (n ∷ ns) (v ∷ vs) [] are given = absurd given
  args_alike (m ∷ ms) (n ∷ ns) (v ∷ vs) (w ∷ ws) are given =
      ap₂ (λ a b. a && b)
      (same_alike alike (node_point g m) (point g v) (node_point h n) (point h w) closed_g closed_g closed_h closed_h are.0 given.0)
      (args_alike ms ns vs ws are.1 given.1)

  -- what is found in both, or else stands for it
  abbrev AreFound : Option NodeId → Option NodeId → NodeId → NodeId → Type 0
  AreFound o p m n = AgreeAlways (node_point g (unwrap_or o m)) (node_point h (unwrap_or p n))

  both : (a b : Bool) (x y m n : NodeId) (o p : Option NodeId) → a ≡ b → AgreeAlways (node_point g x) (node_point h y) → AreFound o p m n
      → AreFound (if a then Some x else o) (if b then Some y else p) m n
  both true true x y m n o p e first rest = first
  both true false x y m n o p e first rest = absurd (true≢false e)
  both false true x y m n o p e first rest = absurd (true≢false (sym e))
  both false false x y m n o p e first rest = rest

  rows_alike : (values : List RowValues) (rows others : List Row) (vs ws : List Value) (m n : NodeId) → AllZip (IsRowFor g) values rows → AllZip (IsRowFor h) values others
      → AllZip AgreeAlways (map (point g) vs) (map (point h) ws) → AgreeAlways (node_point g m) (node_point h n) → AreFound (row_for g rows vs) (row_for h others ws) m n
  rows_alike [] [] [] vs ws m n first second given default = default
  rows_alike [] [] (y ∷ ys) vs ws m n first second given default = absurd second
  rows_alike [] (x ∷ xs) others vs ws m n first second given default = absurd first
  rows_alike (r ∷ rs) [] others vs ws m n first second given default = absurd first
  rows_alike (r ∷ rs) (x ∷ xs) [] vs ws m n first second given default = absurd second
  rows_alike (r ∷ rs) (x ∷ xs) (y ∷ ys) vs ws m n first second given default =
      both (are_same g x.args vs) (are_same h y.args ws) x.result y.result m n (row_for g xs vs) (row_for h ys ws)
      (args_alike x.args y.args vs ws (stored r.args x.args y.args first.0.args second.0.args) given)
      (one_value r.result x.result y.result first.0.result second.0.result)
      (rows_alike rs xs ys vs ws m n first.1 second.1 given default)

  -- tables of the same values
  pub tables_alike : (values : TableValues) (table other : Table) (vs ws : List Value) → IsTableFor g values table → IsTableFor h values other → AllZip AgreeAlways (map (point g) vs) (map (point h) ws)
      → AgreeAlways (node_point g (look_up g table vs)) (node_point h (look_up h other ws))
  tables_alike values table other vs ws first second given =
      rows_alike values.rows table.rows other.rows vs ws table.default other.default first.rows second.rows given (one_value values.default table.default other.default first.default second.default)

-- ---- without arguments a table gives one value, which is printed

no_args : (d : Declarations) (g : Nodes) (ms : List NodeId) → AllZip (HasNodeSort d g) ms [] → ms ≡ []
no_args d g [] fit = refl
no_args d g (m ∷ ms) fit = absurd fit

constant_given : (d : Declarations) (g : Nodes) (s : SortId) (rows : List Row) (default : NodeId) → ((i : ℕ) (row : Row) → slice_get rows i ≡ Some row → FitsRow d g [] s row)
    → unwrap_or (row_for g rows []) default ≡ constant rows default
constant_given d g s [] default fit = refl
constant_given d g s (row ∷ rows) default fit =
    ap (λ (ms : List NodeId). unwrap_or (if are_same g ms [] then Some row.result else row_for g rows []) default) (no_args d g row.args (fit 0 row refl).args_fit)

no_values : (vs : List Value) → length vs ≡ 0 → vs ≡ []
no_values [] e = refl
no_values (v ∷ vs) e = absurd (omega (arith, e))

-- the printed table gives what the table gives
pub printed_given : (d : Declarations) (g : Nodes) (args : List SortId) (s : SortId) (table : Table) (vs : List Value) → FitsTable d g args s table → length vs ≡ length args → look_up g (printed_table args table) vs ≡ look_up g table vs
printed_given d g [] s table vs fits long =
    let none_there = no_values vs long in
    sym (ap (look_up g table) none_there ∙ constant_given d g s table.rows table.default fits.rows_fit)
printed_given d g (a ∷ bs) s table vs fits long = refl

-- tables whose printed forms have the same values give the same
pub given_same : (d : Declarations) (g h : Nodes) (args : List SortId) (s : SortId) (values : TableValues) (table other : Table) → IsClosed g → IsClosed h → FitsTable d g args s table
    → IsTableFor g values (printed_table args table) → IsTableFor h values other → GiveSame g h (length args) table other
given_same d g h args s values table other closed_g closed_h fits first second vs ws long given =
    subst (λ (n : NodeId). AgreeAlways (node_point g n) (node_point h (look_up h other ws))) (printed_given d g args s table vs fits long)
    (tables_alike g h closed_g closed_h values (printed_table args table) other vs ws first second given)
