-- The rows of a body, one after the other, and its default.
use Rattle.std.proofs.Common.{◌≡◌, Bool, true, false, List, [], ◌∷◌, ◌++◌, length, None, Some, refl, sym, ap, subst, ◌∙◌, append_assoc, append-nil, true≢false}
use Rattle.std.specs.List.{AllZip, flat_map}
use Rattle.std.proofs.lemmas.Option.{none-some, same_Some}
use Rattle.ct_lemmas.proofs.Pairs.{AllZip-push, AllZip-at_right}
use Rattle.ct_lemmas.proofs.Contained.{Contains-none}
use Rattle.ct_sorts.specs.declared.ids.SortId.{SortId}
use Rattle.ct_sorts.specs.Declarations.{Declarations}
use Rattle.ct_sexpr.specs.Expression.{Expression}
use Rattle.ct_values.specs.declared.node.NodeId.{NodeId}
use Rattle.ct_values.specs.Graph.{Nodes, IsClosed}
use Rattle.ct_values.specs.Agreement.{Point}
use Rattle.ct_values.specs.Fitting.{HasNodeSort}
use Rattle.ct_eval.specs.declared.interp.Row.{Row}
use Rattle.ct_eval.specs.declared.interp.Table.{Table}
use Rattle.ct_readback.specs.declared.value.Said.TheVariants as said
use Rattle.ct_readback.specs.declared.item.Part.TheVariants as parts
use Rattle.ct_readback.specs.Rows.{body_row}
use Rattle.ct_readback.specs.ValueAt.{IsValueAt}
use Rattle.ct_readback.specs.ItemAt.{RowValues, values_in_row, values_in, HasCycle, HasValue, IsRowAt, IsBodyAt, SaysTable, IsRowFor}
use Rattle.ct_readback.specs.Said.{IsSaid, IsPart, IsRowOf, IsTableOf}
use Rattle.ct_readback.specs.BodySoFar.{IsBodySoFar}
use Rattle.ct_readback.proofs.PartLemmas.{cycle_left, cycle_right, cycle_one, acyclic_both, acyclic_one, rows_longer}

-- the values of one more row
rows_more : (rows : List RowValues) (row : RowValues) → flat_map values_in_row (rows ++ row ∷ []) ≡ flat_map values_in_row rows ++ values_in_row row
rows_more [] row = append-nil (values_in_row row)
rows_more (r ∷ rs) row = ap (λ (ps : List Point). values_in_row r ++ ps) (rows_more rs row) ∙ sym (append_assoc (values_in_row r) (flat_map values_in_row rs) (values_in_row row))

module _ (d : Declarations) (args : List SortId) (s : SortId) (body : Expression) where
  pub body_start : (g : Nodes) → IsBodySoFar d args s body g body false []
  body_start g = record {
    values = [];
    forward = λ later default h. h;
    backward = λ all default h. (all, h);
    cycle = λ e. absurd (true≢false (sym e));
    acyclic = λ e (p, inside, cycle). Contains-none p inside;
    rows_are = λ e. tt;
  }

  pub body_longer : (g more : Nodes) (left : Expression) (b : Bool) (rows : List Row) → IsClosed g → IsBodySoFar d args s body g left b rows → IsBodySoFar d args s body (g ++ more) left b rows
  body_longer g more left b rows closed h = record {
    values = h.values;
    forward = h.forward;
    backward = h.backward;
    cycle = h.cycle;
    acyclic = h.acyclic;
    rows_are = λ e. rows_longer d g more args s h.values rows closed (h.rows_are e);
  }

  -- what the body says after its first row
  first_row : (left test result rest : Expression) → body_row (length args) left ≡ Some (test, result, rest) → (later : List RowValues) (default : Point) → IsBodyAt d args s left later default
      → (row : RowValues) × (rows : List RowValues) × IsRowAt d args s test result row × IsBodyAt d args s rest rows default
  first_row left test result rest written [] default (never, value) = absurd (none-some (test, result, rest) (sym never ∙ written))
  first_row left test result rest written (row ∷ rows) default (after, has, says) =
      let same : (has.test, has.result, after) ≡ (test, result, rest) = same_Some (has.test, has.result, after) (test, result, rest) (sym has.written ∙ written) in (
        row,
        rows,
        subst (λ (p : Expression × Expression × Expression). IsRowAt d args s p.0 p.1 row) same has.said,
        subst (λ (p : Expression × Expression × Expression). IsBodyAt d args s p.2 rows default) same says,
      )

  -- the next row stops, is cyclic, or is one
  pub body_stop : (g h k : Nodes) (left test result rest : Expression) (b : Bool) (rows : List Row) → IsBodySoFar d args s body g left b rows → body_row (length args) left ≡ Some (test, result, rest)
      → IsPart d (IsRowAt d args s test result) values_in_row (IsRowOf d h args s) parts.Misfit → IsPart d (SaysTable d args s body) values_in (IsTableOf d k args s) parts.Misfit
  body_stop g h k left test result rest b rows so_far written none_said = λ values says.
      let later = so_far.backward values.rows values.default says in
      let first = first_row left test result rest written later.0 values.default later.1 in
      none_said first.0 first.2

  more_rows : (g : Nodes) (left test result rest : Expression) (b : Bool) (rows : List Row) → (so_far : IsBodySoFar d args s body g left b rows) → body_row (length args) left ≡ Some (test, result, rest)
      → (row : RowValues) → IsRowAt d args s test result row → (later : List RowValues) (default : Point) → IsBodyAt d args s rest later default → IsBodyAt d args s body ((so_far.values ++ row ∷ []) ++ later) default
  more_rows g left test result rest b rows so_far written row says later default h =
      subst (λ (all : List RowValues). IsBodyAt d args s body all default) (sym (append_assoc so_far.values (row ∷ []) later))
      (so_far.forward (row ∷ later) default (rest, record { test = test; result = result; written = written; said = says }, h))

  fewer_left : (g : Nodes) (left test result rest : Expression) (b : Bool) (rows : List Row) → (so_far : IsBodySoFar d args s body g left b rows) → body_row (length args) left ≡ Some (test, result, rest)
      → (all : List RowValues) (default : Point) → IsBodyAt d args s body all default → (later : List RowValues) × IsBodyAt d args s rest later default
  fewer_left g left test result rest b rows so_far written all default h =
      let later = so_far.backward all default h in
      let first = first_row left test result rest written later.0 default later.1 in
      (first.1, first.3)

  pub body_cycle : (g h k : Nodes) (left test result rest : Expression) (b : Bool) (rows : List Row) → IsBodySoFar d args s body g left b rows → body_row (length args) left ≡ Some (test, result, rest)
      → IsPart d (IsRowAt d args s test result) values_in_row (IsRowOf d h args s) parts.Cycle → IsBodySoFar d args s body k rest true rows
  body_cycle g h k left test result rest b rows so_far written (row, says, cycle) = record {
    values = so_far.values ++ row ∷ [];
    forward = more_rows g left test result rest b rows so_far written row says;
    backward = fewer_left g left test result rest b rows so_far written;
    cycle = λ e. subst (λ (ps : List Point). HasCycle d ps) (sym (rows_more so_far.values row)) (cycle_right d (flat_map values_in_row so_far.values) (values_in_row row) cycle);
    acyclic = λ e. absurd (true≢false e);
    rows_are = λ e. absurd (true≢false e);
  }

  pub body_more : (g : Nodes) (left test result rest : Expression) (b : Bool) (rows : List Row) (row : Row) → IsBodySoFar d args s body g left b rows → body_row (length args) left ≡ Some (test, result, rest)
      → IsPart d (IsRowAt d args s test result) values_in_row (IsRowOf d g args s) (parts.Fine row) → IsBodySoFar d args s body g rest b (rows ++ row ∷ [])
  body_more g left test result rest b rows row so_far written (values, says, never, is_row) = record {
    values = so_far.values ++ values ∷ [];
    forward = more_rows g left test result rest b rows so_far written values says;
    backward = fewer_left g left test result rest b rows so_far written;
    cycle = λ e. subst (λ (ps : List Point). HasCycle d ps) (sym (rows_more so_far.values values)) (cycle_left d (flat_map values_in_row so_far.values) (values_in_row values) (so_far.cycle e));
    acyclic = λ e held. acyclic_both d (flat_map values_in_row so_far.values) (values_in_row values) (so_far.acyclic e) never (subst (λ (ps : List Point). HasCycle d ps) (rows_more so_far.values values) held);
    rows_are = λ e. AllZip-push (IsRowOf d g args s) so_far.values rows values row (so_far.rows_are e) is_row;
  }

  -- no row is left
  whole : (g : Nodes) (left : Expression) (b : Bool) (rows : List Row) → (so_far : IsBodySoFar d args s body g left b rows) → body_row (length args) left ≡ None → (p : Point) → IsValueAt d s left p → IsBodyAt d args s body so_far.values p
  whole g left b rows so_far never p says = subst (λ (all : List RowValues). IsBodyAt d args s body all p) (append-nil so_far.values) (so_far.forward [] p (never, says))

  pub body_no_default : (g h k : Nodes) (left : Expression) (b : Bool) (rows : List Row) → IsBodySoFar d args s body g left b rows → body_row (length args) left ≡ None
      → IsSaid d h (IsValueAt d s left) s said.Nothing → IsPart d (SaysTable d args s body) values_in (IsTableOf d k args s) parts.Misfit
  body_no_default g h k left b rows so_far never none_said = λ values says. stop values.default (so_far.backward values.rows values.default says)
    where
      stop : (default : Point) → (later : List RowValues) × IsBodyAt d args s left later default → ⊥
      stop default ([], is) = none_said default is.1
      stop default (row ∷ rows, (rest, has, says)) = none-some (has.test, has.result, rest) (sym never ∙ has.written)

  pub body_cyclic_default : (g h k : Nodes) (left : Expression) (b : Bool) (rows : List Row) → IsBodySoFar d args s body g left b rows → body_row (length args) left ≡ None
      → IsSaid d h (IsValueAt d s left) s said.Cycle → IsPart d (SaysTable d args s body) values_in (IsTableOf d k args s) parts.Cycle
  body_cyclic_default g h k left b rows so_far never (p, says, cycle) =
      (record { rows = so_far.values; default = p }, whole g left b rows so_far never p says, cycle_right d (flat_map values_in_row so_far.values) (p ∷ []) (cycle_one d p cycle))

  pub body_cyclic : (g h k : Nodes) (left : Expression) (rows : List Row) (n : NodeId) → IsBodySoFar d args s body g left true rows → body_row (length args) left ≡ None
      → IsSaid d h (IsValueAt d s left) s (said.Value n) → IsPart d (SaysTable d args s body) values_in (IsTableOf d k args s) parts.Cycle
  body_cyclic g h k left rows n so_far never (p, says, own, node) =
      (record { rows = so_far.values; default = p }, whole g left true rows so_far never p says, cycle_left d (flat_map values_in_row so_far.values) (p ∷ []) (so_far.cycle refl))

  pub body_fine : (g : Nodes) (left : Expression) (rows : List Row) (n : NodeId) (table : Table) → table.rows ≡ rows → table.default ≡ n → IsBodySoFar d args s body g left false rows → body_row (length args) left ≡ None
      → IsSaid d g (IsValueAt d s left) s (said.Value n) → IsPart d (SaysTable d args s body) values_in (IsTableOf d g args s) (parts.Fine table)
  body_fine g left rows n table rows_same default_same so_far never (p, says, own, node) =
      let all : AllZip (IsRowOf d g args s) so_far.values table.rows = subst (λ (rs : List Row). AllZip (IsRowOf d g args s) so_far.values rs) (sym rows_same) (so_far.rows_are refl) in (
        record { rows = so_far.values; default = p },
        whole g left false rows so_far never p says,
        acyclic_both d (flat_map values_in_row so_far.values) (p ∷ []) (so_far.acyclic refl) (acyclic_one d p own),
        record {
          fits = record {
            rows_fit = λ i row at. (AllZip-at_right (IsRowOf d g args s) so_far.values table.rows i row all at).2.fits;
            default_fits = subst (λ (m : NodeId). HasNodeSort d g m s) (sym default_same) node.sorted;
          };
          values_are = record {
            rows = each so_far.values table.rows all;
            default = subst (λ (m : NodeId). HasValue g p m) (sym default_same) node.value;
          };
        },
      )
    where
      each : (vs : List RowValues) (rs : List Row) → AllZip (IsRowOf d g args s) vs rs → AllZip (IsRowFor g) vs rs
      each [] [] h = tt
      each [] (r ∷ rs) h = absurd h
      each (v ∷ vs) [] h = absurd h
      each (v ∷ vs) (r ∷ rs) h = (h.0.values_are, each vs rs h.1)
