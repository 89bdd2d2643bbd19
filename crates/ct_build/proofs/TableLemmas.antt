-- Tables that get rows of terms.
use Rattle.std.proofs.Common.{◌≡◌, ℕ, ◌+◌, ◌<◌, List, [], ◌∷◌, ◌++◌, length, map, slice_get, Some, Result, Ok, Err, OnOk, sym, ◌∙◌, ap, subst, inl, inr, arith}
use Rattle.std.proofs.lemmas.Option.{none-some, same_Some, slice_get_within, slice_get-get_or}
use Rattle.ct_sorts.specs.declared.ids.FunId.{FunId}
use Rattle.ct_sorts.specs.declared.ids.SelId.{SelId}
use Rattle.ct_sorts.specs.declared.ids.SortId.{SortId}
use Rattle.ct_sorts.specs.Declarations.{Declarations, Constructor, Selector, Function}
use Rattle.ct_values.specs.declared.node.NodeId.{NodeId}
use Rattle.ct_values.specs.Graph.{Nodes}
use Rattle.ct_values.specs.Fitting.{HasNodeSort}
use Rattle.ct_terms.specs.declared.ids.TermId.{TermId}
use Rattle.ct_terms.specs.declared.term.Core.TheVariants.{Sel, Apply}
use Rattle.ct_terms.specs.Terms.{Terms, IsOfSort, Has, AreSorted}
use Rattle.ct_eval.specs.declared.interp.Row.{Row}
use Rattle.ct_eval.specs.declared.interp.Table.{Table}
use Rattle.ct_eval.specs.Interpretation.{FitsRow, FitsTable, HasFunctions, HasSelectors}
use Rattle.ct_build.specs.Nodes.{HaveSortedNodes}
use Rattle.ct_eval.specs.EvaluationStep.{node_under}
use Rattle.ct_build.specs.Tables.{with_row, AddsFirst}
use Rattle.ct_build.proofs.ListLemmas.{pushed_at, length-push, set_at, set_length, AllZip-map}

-- what follows from what holds on success
pub at_ok : {T E : Type 0} {P Q : Type 0} (r : Result T E) → OnOk r P → (P → Q) → OnOk r Q
at_ok (Ok x) p f = f p
at_ok (Err e) p f = tt

-- a selection is by a declared selector, and from a term of the table
pub selection_inside : (d : Declarations) (terms : Terms) → AreSorted d terms → (t of : TermId) (s : SelId) → Has terms (Sel s of) t.0 → s.0 < length d.sels
selection_inside d terms sorted t of s (r, stands) =
    let selects = sorted t.0 (Sel s of) r stands in
    slice_get_within d.sels s.0 selects.selector selects.declared

pub selection_within : (d : Declarations) (terms : Terms) → AreSorted d terms → (t of : TermId) (s : SelId) → Has terms (Sel s of) t.0 → of.0 < length terms
selection_within d terms sorted t of s (r, stands) =
    let selects = sorted t.0 (Sel s of) r stands in
    slice_get_within terms of.0 (selects.sorted.0, selects.ctor.sort) selects.sorted.1

module _ (d : Declarations) (g : Nodes) where
  -- a table that has one row more
  fits_more : (args : List SortId) (result : SortId) (table : Table) (row : Row) → FitsTable d g args result table → FitsRow d g args result row → FitsTable d g args result (with_row table row)
  fits_more args result table row fits fit = record {
    rows_fit = λ i other at. elim (pushed_at table.rows row other i at) [
      | inl h ↦ fits.rows_fit i other h
      | inr (e, same) ↦ subst (λ (x : Row). FitsRow d g args result x) (sym same) fit
    ];
    default_fits = fits.default_fits;
  }

  -- a table without rows
  fits_none : (args : List SortId) (result : SortId) (n : NodeId) → HasNodeSort d g n result → FitsTable d g args result (record { rows = []; default = n })
  fits_none args result n has = record { rows_fit = λ i row at. absurd (none-some _ at); default_fits = has }

  -- tables are as many as they were
  pub adds_length : (old new : List Table) (number : ℕ) (row : Row) → AddsFirst old new number row → length new ≡ length old
  adds_length old new number row adds = elim adds [
    | inl had ↦ ap length had.1
    | inr put ↦ ap length put.1.2 ∙ set_length old number (with_row put.1.0 row)
  ]

  pub functions_more : (old new : List Table) (f : ℕ) (row : Row) → HasFunctions d g old → AddsFirst old new f row → ((function : Function) → slice_get d.functions f ≡ Some function → FitsRow d g function.args function.result row) → HasFunctions d g new
  functions_more old new f row has adds fit = record {
    one_each = adds_length old new f row adds ∙ has.one_each;
    fit = λ h function table declared at. elim adds [
      | inl had ↦ has.fit h function table declared (ap (λ (l : List Table). slice_get l h) (sym had.1) ∙ at)
      | inr put ↦ let added = put.1 in elim (set_at old f h (with_row added.0 row) table (ap (λ (l : List Table). slice_get l h) (sym added.2) ∙ at)) [
        | inl (e, same) ↦
            let here : slice_get d.functions f ≡ Some function = ap (slice_get d.functions) (sym e) ∙ declared in
            subst (λ (x : Table). FitsTable d g function.args function.result x) same
            (fits_more function.args function.result added.0 row (has.fit f function added.0 here added.1) (fit function here))
        | inr (other, had) ↦ has.fit h function table declared had
      ]
    ];
  }

  pub selectors_more : (old new : List Table) (s : ℕ) (row : Row) → HasSelectors d g old → AddsFirst old new s row → ((selector : Selector) (ctor : Constructor) → slice_get d.sels s ≡ Some selector → slice_get d.ctors selector.ctor.0 ≡ Some ctor → FitsRow d g (ctor.sort ∷ []) selector.sort row) → HasSelectors d g new
  selectors_more old new s row has adds fit = record {
    one_each = adds_length old new s row adds ∙ has.one_each;
    fit = λ h selector ctor table declared built at. elim adds [
      | inl had ↦ has.fit h selector ctor table declared built (ap (λ (l : List Table). slice_get l h) (sym had.1) ∙ at)
      | inr put ↦ let added = put.1 in elim (set_at old s h (with_row added.0 row) table (ap (λ (l : List Table). slice_get l h) (sym added.2) ∙ at)) [
        | inl (e, same) ↦
            let here : slice_get d.sels s ≡ Some selector = ap (slice_get d.sels) (sym e) ∙ declared in
            subst (λ (x : Table). FitsTable d g (ctor.sort ∷ []) selector.sort x) same
            (fits_more (ctor.sort ∷ []) selector.sort added.0 row (has.fit s selector ctor added.0 here built added.1) (fit selector ctor here built))
        | inr (other, had) ↦ has.fit h selector ctor table declared built had
      ]
    ];
  }

  -- the row of an application
  pub application_fits : (terms : Terms) (nodes : List NodeId) → AreSorted d terms → HaveSortedNodes d terms g nodes → (t : TermId) (f : FunId) (args : List TermId) (s : SortId) (n : NodeId) → slice_get terms t.0 ≡ Some (Apply f args, s) → slice_get nodes t.0 ≡ Some n → (function : Function) → slice_get d.functions f.0 ≡ Some function → FitsRow d g function.args function.result (record { args = map (node_under nodes) args; result = n })
  application_fits terms nodes sorted have t f args s n stands at function declared =
      let applies = sorted t.0 (Apply f args) s stands in
      let same : applies.function ≡ function = same_Some _ _ (sym applies.declared ∙ declared) in
      subst (λ (k : Function). FitsRow d g k.args k.result (record { args = map (node_under nodes) args; result = n })) same (record {
        args_fit = AllZip-map (IsOfSort terms) (HasNodeSort d g) (node_under nodes) args applies.function.args (node_fits terms nodes have) applies.sorted;
        result_fits = subst (HasNodeSort d g n) applies.result (have.sorted t s n (Apply f args, stands) at);
      })
    where
      node_fits : (terms : Terms) (nodes : List NodeId) → HaveSortedNodes d terms g nodes → (a : TermId) (q : SortId) → IsOfSort terms a q → HasNodeSort d g (node_under nodes a) q
      node_fits terms nodes have a q has = have.sorted a q (node_under nodes a) has (slice_get-get_or nodes a.0 (record { 0 = 0 }) (omega (arith, have.long, slice_get_within terms a.0 (has.0, q) has.1)))

  -- the row of a selection
  pub selection_fits : (terms : Terms) (nodes : List NodeId) → AreSorted d terms → HaveSortedNodes d terms g nodes → (t of : TermId) (s : SelId) (r : SortId) (n m : NodeId) → slice_get terms t.0 ≡ Some (Sel s of, r) → slice_get nodes of.0 ≡ Some n → slice_get nodes t.0 ≡ Some m → (selector : Selector) (ctor : Constructor) → slice_get d.sels s.0 ≡ Some selector → slice_get d.ctors selector.ctor.0 ≡ Some ctor → FitsRow d g (ctor.sort ∷ []) selector.sort (record { args = n ∷ []; result = m })
  selection_fits terms nodes sorted have t of s r n m stands at_of at selector ctor declared built =
      let selects = sorted t.0 (Sel s of) r stands in
      let same : selects.selector ≡ selector = same_Some _ _ (sym selects.declared ∙ declared) in
      let same_ctor : selects.ctor ≡ ctor = same_Some _ _ (sym selects.constructor ∙ ap (λ (k : Selector). slice_get d.ctors k.ctor.0) same ∙ built) in
      record {
        args_fit = (subst (λ (k : Constructor). HasNodeSort d g n k.sort) same_ctor (have.sorted of selects.ctor.sort n selects.sorted at_of), tt);
        result_fits = subst (λ (k : Selector). HasNodeSort d g m k.sort) same (subst (HasNodeSort d g m) selects.result (have.sorted t r m (Sel s of, stands) at));
      }

  -- one more function's table, which has only a default value
  pub record HasFirstFunctions (count : ℕ) (tables : List Table) : Type 0 where
    pub long : length tables ≡ count
    pub fit : (f : ℕ) (function : Function) (table : Table) → slice_get d.functions f ≡ Some function → slice_get tables f ≡ Some table → FitsTable d g function.args function.result table

  pub first_function : (count : ℕ) (tables : List Table) (function : Function) (n : NodeId) → slice_get d.functions count ≡ Some function → HasNodeSort d g n function.result → HasFirstFunctions count tables → HasFirstFunctions (count + 1) (tables ++ (record { rows = []; default = n }) ∷ [])
  first_function count tables function n declared has old = record {
    long = length-push tables (record { rows = []; default = n }) ∙ ap (λ k. k + 1) old.long;
    fit = λ f other table declared_f at. elim (pushed_at tables (record { rows = []; default = n }) table f at) [
      | inl h ↦ old.fit f other table declared_f h
      | inr (e, same) ↦
          let here : f ≡ count = e ∙ old.long in
          let one : function ≡ other = same_Some _ _ (sym declared ∙ ap (slice_get d.functions) (sym here) ∙ declared_f) in
          subst (λ (x : Table). FitsTable d g other.args other.result x) (sym same) (fits_none other.args other.result n (subst (λ (k : Function). HasNodeSort d g n k.result) one has))
    ];
  }

  -- the same for selectors
  pub record HasFirstSelectors (count : ℕ) (tables : List Table) : Type 0 where
    pub long : length tables ≡ count
    pub fit : (s : ℕ) (selector : Selector) (ctor : Constructor) (table : Table) → slice_get d.sels s ≡ Some selector → slice_get d.ctors selector.ctor.0 ≡ Some ctor → slice_get tables s ≡ Some table → FitsTable d g (ctor.sort ∷ []) selector.sort table

  pub first_selector : (count : ℕ) (tables : List Table) (selector : Selector) (n : NodeId) → slice_get d.sels count ≡ Some selector → HasNodeSort d g n selector.sort → HasFirstSelectors count tables → HasFirstSelectors (count + 1) (tables ++ (record { rows = []; default = n }) ∷ [])
  first_selector count tables selector n declared has old = record {
    long = length-push tables (record { rows = []; default = n }) ∙ ap (λ k. k + 1) old.long;
    fit = λ s other ctor table declared_s built at. elim (pushed_at tables (record { rows = []; default = n }) table s at) [
      | inl h ↦ old.fit s other ctor table declared_s built h
      | inr (e, same) ↦
          let here : s ≡ count = e ∙ old.long in
          let one : selector ≡ other = same_Some _ _ (sym declared ∙ ap (slice_get d.sels) (sym here) ∙ declared_s) in
          subst (λ (x : Table). FitsTable d g (ctor.sort ∷ []) other.sort x) (sym same) (fits_none (ctor.sort ∷ []) other.sort n (subst (λ (k : Selector). HasNodeSort d g n k.sort) one has))
    ];
  }
