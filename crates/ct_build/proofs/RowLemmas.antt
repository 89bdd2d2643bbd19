-- Rows of tables for applications and for wrong applications, one more.
use Rattle.std.proofs.Common.{◌≡◌, ℕ, ◌+◌, ◌<◌, ◌⊎◌, List, [], ◌∷◌, ◌++◌, length, map, slice_get, slice_set, Some, option_map, sym, ◌∙◌, ap, subst, refl, inl, inr, arith}
use Rattle.std.proofs.lemmas.Bool.{cases_eq, cases_order}
use Rattle.std.proofs.lemmas.Option.{none-some, same_Some, slice_get_within}
use Rattle.ct_lemmas.proofs.Lists.{slice_get-append_left, slice_get-last, slice_get-set_other, slice_get-set_same}
use Rattle.ct_sorts.specs.declared.ids.CtorId.{CtorId}
use Rattle.ct_sorts.specs.declared.ids.FunId.{FunId}
use Rattle.ct_sorts.specs.declared.ids.SelId.{SelId}
use Rattle.ct_sorts.specs.declared.ids.SortId.{SortId}
use Rattle.ct_sorts.specs.Declarations.{Selector}
use Rattle.ct_values.specs.declared.node.NodeId.{NodeId}
use Rattle.ct_terms.specs.declared.ids.TermId.{TermId}
use Rattle.ct_terms.specs.declared.term.Core.{Core}
use Rattle.ct_terms.specs.declared.term.Core.TheVariants.{Sel, Apply}
use Rattle.ct_terms.specs.Terms.{Terms, Has}
use Rattle.ct_congr.specs.State.{State}
use Rattle.ct_build.specs.ClassValues.{IsBuiltBy}
use Rattle.ct_eval.specs.declared.interp.Row.{Row}
use Rattle.ct_eval.specs.declared.interp.Table.{Table}
use Rattle.ct_eval.specs.EvaluationStep.{node_under}
use Rattle.ct_build.specs.Tables.{with_row, AddsFirst, HasRowFor, HaveOneRowEach, AreFunctionRows, IsWronglyApplied, AreSelectorRows}
use Rattle.ct_build.proofs.ListLemmas.{pushed_at, set_at}

less_or : (m n : ℕ) → m < n + 1 → (m ≡ n → ⊥) → m < n
less_or m n less apart = elim (cases_order m n) [
  | inl e ↦ absurd (apart e)
  | inr sides ↦ elim sides [ inl h ↦ h | inr h ↦ absurd (omega (arith, less, h)) ]
]

-- a row that was pushed is there
pub row_pushed : (old new : List Table) (number : ℕ) (table : Table) (row : Row) → slice_get old number ≡ Some table → new ≡ slice_set old number (with_row table row) → HasRowFor new number row.args
row_pushed old new number table row at is = record {
  table = with_row table row;
  index = length table.rows;
  row = row;
  at = ap (λ (l : List Table). slice_get l number) is ∙ slice_get-set_same old number (with_row table row) (slice_get_within old number table at);
  listed = slice_get-last table.rows row;
  args_are = refl;
}

-- rows stay
pub row_stays : (old new : List Table) (number : ℕ) (row : Row) → AddsFirst old new number row → (k : ℕ) (args : List NodeId) → HasRowFor old k args → HasRowFor new k args
row_stays old new number row adds k args has = elim adds [
  | inl (had, e) ↦ subst (λ (l : List Table). HasRowFor l k args) (sym e) has
  | inr (none, (table, at, is)) ↦ elim (cases_eq k number) [
    | inl e ↦
        let same : table ≡ has.table = same_Some table has.table (sym at ∙ ap (slice_get old) (sym e) ∙ has.at) in
        record {
          table = with_row table row;
          index = has.index;
          row = has.row;
          at = ap (λ (l : List Table). slice_get l k) is ∙ ap (slice_get (slice_set old number (with_row table row))) e ∙ slice_get-set_same old number (with_row table row) (slice_get_within old number table at);
          listed = slice_get-append_left table.rows (row ∷ []) has.index has.row (ap (λ (t : Table). slice_get t.rows has.index) same ∙ has.listed);
          args_are = has.args_are;
        }
    | inr other ↦ record {
      table = has.table;
      index = has.index;
      row = has.row;
      at = ap (λ (l : List Table). slice_get l k) is ∙ slice_get-set_other old number k (with_row table row) other ∙ has.at;
      listed = has.listed;
      args_are = has.args_are;
    }
  ]
]

-- a row is one that was there, or the new one
pub row_source : (old new : List Table) (number : ℕ) (row : Row) → AddsFirst old new number row → (k index : ℕ) (table : Table) (other : Row) → slice_get new k ≡ Some table → slice_get table.rows index ≡ Some other
    → ((before : Table) × (slice_get old k ≡ Some before) × (slice_get before.rows index ≡ Some other)) ⊎ ((k ≡ number) × (other ≡ row))
row_source old new number row adds k index table other at listed = elim adds [
  | inl (had, e) ↦ inl (table, ap (λ (l : List Table). slice_get l k) (sym e) ∙ at, listed)
  | inr (none, (before, at_before, is)) ↦ elim (set_at old number k (with_row before row) table (ap (λ (l : List Table). slice_get l k) (sym is) ∙ at)) [
    | inr (apart, had) ↦ inl (table, had, listed)
    | inl (e, same) ↦ elim (pushed_at before.rows row other index (ap (λ (t : Table). slice_get t.rows index) same ∙ listed)) [
      | inl h ↦ inl (before, ap (slice_get old) e ∙ at_before, h)
      | inr (end, is_new) ↦ inr (e, is_new)
    ]
  ]
]

-- there is a row for the arguments then
pub row_there : (old new : List Table) (number : ℕ) (row : Row) → AddsFirst old new number row → HasRowFor new number row.args
row_there old new number row adds = elim adds [
  | inl (had, e) ↦ subst (λ (l : List Table). HasRowFor l number row.args) (sym e) had
  | inr (none, (table, at, is)) ↦ row_pushed old new number table row at is
]

-- a table that has one row each still has
pub one_row_each : (old new : List Table) (number : ℕ) (row : Row) → AddsFirst old new number row → HaveOneRowEach old → HaveOneRowEach new
one_row_each old new number row adds once k i j table first second at at_i at_j same_args = elim adds [
  | inl (had, e) ↦ once k i j table first second (ap (λ (l : List Table). slice_get l k) (sym e) ∙ at) at_i at_j same_args
  | inr (none, (before, at_before, is)) ↦ elim (set_at old number k (with_row before row) table (ap (λ (l : List Table). slice_get l k) (sym is) ∙ at)) [
    | inr (apart, had) ↦ once k i j table first second had at_i at_j same_args
    | inl (e, same) ↦ elim (pushed_at before.rows row first i (ap (λ (t : Table). slice_get t.rows i) same ∙ at_i)) [
      | inl h ↦ elim (pushed_at before.rows row second j (ap (λ (t : Table). slice_get t.rows j) same ∙ at_j)) [
        | inl g ↦ once number i j before first second at_before h g same_args
        | inr (end, is_new) ↦ absurd (none (stood before i first at_before h (same_args ∙ ap (λ (r : Row). r.args) is_new)))
      ]
      | inr (end, is_new) ↦ elim (pushed_at before.rows row second j (ap (λ (t : Table). slice_get t.rows j) same ∙ at_j)) [
        | inl g ↦ absurd (none (stood before j second at_before g (sym same_args ∙ ap (λ (r : Row). r.args) is_new)))
        | inr (end_too, is_too) ↦ end ∙ sym end_too
      ]
    ]
  ]
]
  where
    stood : (before : Table) (index : ℕ) (other : Row) → slice_get old number ≡ Some before → slice_get before.rows index ≡ Some other → other.args ≡ row.args → HasRowFor old number row.args
    stood before index other at_before listed args_are = record { table = before; index = index; row = other; at = at_before; listed = listed; args_are = args_are }

-- tables without rows have one row each
one_row_none : (tables : List Table) → ((k : ℕ) (table : Table) → slice_get tables k ≡ Some table → table.rows ≡ []) → HaveOneRowEach tables
one_row_none tables empty k i j table first second at at_i at_j same_args =
    absurd (none-some first (ap (λ (l : List Row). slice_get l i) (sym (empty k table at)) ∙ at_i))

-- tables without rows, one more
pub empty_more : (tables : List Table) (new : Table) → new.rows ≡ [] → ((k : ℕ) (table : Table) → slice_get tables k ≡ Some table → table.rows ≡ []) → (k : ℕ) (table : Table) → slice_get (tables ++ new ∷ []) k ≡ Some table → table.rows ≡ []
empty_more tables new none before k table at = elim (pushed_at tables new table k at) [
  | inl h ↦ before k table h
  | inr (e, same) ↦ ap (λ (t : Table). t.rows) same ∙ none
]

one_core : (terms : Terms) (x y : Core) (t : ℕ) → Has terms x t → Has terms y t → x ≡ y
one_core terms x y t left right = ap (λ (e : Core × SortId). e.0) (same_Some (x, left.0) (y, right.0) (sym left.1 ∙ right.1))

-- ---- applications
module _ (terms : Terms) (nodes : List NodeId) where
  pub function_rows_none : (tables : List Table) → ((f : ℕ) (table : Table) → slice_get tables f ≡ Some table → table.rows ≡ []) → AreFunctionRows terms nodes 0 tables
  function_rows_none tables empty = record {
    only = λ f index table row at listed. absurd (none-some row (ap (λ (l : List Row). slice_get l index) (sym (empty f table at)) ∙ listed));
    each = λ t f args less stands. absurd (omega (arith, less));
    once = one_row_none tables empty;
  }

  -- a term that is no application
  pub function_rows_skip : (t : TermId) (core : Core) (tables : List Table) → Has terms core t.0 → ((f : FunId) (args : List TermId) → core ≡ Apply f args → ⊥) → AreFunctionRows terms nodes t.0 tables → AreFunctionRows terms nodes (t.0 + 1) tables
  function_rows_skip t core tables stands is_not old = record {
    only = old.only;
    each = λ u f args less has. elim (cases_eq u.0 t.0) [
      | inl e ↦ absurd (is_not f args (one_core terms core (Apply f args) t.0 stands (has.0, ap (slice_get terms) (sym e) ∙ has.1)))
      | inr apart ↦ old.each u f args (less_or u.0 t.0 less apart) has
    ];
    once = old.once;
  }

  -- one that is
  pub function_rows_more : (t : TermId) (f : FunId) (args : List TermId) (row : Row) (old new : List Table) → Has terms (Apply f args) t.0 → row.args ≡ map (node_under nodes) args → row.result ≡ node_under nodes t → AddsFirst old new f.0 row → AreFunctionRows terms nodes t.0 old → AreFunctionRows terms nodes (t.0 + 1) new
  function_rows_more t f args row old new stands args_are result_is adds before = record {
    only = λ g index table other at listed. elim (row_source old new f.0 row adds g index table other at listed) [
      | inl (table_before, at_before, h) ↦ before.only g index table_before other at_before h
      | inr (e, same) ↦ record {
        term = t;
        args = args;
        stands = subst (λ (n : ℕ). Has terms (Apply (record { 0 = n }) args) t.0) (sym e) stands;
        args_are = ap (λ (r : Row). r.args) same ∙ args_are;
        result_is = ap (λ (r : Row). r.result) same ∙ result_is;
      }
    ];
    each = λ u g xs less has. elim (cases_eq u.0 t.0) [
      | inl e ↦
          let same : Apply f args ≡ Apply g xs = one_core terms (Apply f args) (Apply g xs) t.0 stands (has.0, ap (slice_get terms) (sym e) ∙ has.1) in
          let one : f ≡ g = cc in
          let lists : args ≡ xs = cc in
          subst (λ (n : FunId). HasRowFor new n.0 (map (node_under nodes) xs)) one
          (subst (λ (ns : List NodeId). HasRowFor new f.0 ns) (args_are ∙ ap (map (node_under nodes)) lists) (row_there old new f.0 row adds))
      | inr apart ↦ row_stays old new f.0 row adds g.0 (map (node_under nodes) xs) (before.each u g xs (less_or u.0 t.0 less apart) has)
    ];
    once = one_row_each old new f.0 row adds before.once;
  }

-- ---- wrong applications
module _ (state : State) (nodes : List NodeId) where
  pub selector_rows_none : (tables : List Table) → ((s : ℕ) (table : Table) → slice_get tables s ≡ Some table → table.rows ≡ []) → AreSelectorRows state nodes 0 tables
  selector_rows_none tables empty = record {
    only = λ s index table row at listed. absurd (none-some row (ap (λ (l : List Row). slice_get l index) (sym (empty s table at)) ∙ listed));
    each = λ t s of selector less stands declared wrong. absurd (omega (arith, less));
    once = one_row_none tables empty;
  }

  -- a term that is no wrong application
  pub selector_rows_skip : (t : TermId) (core : Core) (tables : List Table) → Has state.terms core t.0 → ((s : SelId) (of : TermId) (selector : Selector) → core ≡ Sel s of → slice_get state.declarations.sels s.0 ≡ Some selector → IsWronglyApplied state selector of → ⊥) → AreSelectorRows state nodes t.0 tables → AreSelectorRows state nodes (t.0 + 1) tables
  selector_rows_skip t core tables stands is_not old = record {
    only = old.only;
    each = λ u s of selector less has declared wrong. elim (cases_eq u.0 t.0) [
      | inl e ↦ absurd (is_not s of selector (one_core state.terms core (Sel s of) t.0 stands (has.0, ap (slice_get state.terms) (sym e) ∙ has.1)) declared wrong)
      | inr apart ↦ old.each u s of selector (less_or u.0 t.0 less apart) has declared wrong
    ];
    once = old.once;
  }

  -- one that is
  pub selector_rows_more : (t : TermId) (s : SelId) (of : TermId) (selector : Selector) (row : Row) (old new : List Table) → Has state.terms (Sel s of) t.0 → slice_get state.declarations.sels s.0 ≡ Some selector → IsWronglyApplied state selector of → row.args ≡ node_under nodes of ∷ [] → row.result ≡ node_under nodes t → AddsFirst old new s.0 row → AreSelectorRows state nodes t.0 old → AreSelectorRows state nodes (t.0 + 1) new
  selector_rows_more t s of selector row old new stands declared wrong args_are result_is adds before = record {
    only = λ q index table other at listed. elim (row_source old new s.0 row adds q index table other at listed) [
      | inl (table_before, at_before, h) ↦ before.only q index table_before other at_before h
      | inr (e, same) ↦ record {
        term = t;
        of = of;
        selector = selector;
        stands = subst (λ (n : ℕ). Has state.terms (Sel (record { 0 = n }) of) t.0) (sym e) stands;
        declared = ap (slice_get state.declarations.sels) e ∙ declared;
        wrong = wrong;
        args_are = ap (λ (r : Row). r.args) same ∙ args_are;
        result_is = ap (λ (r : Row). r.result) same ∙ result_is;
      }
    ];
    each = λ u q x other less has declared_too wrong_too. elim (cases_eq u.0 t.0) [
      | inl e ↦
          let same : Sel s of ≡ Sel q x = one_core state.terms (Sel s of) (Sel q x) t.0 stands (has.0, ap (slice_get state.terms) (sym e) ∙ has.1) in
          let one : s ≡ q = cc in
          let args : of ≡ x = cc in
          subst (λ (n : SelId). HasRowFor new n.0 (node_under nodes x ∷ [])) one
          (subst (λ (ns : List NodeId). HasRowFor new s.0 ns) (args_are ∙ ap (λ (y : TermId). node_under nodes y ∷ []) args) (row_there old new s.0 row adds))
      | inr apart ↦ row_stays old new s.0 row adds q.0 (node_under nodes x ∷ []) (before.each u q x other (less_or u.0 t.0 less apart) has declared_too wrong_too)
    ];
    once = one_row_each old new s.0 row adds before.once;
  }

-- a selection of the selector's own constructor is no wrong application
pub right_selection : (state : State) (s q : SelId) (of other : TermId) (ctor : CtorId) (args : List TermId) (selector : Selector) → IsBuiltBy state of ctor args → option_map (λ (x : Selector). x.ctor) (slice_get state.declarations.sels s.0) ≡ Some ctor → Sel s of ≡ Sel q other → slice_get state.declarations.sels q.0 ≡ Some selector → IsWronglyApplied state selector other → ⊥
right_selection state s q of other ctor args selector built value same declared wrong =
    let one : s ≡ q = cc in
    let terms : of ≡ other = cc in
    let here : slice_get state.declarations.sels s.0 ≡ Some selector = ap (λ (x : SelId). slice_get state.declarations.sels x.0) one ∙ declared in
    let ctors : ctor ≡ selector.ctor = same_Some ctor selector.ctor (sym value ∙ ap (option_map (λ (x : Selector). x.ctor)) here) in
    wrong args (subst (λ (x : TermId). IsBuiltBy state x selector.ctor args) terms (subst (λ (c : CtorId). IsBuiltBy state of c args) ctors built))
