-- Nodes after those of an interpretation's graph change neither a look-up nor the value of a term.
use Rattle.std.proofs.Common.{◌≡◌, ℕ, zero, suc, ◌<◌, Bool, true, false, not, List, [], ◌∷◌, ◌++◌, length, map, Option, Some, None, unwrap_or, if◌then◌else◌, slice_get, refl, sym, ap, ap₂, subst, ◌∙◌, ◌&&◌, ◌||◌}
use Rattle.std.specs.List.{AllZip, AllByRecursion, list_all, list_any}
use Rattle.std.proofs.lemmas.List.Elements.{recursion_from_All}
use Rattle.std.proofs.lemmas.Option.{slice_get_within}
use Rattle.ct_lemmas.proofs.Lists.{slice_get-there}
use Rattle.ct_lemmas.proofs.Pairs.{AllZip-left_parts}
use Rattle.ct_sorts.specs.declared.ids.SelId.{SelId}
use Rattle.ct_sorts.specs.declared.ids.SortId.{SortId}
use Rattle.ct_sorts.specs.Declarations.{Declarations, Selector}
use Rattle.ct_sorts.specs.Structure.{AreOfTheirConstructors}
use Rattle.ct_values.specs.declared.node.NodeId.{NodeId}
use Rattle.ct_values.specs.Graph.{Nodes, IsClosed}
use Rattle.ct_values.specs.Value.{Value, reference, values_of, IsOver, AreOver}
use Rattle.ct_values.specs.Agreement.{point, node_point, head_of, children_of, AgreeAlways}
use Rattle.ct_values.specs.TruthValue.{truth, is_head, is_built, is_true}
use Rattle.ct_values.specs.Fitting.{HasNodeSort}
use Rattle.ct_terms.specs.declared.ids.TermId.{TermId}
use Rattle.ct_terms.specs.declared.term.Core.{Core}
use Rattle.ct_terms.specs.declared.term.Core.TheVariants.{Con, Sel, Test, Apply, Eq, Not, And, Or, Iff, Ite}
use Rattle.ct_terms.specs.Terms.{Terms}
use Rattle.ct_eval.specs.declared.interp.Row.{Row}
use Rattle.ct_eval.specs.declared.interp.Table.{Table}
use Rattle.ct_eval.specs.declared.interp.Interp.{Interp}
use Rattle.ct_eval.specs.Interpretation.{FitsRow, FitsTable, IsProper}
use Rattle.ct_eval.specs.LookUp.{are_same, row_for, look_up}
use Rattle.ct_eval.specs.Evaluation.{is_same, table_value, select, core_value, layer, value_below, value_of}
use Rattle.ct_eval.specs.Truth.{truth_value}
use Rattle.ct_eval.specs.Appended.{IsRowOver, IsTableOver, AreTablesOver, IsClosedInterp, with_nodes}
use Rattle.ct_eval.proofs.CongruenceLemmas.{Alike, rows_alike, look_up_across, same_alike}

-- what a graph that grows keeps
pub record Growth : Type 0 where
  pub head : (g more : Nodes) (v : Value) → IsOver g v → head_of (g ++ more) v ≡ head_of g v
  pub children : (g more : Nodes) (v : Value) → IsOver g v → children_of (g ++ more) v ≡ children_of g v
  pub children_over : (g : Nodes) (v : Value) → IsClosed g → IsOver g v → AllByRecursion (IsOver g) (children_of g v)
  pub same : (g more : Nodes) (v : Value) → IsClosed g → IsOver g v → AgreeAlways (point (g ++ more) v) (point g v)

-- ---- tables over the sorts of declarations are over the graph

sorted_within : (d : Declarations) (g : Nodes) (n : NodeId) (s : SortId) → HasNodeSort d g n s → n.0 < length g
sorted_within d g n s h = slice_get_within g n.0 h.0 h.1

row_over : (d : Declarations) (g : Nodes) (args : List SortId) (result : SortId) (row : Row) → FitsRow d g args result row → IsRowOver g row
row_over d g args result row fits = record {
  args = AllZip-left_parts (HasNodeSort d g) (λ n. n.0 < length g) (sorted_within d g) row.args args fits.args_fit;
  result = sorted_within d g row.result result fits.result_fits;
}

table_over : (d : Declarations) (g : Nodes) (args : List SortId) (result : SortId) (table : Table) → FitsTable d g args result table → IsTableOver g table
table_over d g args result table fits = record {
  rows = λ k row at. row_over d g args result row (fits.rows_fit k row at);
  default = sorted_within d g table.default result fits.default_fits;
}

pub proper_closed : (d : Declarations) (i : Interp) → AreOfTheirConstructors d → IsClosed i.graph → IsProper d i → IsClosedInterp i
proper_closed d i own closed proper = record {
  graph = closed;
  functions = λ t table at.
      let within = slice_get_within i.funs t table at in
      let function = slice_get-there d.functions t (subst (λ (k : ℕ). t < k) proper.functions.one_each within) in
      table_over d i.graph function.0.args function.0.result table (proper.functions.fit t function.0 table function.1 at);
  selectors = λ t table at.
      let within = slice_get_within i.offs t table at in
      let selector = slice_get-there d.sels t (subst (λ (k : ℕ). t < k) proper.selectors.one_each within) in
      let ctor = own t selector.0 selector.1 in
      table_over d i.graph (ctor.0.sort ∷ []) selector.0.sort table (proper.selectors.fit t selector.0 ctor.0 table selector.1 ctor.1 at);
}

-- what a table over a graph gives is a node of it
rows_within : (g : Nodes) (rows : List Row) (default : NodeId) (vs : List Value) → ((k : ℕ) (row : Row) → slice_get rows k ≡ Some row → IsRowOver g row) → default.0 < length g → (unwrap_or (row_for g rows vs) default).0 < length g
rows_within g [] default vs each last = last
rows_within g (row ∷ rows) default vs each last =
    by (are_same g row.args vs) (each 0 row refl).result (rows_within g rows default vs (λ k r at. each (suc k) r at) last)
  where
    by : (b : Bool) → row.result.0 < length g → (unwrap_or (row_for g rows vs) default).0 < length g → (unwrap_or (if b then Some row.result else row_for g rows vs) default).0 < length g
    by true here later = here
    by false here later = later

look_up_within : (g : Nodes) (table : Table) (vs : List Value) → IsTableOver g table → (look_up g table vs).0 < length g
look_up_within g table vs over = rows_within g table.rows table.default vs over.rows over.default

-- what stands at an index of values that are over the graph is, or else the value itself
position_over : (g : Nodes) (vs : List Value) (position : ℕ) (v : Value) → AllByRecursion (IsOver g) vs → IsOver g v → IsOver g (unwrap_or (slice_get vs position) v)
position_over g [] position v all over = over
position_over g (x ∷ vs) zero v all over = all.0
position_over g (x ∷ vs) (suc position) v all over = position_over g vs position v all.1 over

-- what is chosen in both cases is over the graph
choice_over : (g : Nodes) (b : Bool) (v w : Value) → IsOver g v → IsOver g w → IsOver g (if b then v else w)
choice_over g true v w left right = left
choice_over g false v w left right = right

-- values through a function that are all over the graph
pub args_over : (g : Nodes) (value : TermId → Value) → ((t : TermId) → IsOver g (value t)) → (ts : List TermId) → AllByRecursion (IsOver g) (map value ts)
args_over g value over [] = tt
args_over g value over (t ∷ ts) = (over t, args_over g value over ts)

under_over : (g : Nodes) (vs : List Value) → AllByRecursion (IsOver g) vs → AreOver g (values_of vs)
under_over g [] all = tt
under_over g (v ∷ vs) all = (all.0, under_over g vs all.1)

-- two tests that agree on all
every_alike : (f g : TermId → Bool) → ((t : TermId) → f t ≡ g t) → (ts : List TermId) → list_all f ts ≡ list_all g ts
every_alike f g same [] = refl
every_alike f g same (t ∷ ts) = ap₂ (λ a b. a && b) (same t) (every_alike f g same ts)

some_alike : (f g : TermId → Bool) → ((t : TermId) → f t ≡ g t) → (ts : List TermId) → list_any f ts ≡ list_any g ts
some_alike f g same [] = refl
some_alike f g same (t ∷ ts) = ap₂ (λ a b. a || b) (same t) (some_alike f g same ts)

module _ (theorems : Alike) (growth : Growth) where
  module _ (g more : Nodes) (closed : IsClosed g) (still : IsClosed (g ++ more)) where
    -- the nodes are the same in both graphs
    nodes_stored : (ns : List NodeId) → AllByRecursion (λ n. n.0 < length g) ns → AllByRecursion (λ n. AgreeAlways (node_point g n) (node_point (g ++ more) n)) ns
    nodes_stored [] within = tt
    nodes_stored (n ∷ ns) within =
        (theorems.turned (node_point (g ++ more) n) (node_point g n) (growth.same g more (reference n) closed within.0), nodes_stored ns within.1)

    rows_stored : (rows : List Row) → ((k : ℕ) (row : Row) → slice_get rows k ≡ Some row → IsRowOver g row) → AllByRecursion (λ row. AllByRecursion (λ n. AgreeAlways (node_point g n) (node_point (g ++ more) n)) row.args) rows
    rows_stored [] each = tt
    rows_stored (row ∷ rows) each =
        (nodes_stored row.args (recursion_from_All (λ n. n.0 < length g) row.args (each 0 row refl).args), rows_stored rows (λ k r at. each (suc k) r at))

    values_stored : (vs : List Value) → AllByRecursion (IsOver g) vs → AllZip AgreeAlways (map (point g) vs) (map (point (g ++ more)) vs)
    values_stored [] over = tt
    values_stored (v ∷ vs) over =
        (theorems.turned (point (g ++ more) v) (point g v) (growth.same g more v closed over.0), values_stored vs over.1)

    pub look_up_appended : (table : Table) (vs : List Value) → IsTableOver g table → AllByRecursion (IsOver g) vs → look_up (g ++ more) table vs ≡ look_up g table vs
    look_up_appended table vs stored over =
        sym (look_up_across theorems g (g ++ more) closed still table vs vs (rows_stored table.rows stored.rows) (values_stored vs over))

    pub row_for_appended : (table : Table) (vs : List Value) → IsTableOver g table → AllByRecursion (IsOver g) vs → row_for (g ++ more) table.rows vs ≡ row_for g table.rows vs
    row_for_appended table vs stored over =
        sym (rows_alike theorems g (g ++ more) closed still table.rows vs vs (rows_stored table.rows stored.rows) (values_stored vs over))

    built_appended : (c : _) (v : Value) → IsOver g v → is_built (g ++ more) c v ≡ is_built g c v
    built_appended c v over = ap (is_head c) (growth.head g more v over)

    same_appended : (v w : Value) → IsOver g v → IsOver g w → is_same (g ++ more) v w ≡ is_same g v w
    same_appended v w left right =
        same_alike theorems (point (g ++ more) v) (point (g ++ more) w) (point g v) (point g w) still still closed closed (growth.same g more v closed left) (growth.same g more w closed right)

  module _ (i : Interp) (more : Nodes) (over : IsClosedInterp i) (still : IsClosed (i.graph ++ more)) where
    abbrev longer : Interp
    longer = with_nodes i more

    -- the value is over the graph of the interpretation
    abbrev Within : Value → Type 0
    Within v = IsOver i.graph v

    given_appended : (tables : List Table) (k : ℕ) (vs : List Value) → AreTablesOver i.graph tables → AllByRecursion (IsOver i.graph) vs → (table_value longer (slice_get tables k) vs ≡ table_value i (slice_get tables k) vs) × Within (table_value i (slice_get tables k) vs)
    given_appended tables k vs stored within = by (slice_get tables k) refl
      where
        by : (o : Option Table) → slice_get tables k ≡ o → (table_value longer o vs ≡ table_value i o vs) × Within (table_value i o vs)
        by None e = (refl, tt)
        by (Some table) e =
            (ap reference (look_up_appended i.graph more over.graph still table vs (stored k table e) within), look_up_within i.graph table vs (stored k table e))

    select_appended : (s : SelId) (o : Option Selector) (v : Value) → Within v → (select longer s o v ≡ select i s o v) × Within (select i s o v)
    select_appended s None v within = (refl, within)
    select_appended s (Some selector) v within =
        let wrongly_applied = given_appended i.offs s.0 (v ∷ []) over.selectors (within, tt) in
        let child : List Value → Value = λ vs. unwrap_or (slice_get vs selector.place) v in
        let choice : Bool → Value → Value → Value = λ b x y. if b then x else y in
        let built : Bool = is_built i.graph selector.ctor v in (
          ap (λ (b : Bool). choice b (child (children_of (i.graph ++ more) v)) (table_value longer (slice_get i.offs s.0) (v ∷ []))) (built_appended i.graph more over.graph still selector.ctor v within)
              ∙ ap (λ (vs : List Value). choice built (child vs) (table_value longer (slice_get i.offs s.0) (v ∷ []))) (growth.children i.graph more v within)
              ∙ ap (choice built (child (children_of i.graph v))) wrongly_applied.0,
          choice_over i.graph built (child (children_of i.graph v)) (table_value i (slice_get i.offs s.0) (v ∷ []))
              (position_over i.graph (children_of i.graph v) selector.place v (growth.children_over i.graph v over.graph within) within) wrongly_applied.1,
        )

    true_appended : (v : Value) → Within v → is_true (i.graph ++ more) v ≡ is_true i.graph v
    true_appended v within = built_appended i.graph more over.graph still (record { 0 = 0 }) v within

    -- one layer of a term, over values over the graph
    core_appended : (d : Declarations) (value : TermId → Value) → ((t : TermId) → Within (value t)) → (core : Core) → (core_value d longer value core ≡ core_value d i value core) × Within (core_value d i value core)
    core_appended d value within (Con c args) = (refl, under_over i.graph (map value args) (args_over i.graph value within args))
    core_appended d value within (Sel s t) = select_appended s (slice_get d.sels s.0) (value t) (within t)
    core_appended d value within (Test c t) = (ap truth (built_appended i.graph more over.graph still c (value t) (within t)), tt)
    core_appended d value within (Apply f args) = given_appended i.funs f.0 (map value args) over.functions (args_over i.graph value within args)
    core_appended d value within (Eq a b) = (ap truth (same_appended i.graph more over.graph still (value a) (value b) (within a) (within b)), tt)
    core_appended d value within (Not t) = (ap (λ (b : Bool). truth (not b)) (true_appended (value t) (within t)), tt)
    core_appended d value within (And args) =
        (ap truth (every_alike (λ t. is_true (i.graph ++ more) (value t)) (λ t. is_true i.graph (value t)) (λ t. true_appended (value t) (within t)) args), tt)
    core_appended d value within (Or args) =
        (ap truth (some_alike (λ t. is_true (i.graph ++ more) (value t)) (λ t. is_true i.graph (value t)) (λ t. true_appended (value t) (within t)) args), tt)
    core_appended d value within (Iff a b) =
        (ap₂ (λ (p q : Bool). truth (if p then q else not q)) (true_appended (value a) (within a)) (true_appended (value b) (within b)), tt)
    core_appended d value within (Ite c a b) = (
      ap (λ (p : Bool). if p then value a else value b) (true_appended (value c) (within c)),
      choice_over i.graph (is_true i.graph (value c)) (value a) (value b) (within a) (within b),
    )

    layer_appended : (d : Declarations) (value : TermId → Value) → ((t : TermId) → Within (value t)) → (o : Option (Core × SortId)) → (layer d longer value o ≡ layer d i value o) × Within (layer d i value o)
    layer_appended d value within None = (refl, tt)
    layer_appended d value within (Some (core, s)) = core_appended d value within core

    below_appended : (d : Declarations) (terms : Terms) (n : ℕ) (t : TermId) → (value_below n d longer terms t ≡ value_below n d i terms t) × Within (value_below n d i terms t)
    unfolding value_below
    below_appended d terms zero t = (refl, tt)
    below_appended d terms (suc n) t =
        let values : value_below n d longer terms ≡ value_below n d i terms = λ j u. (below_appended d terms n u).0 j in
        let one = layer_appended d (value_below n d i terms) (λ u. (below_appended d terms n u).1) (slice_get terms t.0) in
        (ap (λ (f : TermId → Value). layer d longer f (slice_get terms t.0)) values ∙ one.0, one.1)

    pub value_appended : (d : Declarations) (terms : Terms) (t : TermId) → value_of d longer terms t ≡ value_of d i terms t
    value_appended d terms t = (below_appended d terms (suc t.0) t).0

    pub value_within : (d : Declarations) (terms : Terms) (t : TermId) → Within (value_of d i terms t)
    value_within d terms t = (below_appended d terms (suc t.0) t).1

    pub truth_appended : (d : Declarations) (terms : Terms) (t : TermId) → truth_value d longer terms t ≡ truth_value d i terms t
    truth_appended d terms t =
        ap (is_true (i.graph ++ more)) (value_appended d terms t) ∙ true_appended (value_of d i terms t) (value_within d terms t)
