-- Interpretations of declarations that grew, or of which functions went.
use Rattle.std.proofs.Common.{◌≡◌, ℕ, ◌+◌, ◌<◌, ◌≤◌, List, [], ◌∷◌, ◌++◌, length, take, Some, option_map, slice_get, append_assoc, sym, ap, subst, ◌∙◌, inl, inr, arith}
use Rattle.std.proofs.lemmas.List.{append-nil, length-append, length-take, length-take-le, length_push, take_all}
use Rattle.std.proofs.lemmas.Option.{none-some, same_Some, slice_get_within}
use Rattle.ct_lemmas.proofs.Lists.{slice_get-append_left, slice_get-prefix, slice_get-push_cases}
use Rattle.ct_lemmas.proofs.Pairs.{AllZip-weaker}
use Rattle.ct_lemmas.proofs.Prefixes.{slice_get-take}
use Rattle.ct_sorts.specs.declared.ids.SelId.{SelId}
use Rattle.ct_sorts.specs.declared.ids.SortId.{SortId}
use Rattle.ct_sorts.specs.Declarations.{Declarations, Constructor, Selector, Function}
use Rattle.ct_sorts.specs.Consistent.{IsConsistent}
use Rattle.ct_sorts.specs.Grown.{Begins, Extends}
use Rattle.ct_sorts.specs.Structure.{AreOfTheirConstructors}
use Rattle.ct_values.specs.declared.node.NodeId.{NodeId}
use Rattle.ct_values.specs.declared.node.Node.{Node}
use Rattle.ct_values.specs.declared.node.Node.TheVariants.{Con, Elem}
use Rattle.ct_values.specs.Graph.{Nodes}
use Rattle.ct_values.specs.Fitting.{HasNodeSort, IsNodeOfField, FitsNode}
use Rattle.ct_values.specs.WellFormed.{IsWellFormedGraph}
use Rattle.ct_eval.specs.declared.interp.Table.{Table}
use Rattle.ct_eval.specs.declared.interp.Interp.{Interp}
use Rattle.ct_eval.specs.Interpretation.{FitsTable, HasFunctions, HasSelectors, IsProper}
use Rattle.ct_trial.specs.Growth.{constant, HaveNoRows, with_functions}
use Rattle.ct_trial.specs.Theorems.{GrowthTheorems}
use Rattle.ct_trial.specs.Trial.{IsCutTo, Follows}

-- a table fits where nodes keep their sorts
pub table_lasts : (d e : Declarations) (g : Nodes) → ((n : NodeId) (s : SortId) → HasNodeSort d g n s → HasNodeSort e g n s) → (args : List SortId) (res : SortId) (table : Table) → FitsTable d g args res table → FitsTable e g args res table
table_lasts d e g stay args res table fits = record {
  rows_fit = λ k row at.
      let had = fits.rows_fit k row at in
      record {
        args_fit = AllZip-weaker (HasNodeSort d g) (HasNodeSort e g) stay row.args args had.args_fit;
        result_fits = stay row.result res had.result_fits;
      };
  default_fits = stay table.default res fits.default_fits;
}

-- ---- more

-- a list that goes on from another one and is as long is that
pub same_where_as_long : {X : Type 0} (xs ys : List X) → Begins xs ys → length ys ≡ length xs → xs ≡ ys
same_where_as_long {X} xs ys begins long = by begins.0 begins.1
  where
    by : (more : List X) → ys ≡ xs ++ more → xs ≡ ys
    by [] e = sym (e ∙ append-nil xs)
    by (x ∷ more) e = let longer = ap (λ (l : List X). length l) e ∙ length-append xs (x ∷ more) in absurd (omega arith)

pub sorts_more : GrowthTheorems → (d e : Declarations) (g : Nodes) → Extends e d → (n : NodeId) (s : SortId) → HasNodeSort d g n s → HasNodeSort e g n s
sorts_more growth d e g extends n s = growth.lasting e d g n s extends

pub selectors_more : (growth : GrowthTheorems) (d e : Declarations) (i : Interp) → IsProper d i → (extends : Extends e d) → AreOfTheirConstructors d → d.sels ≡ e.sels → HasSelectors e i.graph i.offs
selectors_more growth d e i proper extends structure sels = record {
  one_each = proper.selectors.one_each ∙ ap (λ (l : List Selector). length l) sels;
  fit = λ s selector ctor table at of stands.
      let old : slice_get d.sels s ≡ Some selector = ap (λ (l : List Selector). slice_get l s) sels ∙ at in
      let own = structure s selector old in
      let stays : slice_get e.ctors selector.ctor.0 ≡ Some own.0 = subst (λ (l : List Constructor). slice_get l selector.ctor.0 ≡ Some own.0) (sym extends.ctors.1) (slice_get-append_left d.ctors extends.ctors.0 selector.ctor.0 own.0 own.1) in
      let is : own.0 ≡ ctor = same_Some own.0 ctor (sym stays ∙ of) in
      subst (λ (c : Constructor). FitsTable e i.graph (c.sort ∷ []) selector.sort table) is
      (table_lasts d e i.graph (sorts_more growth d e i.graph extends) (own.0.sort ∷ []) selector.sort table (proper.selectors.fit s selector own.0 table old own.1 stands));
}

-- the tables that there are fit the functions that there were
pub functions_more : (growth : GrowthTheorems) (d e : Declarations) (i : Interp) → IsProper d i → Extends e d → (f : ℕ) (function : Function) (table : Table) → slice_get e.functions f ≡ Some function → slice_get i.funs f ≡ Some table → FitsTable e i.graph function.args function.result table
functions_more growth d e i proper extends f function table at stands =
    let within : f < length d.functions = subst (λ (k : ℕ). f < k) proper.functions.one_each (slice_get_within i.funs f table stands) in
    let old : slice_get d.functions f ≡ Some function = sym (ap (λ (l : List Function). slice_get l f) extends.functions.1 ∙ slice_get-prefix d.functions extends.functions.0 f within) ∙ at in
    table_lasts d e i.graph (sorts_more growth d e i.graph extends) function.args function.result table (proper.functions.fit f function table old stands)

pub few_more : (d e : Declarations) (i : Interp) → IsProper d i → Extends e d → length i.funs ≤ length e.functions
few_more d e i proper extends =
    let one = proper.functions.one_each in
    let long = ap (λ (l : List Function). length l) extends.functions.1 ∙ length-append d.functions extends.functions.0 in
    omega arith

-- ---- fewer

-- declarations with the sorts, constructors and selectors of others are these with other lists beside
parts_same : (d e : Declarations) → IsCutTo d e → e ≡ record d { functions = e.functions; definitions = e.definitions; declared = e.declared; spellings = e.spellings; origins = e.origins }
parts_same d e cut = λ k. record e { sorts = cut.sorts k; ctors = cut.ctors k; sels = cut.sels k }

pub sorts_cut : (d e : Declarations) (g : Nodes) → IsCutTo d e → (n : NodeId) (s : SortId) → HasNodeSort d g n s → HasNodeSort e g n s
sorts_cut d e g cut n s has = subst (λ (x : Declarations). HasNodeSort x g n s) (sym (parts_same d e cut)) has

pub fewer_functions : (d e : Declarations) → IsCutTo d e → length e.functions ≤ length d.functions
fewer_functions d e cut =
    let long = ap (λ (l : List Function). length l) cut.functions ∙ length-take (length e.functions) d.functions in omega arith

functions_cut : (d e : Declarations) (i : Interp) → IsProper d i → IsCutTo d e → HasFunctions e i.graph (take (length e.functions) i.funs)
functions_cut d e i proper cut = record {
  one_each = length-take-le (length e.functions) i.funs (let one = proper.functions.one_each in let less = fewer_functions d e cut in omega arith);
  fit = λ f function table at stands.
      let old : slice_get d.functions f ≡ Some function = slice_get-take (length e.functions) d.functions f function (sym (ap (λ (l : List Function). slice_get l f) cut.functions) ∙ at) in
      table_lasts d e i.graph (sorts_cut d e i.graph cut) function.args function.result table (proper.functions.fit f function table old (slice_get-take (length e.functions) i.funs f table stands));
}

-- what is left of declarations, over the same sorts, constructors and selectors
abbrev left_of : Declarations → Declarations → Declarations
left_of d e = record d { functions = e.functions; definitions = e.definitions; declared = e.declared; spellings = e.spellings; origins = e.origins }

field_left : (d e : Declarations) (g : Nodes) (child : NodeId) (s : SelId) → IsNodeOfField d g child s → IsNodeOfField (left_of d e) g child s
field_left d e g child s had = record { selector = had.selector; declared = had.declared; sorted = had.sorted }

node_left : (d e : Declarations) (g : Nodes) (node : Node) → FitsNode d g node → FitsNode (left_of d e) g node
node_left d e g (Con c children) had = record {
  ctor = had.ctor;
  declared = had.declared;
  fields = AllZip-weaker (IsNodeOfField d g) (IsNodeOfField (left_of d e) g) (field_left d e g) children had.ctor.sels had.fields;
}
node_left d e g (Elem s n) had = record { sort = had.sort; declared = had.declared; free = had.free }

graph_left : (d e : Declarations) (g : Nodes) → IsWellFormedGraph d g → IsWellFormedGraph (left_of d e) g
graph_left d e g had = record { fits = λ n node at. node_left d e g node (had.fits n node at); finite = had.finite }

selectors_left : (d e : Declarations) (g : Nodes) (offs : List Table) → HasSelectors d g offs → HasSelectors (left_of d e) g offs
selectors_left d e g offs had = record {
  one_each = had.one_each;
  fit = λ s selector ctor table at of stands.
      table_lasts d (left_of d e) g (λ n sort has. has) (ctor.sort ∷ []) selector.sort table (had.fit s selector ctor table at of stands);
}

pub proper_cut : (d e : Declarations) (i : Interp) → IsProper d i → IsCutTo d e → IsProper e (with_functions i (take (length e.functions) i.funs))
proper_cut d e i proper cut = record {
  graph = subst (λ (x : Declarations). IsWellFormedGraph x i.graph) (sym (parts_same d e cut)) (graph_left d e i.graph proper.graph);
  functions = functions_cut d e i proper cut;
  selectors = subst (λ (x : Declarations). HasSelectors x i.graph i.offs) (sym (parts_same d e cut)) (selectors_left d e i.graph i.offs proper.selectors);
}

-- ---- more or fewer

-- what there is of an interpretation for the functions that are left
pub record IsFitting (e : Declarations) (i : Interp) (funs : List Table) : Type 0 where
  pub graph : IsWellFormedGraph e i.graph
  pub few : length funs ≤ length e.functions
  pub fit : (f : ℕ) (function : Function) (table : Table) → slice_get e.functions f ≡ Some function → slice_get funs f ≡ Some table → FitsTable e i.graph function.args function.result table
  pub selectors : HasSelectors e i.graph i.offs

pub fitting : GrowthTheorems → ((d : Declarations) → IsConsistent d → AreOfTheirConstructors d) → (d e : Declarations) (i : Interp) → IsProper d i → Follows d e → length e.sels ≡ length i.offs → IsFitting e i (take (length e.functions) i.funs)
fitting growth structure d e i proper (inl cut) many =
    let had = proper_cut d e i proper cut in
    record {
      graph = had.graph;
      few = let one = had.functions.one_each in omega arith;
      fit = had.functions.fit;
      selectors = had.selectors;
    }
fitting growth structure d e i proper (inr more) many =
    let extends = more.1 in
    let few = few_more d e i proper extends in
    let sels : d.sels ≡ e.sels = same_where_as_long d.sels e.sels extends.sels (many ∙ proper.selectors.one_each) in
    let all : take (length e.functions) i.funs ≡ i.funs = take_all (length e.functions) i.funs few in
    record {
      graph = growth.well_formed e d i.graph more.0 extends proper.graph;
      few = subst (λ (l : List Table). length l ≤ length e.functions) (sym all) few;
      fit = λ f function table at stands. functions_more growth d e i proper extends f function table at (sym (ap (λ (l : List Table). slice_get l f) all) ∙ stands);
      selectors = selectors_more growth d e i proper extends (structure d more.0) sels;
    }

-- ---- one table more

-- the tables fit the functions that there are, and go on from others by tables without rows
abbrev pub AreFurther : Declarations → Nodes → List Table → List Table → ℕ → Type 0
AreFurther e g start funs f =
    (length funs ≡ f)
    × ((k : ℕ) (function : Function) (table : Table) → slice_get e.functions k ≡ Some function → slice_get funs k ≡ Some table → FitsTable e g function.args function.result table)
    × ((added : List Table) × (funs ≡ start ++ added) × HaveNoRows added)

pub further_push : (e : Declarations) (g : Nodes) (start funs new : List Table) (f : ℕ) (default : NodeId) (sort : SortId) → new ≡ funs ++ constant default ∷ [] → option_map (λ (h : Function). h.result) (slice_get e.functions f) ≡ Some sort → HasNodeSort e g default sort → AreFurther e g start funs f → AreFurther e g start new (f + 1)
further_push e g start funs new f default sort is of has had =
    subst (λ (l : List Table). AreFurther e g start l (f + 1)) (sym is) (
      length_push funs (constant default) ∙ ap (λ (n : ℕ). n + 1) had.0,
      fit,
      (had.2.0 ++ constant default ∷ [], ap (λ (l : List Table). l ++ constant default ∷ []) had.2.1 ∙ append_assoc start had.2.0 (constant default ∷ []), none),
    )
  where
    fit : (k : ℕ) (function : Function) (table : Table) → slice_get e.functions k ≡ Some function → slice_get (funs ++ constant default ∷ []) k ≡ Some table → FitsTable e g function.args function.result table
    fit k function table at stands = elim (slice_get-push_cases funs (constant default) table k stands) [
      | inl old ↦ had.1 k function table at old
      | inr new_one ↦
          let here : slice_get e.functions f ≡ Some function = ap (slice_get e.functions) (sym (new_one.0 ∙ had.0)) ∙ at in
          let one : function.result ≡ sort = same_Some function.result sort (sym (ap (option_map (λ (h : Function). h.result)) here) ∙ of) in
          subst (FitsTable e g function.args function.result) new_one.1 (record {
            rows_fit = λ r row none. absurd (none-some row none);
            default_fits = subst (HasNodeSort e g default) (sym one) has;
          })
    ]

    none : HaveNoRows (had.2.0 ++ constant default ∷ [])
    none t table at = elim (slice_get-push_cases had.2.0 (constant default) table t at) [
      | inl old ↦ had.2.2 t table old
      | inr new_one ↦ ap (λ (x : Table). x.rows) (sym new_one.1)
    ]
