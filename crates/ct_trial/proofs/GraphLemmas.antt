-- Nodes after those of the graph of an interpretation.
use Rattle.std.proofs.Common.{◌≡◌, ℕ, ◌<◌, List, [], ◌∷◌, ◌++◌, length, map, Option, Some, None, slice_get, refl, sym, ap, subst, ◌∙◌, inl, inr, arith}
use Rattle.std.proofs.lemmas.List.{append-nil, length_push}
use Rattle.std.proofs.lemmas.List.Elements.{All-contains}
use Rattle.std.proofs.lemmas.Option.{same_Some, slice_get_within}
use Rattle.ct_lemmas.proofs.Each.{All-at}
use Rattle.ct_lemmas.proofs.Lists.{slice_get-prefix, slice_get-last, slice_get-push_cases}
use Rattle.ct_lemmas.proofs.Numbers.{below_or_not}
use Rattle.ct_lemmas.proofs.Pairs.{AllZip-weaker}
use Rattle.indexmap.specs.IndexMap.{IndexMap}
use Rattle.ct_sorts.specs.declared.ids.SortId.{SortId}
use Rattle.ct_sorts.specs.Declarations.{Declarations}
use Rattle.ct_values.specs.declared.node.NodeId.{NodeId}
use Rattle.ct_values.specs.declared.node.Node.{Node}
use Rattle.ct_values.specs.Graph.{Nodes, IsClosed, HasChildrenBelow, node_children}
use Rattle.ct_values.specs.Value.{Value, IsOver}
use Rattle.ct_values.specs.Agreement.{point, AgreeAlways}
use Rattle.ct_values.specs.Fitting.{HasNodeSort, FitsGraph}
use Rattle.ct_values.specs.WellFormed.{IsData, AreFinite, IsWellFormedGraph}
use Rattle.ct_values.specs.Sharing.{IsRepresentative}
use Rattle.ct_terms.specs.declared.ids.TermId.{TermId}
use Rattle.ct_terms.specs.declared.term.Core.{Core}
use Rattle.ct_terms.specs.Terms.{Terms, Has, IsOfSort}
use Rattle.ct_eval.specs.declared.interp.Table.{Table}
use Rattle.ct_eval.specs.declared.interp.Interp.{Interp}
use Rattle.ct_eval.specs.declared.index.RowKey.{RowKey}
use Rattle.ct_eval.specs.Index.{AreIndexed}
use Rattle.ct_eval.specs.Interpretation.{FitsTable, HasSelectors, IsProper}
use Rattle.ct_eval.specs.Evaluation.{core_value, value_of}
use Rattle.ct_eval.specs.Appended.{IsClosedInterp, with_nodes}
use Rattle.ct_eval.specs.EvaluationStep.{Theorems, HasValue, AreValued, IsGrown}
use Rattle.ct_eval.proofs.AppendedLemmas as appended_lemmas
use Rattle.ct_eval.proofs.CongruenceLemmas.{Alike}
use Rattle.ct_eval.proofs.EvaluationLemmas.{value_of-unfolds}
use Rattle.ct_eval.proofs.StepNodes.{HasNodeSort-longer, IsLonger-further}
use Rattle.ct_trial.specs.Growth.{IsAppended, HasRow, AreRowed}
use Rattle.ct_trial.specs.Theorems.{GrowthTheorems}
use Rattle.ct_trial.specs.Trial.{IsTried}

-- the theorems as those lemmas want them
alike : Theorems → Alike
alike t = record { itself = t.itself; turned = t.turned; chained = t.chained; always = t.always; every_depth = t.every_depth }

growth : GrowthTheorems → appended_lemmas.Growth
growth t = record { head = t.head; children = t.children; children_over = t.children_over; same = t.same }

module _ (d : Declarations) (g h : Nodes) (after : IsAppended g h) where
  -- what stood in the graph stands there
  before_is : (n : ℕ) → n < length g → slice_get h n ≡ slice_get g n
  before_is n within = ap (λ (l : Nodes). slice_get l n) after.longer.1 ∙ slice_get-prefix g after.longer.0 n within

  sort_before : (n : NodeId) (s : SortId) → n.0 < length g → HasNodeSort d h n s → HasNodeSort d g n s
  sort_before n s within has = (has.0, sym (before_is n.0 within) ∙ has.1, has.2)

  data_before : (n : NodeId) → n.0 < length g → IsData d h n → IsData d g n
  data_before n within was = (was.0, was.1, sort_before n was.0 within was.2, was.3, was.4)

  -- values of datatypes stay finite
  finite_after : IsClosed g → AreFinite d g → AreFinite d h
  finite_after closed finite n child node at contains datatype child_datatype = elim (below_or_not n.0 (length g)) [
    | inl within ↦
        let old : slice_get g n.0 ≡ Some node = sym (before_is n.0 within) ∙ at in
        let below : child.0 < length g = All-contains (λ (c : NodeId). c.0 < length g) (node_children node) child (All-at (HasChildrenBelow (length g)) g n.0 node closed old) contains in
        finite n child node old contains (data_before n within datatype) (data_before child below child_datatype)
    | inr past ↦ All-contains (λ (c : NodeId). c.0 < n.0) (node_children node) child (after.before n.0 node past at) contains
  ]

  pub well_formed_after : IsClosed g → IsWellFormedGraph d g → FitsGraph d h → IsWellFormedGraph d h
  well_formed_after closed formed fits = record { fits = fits; finite = finite_after closed formed.finite }

  -- nodes keep their sorts, and tables fit
  sort_after : (n : NodeId) (s : SortId) → HasNodeSort d g n s → HasNodeSort d h n s
  sort_after n s = HasNodeSort-longer d g h n s after.longer

  pub table_after : (args : List SortId) (res : SortId) (table : Table) → FitsTable d g args res table → FitsTable d h args res table
  table_after args res table fits = record {
    rows_fit = λ k row at.
        let had = fits.rows_fit k row at in
        record {
          args_fit = AllZip-weaker (HasNodeSort d g) (HasNodeSort d h) sort_after row.args args had.args_fit;
          result_fits = sort_after row.result res had.result_fits;
        };
    default_fits = sort_after table.default res fits.default_fits;
  }

  pub selectors_after : (offs : List Table) → HasSelectors d g offs → HasSelectors d h offs
  selectors_after offs had = record {
    one_each = had.one_each;
    fit = λ s selector ctor table at of stands. table_after (ctor.sort ∷ []) selector.sort table (had.fit s selector ctor table at of stands);
  }

  pub proper_after : (i : Interp) → i.graph ≡ g → IsClosed g → FitsGraph d h → IsProper d i → IsProper d (record i { graph = h })
  proper_after i same closed fits proper = record {
    graph = well_formed_after closed (subst (IsWellFormedGraph d) same proper.graph) fits;
    functions = record {
      one_each = proper.functions.one_each;
      fit = λ f function table at stands.
          table_after function.args function.result table (subst (λ (k : Nodes). FitsTable d k function.args function.result table) same (proper.functions.fit f function table at stands));
    };
    selectors = record {
      one_each = proper.selectors.one_each;
      fit = λ s selector ctor table at of stands.
          table_after (ctor.sort ∷ []) selector.sort table (subst (λ (k : Nodes). FitsTable d k (ctor.sort ∷ []) selector.sort table) same (proper.selectors.fit s selector ctor table at of stands));
    };
  }

-- the map keeps its rows
pub indexed_after : {S : Type 0} (g h : Nodes) (tables : List Table) (index : IndexMap RowKey NodeId S) → IsAppended g h → AreIndexed g tables index → AreIndexed h tables index
indexed_after g h tables index after had = record {
  rows = λ t table at longer closed l. had.rows t table at longer closed (IsLonger-further g h longer after.longer l);
  only = had.only;
}

module _ (steps : Theorems) (theorems : GrowthTheorems) (d : Declarations) (i : Interp) (more : Nodes) (over : IsClosedInterp i) (still : IsClosed (i.graph ++ more)) (terms : Terms) where
  abbrev longer : Interp
  longer = with_nodes i more

  value_after : (t : TermId) → value_of d longer terms t ≡ value_of d i terms t
  value_after t = appended_lemmas.value_appended (alike steps) (growth theorems) i more over still d terms t

  over_before : (t : TermId) → IsOver i.graph (value_of d i terms t)
  over_before t = appended_lemmas.value_within (alike steps) (growth theorems) i more over still d terms t

  -- a representative of a value stays that
  has_value_after : (t : TermId) (s : SortId) (n : NodeId) → HasValue d i i.graph (value_of d i terms t) s n → HasValue d longer longer.graph (value_of d longer terms t) s n
  has_value_after t s n had =
      let g = i.graph in
      let v = value_of d i terms t in
      record {
        first =
            subst (λ (w : Value). IsRepresentative (g ++ more) (point (g ++ more) w) n) (sym (value_after t))
            (steps.same_first (g ++ more) (point g v) (point (g ++ more) v) n (steps.turned (point (g ++ more) v) (point g v) (theorems.same g more v over.graph (over_before t)))
            (steps.lasting g more (point g v) n over.graph had.first));
        sorted = HasNodeSort-longer d g (g ++ more) n s (more, refl) had.sorted;
      }

  valued_after : (nodes : List NodeId) → AreValued d i terms i.graph nodes (value_of d i terms) → AreValued d longer terms longer.graph nodes (value_of d longer terms)
  valued_after nodes valued t s n sorted at = has_value_after t s n (valued t s n sorted at)

  -- and rows that there are stay rows
  row_after : (k : ℕ) (args : List TermId) → HasRow i.graph (slice_get i.funs k) (map (value_of d i terms) args) → HasRow longer.graph (slice_get i.funs k) (map (value_of d longer terms) args)
  row_after k args has =
      let values : value_of d longer terms ≡ value_of d i terms = λ j t. value_after t j in
      subst (λ (f : TermId → Value). HasRow longer.graph (slice_get i.funs k) (map f args)) (sym values) (by (slice_get i.funs k) refl has)
    where
      by : (o : Option Table) → slice_get i.funs k ≡ o → HasRow i.graph o (map (value_of d i terms) args) → HasRow (i.graph ++ more) o (map (value_of d i terms) args)
      by None e had = had
      by (Some table) e had =
          (had.0, appended_lemmas.row_for_appended (alike steps) (growth theorems) i.graph more over.graph still table (map (value_of d i terms) args) (over.functions k table e) (appended_lemmas.args_over i.graph (value_of d i terms) over_before args) ∙ had.1)

  rowed_after : (count : ℕ) → AreRowed d i terms count → AreRowed d longer terms count
  rowed_after count rowed t f args sort within at = row_after f.0 args (rowed t f args sort within at)

-- what was tried stays so in a longer graph, and so do the values and rows of terms
module _ {S : Type 0} (steps : Theorems) (theorems : GrowthTheorems) (d : Declarations) (terms : Terms) (i : Interp) (funs : IndexMap RowKey NodeId S) (nodes : List NodeId) (tried : IsTried d terms i funs nodes) where
  over_it : IsClosedInterp i
  over_it = theorems.over d i tried.consistent tried.proper

  at_more : (more : Nodes) → IsAppended i.graph (i.graph ++ more) → FitsGraph d (i.graph ++ more) → IsTried d terms (with_nodes i more) funs nodes
  at_more more after fits =
      let still = theorems.closed d (i.graph ++ more) fits in
      record {
        consistent = tried.consistent;
        ordered = tried.ordered;
        proper = proper_after d i.graph (i.graph ++ more) after i refl over_it.graph fits tried.proper;
        functions = indexed_after i.graph (i.graph ++ more) i.funs funs after tried.functions;
        few = tried.few;
        valued = valued_after steps theorems d i more over_it still terms nodes tried.valued;
        rowed = rowed_after steps theorems d i more over_it still terms (length nodes) tried.rowed;
      }

  pub tried_after : (g : Nodes) → IsAppended i.graph g → FitsGraph d g → IsTried d terms (record i { graph = g }) funs nodes
  tried_after g after fits =
      let e = after.longer.1 in
      subst (λ (h : Nodes). IsTried d terms (record i { graph = h }) funs nodes) (sym e)
      (at_more after.longer.0 (subst (IsAppended i.graph) e after) (subst (FitsGraph d) e fits))

  pub row_stays_after : (g : Nodes) → IsAppended i.graph g → FitsGraph d g → (k : ℕ) (args : List TermId) → HasRow i.graph (slice_get i.funs k) (map (value_of d i terms) args) → HasRow g (slice_get i.funs k) (map (value_of d (record i { graph = g }) terms) args)
  row_stays_after g after fits k args has =
      let e = after.longer.1 in
      subst (λ (h : Nodes). HasRow h (slice_get i.funs k) (map (value_of d (record i { graph = h }) terms) args)) (sym e)
      (row_after steps theorems d i after.longer.0 over_it (theorems.closed d (i.graph ++ after.longer.0) (subst (FitsGraph d) e fits)) terms k args has)

  pub value_stays_after : (g : Nodes) → IsAppended i.graph g → FitsGraph d g → (t : TermId) → value_of d (record i { graph = g }) terms t ≡ value_of d i terms t
  value_stays_after g after fits t =
      let e = after.longer.1 in
      subst (λ (h : Nodes). value_of d (record i { graph = h }) terms t ≡ value_of d i terms t) (sym e)
      (value_after steps theorems d i after.longer.0 over_it (theorems.closed d (i.graph ++ after.longer.0) (subst (FitsGraph d) e fits)) terms t)

  -- a node that represents one layer over the values represents the term's value
  node_after : (g : Nodes) (after : IsAppended i.graph g) → FitsGraph d g → (u : TermId) (core : Core) (sort : SortId) (n : NodeId) → slice_get terms u.0 ≡ Some (core, sort) → HasValue d i g (core_value d i (value_of d i terms) core) sort n → HasValue d (record i { graph = g }) g (value_of d (record i { graph = g }) terms u) sort n
  node_after g after fits u core sort n at had =
      let more = after.longer.0 in
      let v = value_of d i terms u in
      let still : IsClosed (i.graph ++ more) = theorems.closed d (i.graph ++ more) (subst (FitsGraph d) after.longer.1 fits) in
      let unfolded : HasValue d i g v sort n = subst (λ (w : Value). HasValue d i g w sort n) (sym (value_of-unfolds d i terms u core sort tried.ordered at)) had in
      let both : AgreeAlways (point i.graph v) (point g v) =
      subst (λ (h : Nodes). AgreeAlways (point i.graph v) (point h v)) (sym after.longer.1)
      (steps.turned (point (i.graph ++ more) v) (point i.graph v) (theorems.same i.graph more v over_it.graph (over_before steps theorems d i more over_it still terms u))) in
      record {
        first = subst (λ (w : Value). IsRepresentative g (point g w) n) (sym (value_stays_after g after fits u)) (steps.same_first g (point i.graph v) (point g v) n both unfolded.first);
        sorted = unfolded.sorted;
      }

  pub node_of : (g : Nodes) (after : IsAppended i.graph g) → FitsGraph d g → (u : TermId) (core : Core) (has : Has terms core u.0) (n : NodeId) → HasValue d i g (core_value d i (value_of d i terms) core) has.0 n → (s : SortId) → IsOfSort terms u s → HasValue d (record i { graph = g }) g (value_of d (record i { graph = g }) terms u) s n
  node_of g after fits u core has n had s of =
      let is : has.0 ≡ s = ap (λ (p : Core × SortId). p.1) (same_Some (core, has.0) (of.0, s) (sym has.1 ∙ of.1)) in
      subst (λ (x : SortId). HasValue d (record i { graph = g }) g (value_of d (record i { graph = g }) terms u) x n) is (node_after g after fits u core has.0 n has.1 had)

-- ---- one node more

-- a graph goes on from itself
pub appended_none : (g : Nodes) → IsAppended g g
appended_none g = record {
  longer = ([], sym (append-nil g));
  before = λ n node past at. let within = slice_get_within g n node at in absurd (omega arith);
}

pub appended_one : (g : Nodes) (node : Node) → HasChildrenBelow (length g) node → IsAppended g (g ++ node ∷ [])
appended_one g node below = record {
  longer = (node ∷ [], refl);
  before = λ n other past at.
      elim (slice_get-push_cases g node other n at) [
        | inl old ↦ let within = slice_get_within g n other old in absurd (omega arith)
        | inr new ↦ subst (λ (x : Node). HasChildrenBelow n x) new.1 (subst (λ (k : ℕ). HasChildrenBelow k node) (sym new.0) below)
      ];
}

pub appended_further : (g h k : Nodes) → IsAppended g h → IsAppended h k → IsAppended g k
appended_further g h k first second = record {
  longer = IsLonger-further g h k first.longer second.longer;
  before = λ n node past at.
      elim (below_or_not n (length h)) [
        | inl within ↦ first.before n node past (sym (ap (λ (l : Nodes). slice_get l n) second.longer.1 ∙ slice_get-prefix h second.longer.0 n within) ∙ at)
        | inr later ↦ second.before n node later at
      ];
}

-- a graph to which a node was added at most, and which is not longer, is the same
pub caught_none : (g h : Nodes) (n : NodeId) → IsGrown g h n → length g ≡ length h → g ≡ h
caught_none g h n (inl same) long = sym same
caught_none g h n (inr more) long = let longer = ap (λ (l : Nodes). length l) more.1 ∙ length_push g more.0 in absurd (omega arith)

-- it is the graph with the node that stands at its end
pub caught_one : (g h : Nodes) (n : NodeId) (node : Node) → IsGrown g h n → slice_get h (length g) ≡ Some node → g ++ node ∷ [] ≡ h
caught_one g h n node (inl same) at =
    let within = slice_get_within g (length g) node (ap (λ (l : Nodes). slice_get l (length g)) (sym same) ∙ at) in
    absurd (omega arith)
caught_one g h n node (inr more) at =
    let is : more.0 ≡ node = same_Some more.0 node (sym (slice_get-last g more.0) ∙ ap (λ (l : Nodes). slice_get l (length g)) (sym more.1) ∙ at) in
    ap (λ (x : Node). g ++ x ∷ []) (sym is) ∙ sym more.1

-- and the end is in it unless both are as long
pub caught_within : (g h : Nodes) (n : NodeId) → IsGrown g h n → (length g ≡ length h → ⊥) → length g < length h
caught_within g h n (inl same) other = absurd (other (ap (λ (l : Nodes). length l) (sym same)))
caught_within g h n (inr more) other = let longer = ap (λ (l : Nodes). length l) more.1 ∙ length_push g more.0 in omega arith
