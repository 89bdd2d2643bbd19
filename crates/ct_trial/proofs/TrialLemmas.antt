-- What was tried stays so with a row more, a node more, more terms, more functions and fewer.
use Rattle.std.proofs.Common.{◌≡◌, ℕ, suc, ◌<◌, ◌≤◌, ◌⊎◌, Bool, true, false, cond, ◌&&◌, List, [], ◌∷◌, ◌++◌, length, map, take, drop, Option, Some, None, slice_get, refl, sym, ap, ap₂, subst, ◌∙◌, inl, inr, arith}
use Rattle.std.specs.List.{AllZip, AllByRecursion}
use Rattle.std.proofs.lemmas.List.{length-append, length_push, length-take, take-append-drop}
use Rattle.std.proofs.lemmas.List.Elements.{recursion_from_All}
use Rattle.std.proofs.lemmas.Option.{same_Some, slice_get_within}
use Rattle.ct_lemmas.proofs.Lists.{slice_get-there, slice_get-prefix, slice_get-append_left, slice_get-append_cases, slice_get-push_cases}
use Rattle.ct_lemmas.proofs.Numbers.{last_or_before}
use Rattle.ct_lemmas.proofs.Prefixes.{slice_get-take, take-slice_get}
use Rattle.indexmap.specs.IndexMap.{IndexMap, get}
use Rattle.ct_sorts.specs.declared.ids.FunId.{FunId}
use Rattle.ct_sorts.specs.declared.ids.SortId.{SortId}
use Rattle.ct_sorts.specs.Declarations.{Declarations}
use Rattle.ct_sorts.specs.Grown.{Begins, Extends}
use Rattle.ct_sorts.specs.Structure.{AreOfTheirConstructors}
use Rattle.ct_sorts.specs.Consistent.{IsConsistent}
use Rattle.ct_values.specs.declared.node.NodeId.{NodeId}
use Rattle.ct_values.specs.Graph.{Nodes, IsClosed}
use Rattle.ct_values.specs.Value.{Value}
use Rattle.ct_values.specs.Agreement.{point, node_point}
use Rattle.ct_values.specs.Fitting.{HasNodeSort}
use Rattle.ct_terms.specs.declared.ids.TermId.{TermId}
use Rattle.ct_terms.specs.declared.term.Core.{Core}
use Rattle.ct_terms.specs.declared.term.Core.TheVariants.{Apply}
use Rattle.ct_terms.specs.Terms.{Terms, Has, IsOfSort, Applies, AreOrdered, AreSorted, HasArgumentsBelow}
use Rattle.ct_eval.specs.declared.interp.Row.{Row}
use Rattle.ct_eval.specs.declared.interp.Table.{Table}
use Rattle.ct_eval.specs.declared.interp.Interp.{Interp}
use Rattle.ct_eval.specs.declared.index.RowKey.{RowKey}
use Rattle.ct_eval.specs.Index.{AreRepresentatives, AreRepresentativeNodes, HasRows, AreIndexed, row_key, same_row_key}
use Rattle.ct_eval.specs.Interpretation.{FitsRow, HasFunctions}
use Rattle.ct_eval.specs.LookUp.{are_same, row_for}
use Rattle.ct_eval.specs.Evaluation.{table_value, value_of}
use Rattle.ct_eval.specs.Valued.{IsLonger}
use Rattle.ct_eval.specs.EvaluationStep.{Theorems, HasValue, node_under}
use Rattle.ct_eval.proofs.IndexLemmas as index_lemmas
use Rattle.ct_eval.proofs.StepNodes.{IsLonger-itself}
use Rattle.ct_eval.proofs.EvaluationLemmas.{map-agrees, value_below-longer}
use Rattle.ct_eval.proofs.StepTerms.{valued_under, sorts_sorted, are_representatives, first_within}
use Rattle.ct_trial.specs.Growth.{HaveNoRows, AddsRow, with_functions, HasRow}
use Rattle.ct_trial.specs.Theorems.{GrowthTheorems}
use Rattle.ct_trial.specs.Trial.{IsTried, IsOver, IsRowed, IsCutTo}
use Rattle.ct_trial.proofs.SameLemmas.{value_same, valued_same, rowed_same}
use Rattle.ct_trial.proofs.RowLemmas as rows
use Rattle.ct_trial.proofs.FollowLemmas as follow

-- ---- a row more

index_theorems : Theorems → index_lemmas.Theorems
index_theorems t = record { every_depth = t.every_depth; one = t.one; lasting = t.lasting }

-- where the row's arguments are these values, the table with it has a row for them
has_last : (g : Nodes) (rows : List Row) (row : Row) (vs : List Value) → are_same g row.args vs ≡ true → (n : NodeId) × (row_for g (rows ++ row ∷ []) vs ≡ Some n)
has_last g [] row vs fits = (row.result, ap (λ (b : Bool). cond b (Some row.result) None) fits)
has_last g (r ∷ rs) row vs fits = by (are_same g r.args vs) (row_for g (rs ++ row ∷ []) vs) (has_last g rs row vs fits)
  where
    by : (b : Bool) (o : Option NodeId) → (n : NodeId) × (o ≡ Some n) → (n : NodeId) × (cond b (Some r.result) o ≡ Some n)
    by true o later = (r.result, refl)
    by false o later = later

module _ {S : Type 0} (steps : Theorems) (growth : GrowthTheorems) (d : Declarations) (terms : Terms) (i : Interp) (funs : IndexMap RowKey NodeId S) (nodes : List NodeId) (tried : IsTried d terms i funs nodes) where
  abbrev g : Nodes
  g = i.graph

  abbrev value : TermId → Value
  value = value_of d i terms

  closed : IsClosed g
  closed = (growth.over d i tried.consistent tried.proper).graph

  module _ (f : FunId) (args : List TermId) (sort : SortId) (applies : Applies d terms f.0 args sort) (below : AllByRecursion (λ t. t.0 < length nodes) args) where
    abbrev keys : List NodeId
    keys = map (node_under nodes) args

    -- the nodes of the arguments are the representatives of their values
    firsts : AreRepresentatives g g keys (map value args)
    firsts = are_representatives d i terms g nodes value tried.valued args (sorts_sorted terms args applies.function.args applies.sorted) below

    -- what the map has is what the rows of the table give
    pub row_known : (n : NodeId) → get same_row_key funs (row_key f.0 keys) ≡ Some n → HasRow g (slice_get i.funs f.0) (map value args)
    row_known n has =
        let table = slice_get-there i.funs f.0 (subst (λ (k : ℕ). f.0 < k) (sym tried.proper.functions.one_each) (slice_get_within d.functions f.0 applies.function applies.declared)) in
        subst (λ (o : Option Table). HasRow g o (map value args)) (sym table.1)
        (n, sym (tried.functions.rows f.0 table.0 table.1 g closed (IsLonger-itself g) g keys (map value args) (IsLonger-itself g) firsts) ∙ has)

    -- the row fits the function
    args_fit : (ts : List TermId) (ss : List SortId) → AllZip (IsOfSort terms) ts ss → AllByRecursion (λ t. t.0 < length nodes) ts → AllZip (HasNodeSort d g) (map (node_under nodes) ts) ss
    args_fit [] [] sorted under = tt
    args_fit [] (s ∷ ss) sorted under = sorted
    args_fit (t ∷ ts) [] sorted under = sorted
    args_fit (t ∷ ts) (s ∷ ss) sorted under =
        ((valued_under d i terms g nodes value tried.valued t s sorted.0 under.0).sorted, args_fit ts ss sorted.1 under.1)

    -- each node is its own representative
    themselves : (ns : List NodeId) (vs : List Value) → AreRepresentatives g g ns vs → AreRepresentativeNodes g ns ns
    themselves [] vs first = tt
    themselves (n ∷ ns) [] first = absurd first
    themselves (n ∷ ns) (v ∷ vs) first =
        (steps.same_first g (point g v) (node_point g n) n (steps.turned (node_point g n) (point g v) first.0.same) first.0, themselves ns vs first.1)

    -- and equal to the value
    equal : (ns : List NodeId) (vs : List Value) → AreRepresentatives g g ns vs → are_same g ns vs ≡ true
    equal [] [] first = refl
    equal [] (v ∷ vs) first = absurd first
    equal (n ∷ ns) [] first = absurd first
    equal (n ∷ ns) (v ∷ vs) first =
        ap₂ (λ (a b : Bool). a && b) ((steps.every_depth (node_point g n) (point g v) closed closed).1 first.0.same) (equal ns vs first.1)

    module _ (tables : List Table) (row : Row) (adds : AddsRow i.funs tables f.0 row) (args_are : row.args ≡ keys) (result_fits : HasNodeSort d g row.result applies.function.result) where
      abbrev after : Interp
      after = with_functions i tables

      fits : FitsRow d g applies.function.args applies.function.result row
      fits = record {
        args_fit = subst (λ (ns : List NodeId). AllZip (HasNodeSort d g) ns applies.function.args) (sym args_are) (args_fit args applies.function.args applies.sorted below);
        result_fits = result_fits;
      }

      given : (t : ℕ) (h : FunId) (others : List TermId) (s : SortId) → t < length nodes → slice_get terms t ≡ Some (Apply h others, s) → table_value i (slice_get tables h.0) (map value others) ≡ table_value i (slice_get i.funs h.0) (map value others)
      given t h others s within at = rows.given_still i.funs tables f.0 row adds i h.0 (map value others) (tried.rowed t h others s within at)

      module _ (more : IndexMap RowKey NodeId S) (stay : (k : RowKey) (n : NodeId) → get same_row_key funs k ≡ Some n → get same_row_key more k ≡ Some n) (added : get same_row_key funs (row_key f.0 keys) ≡ None → get same_row_key more (row_key f.0 keys) ≡ Some row.result) (only : (k : RowKey) (n : NodeId) → get same_row_key more k ≡ Some n → (get same_row_key funs k ≡ Some n) ⊎ ((k ≡ row_key f.0 keys) × (n ≡ row.result))) where
        -- the keys are the representatives of the row's arguments, also in a longer graph
        firsts_later : (longer : Nodes) → IsClosed longer → IsLonger g longer → AreRepresentativeNodes longer keys row.args
        firsts_later longer closed_later l =
            subst (AreRepresentativeNodes longer keys) (sym args_are)
            (index_lemmas.AreRepresentativeNodes-longer (index_theorems steps) steps.turned growth.same steps.same_first g longer closed l keys keys
            (recursion_from_All (λ (n : NodeId). n.0 < length g) keys (first_within g g keys (map value args) firsts)) (themselves keys (map value args) firsts))

        pub tried_row : IsTried d terms after more nodes
        tried_row = record {
          consistent = tried.consistent;
          ordered = tried.ordered;
          proper = record {
            graph = tried.proper.graph;
            functions = rows.functions_still i.funs tables f.0 row adds d g applies.function applies.declared fits tried.proper.functions;
            selectors = tried.proper.selectors;
          };
          functions = rows.indexed_still i.funs tables f.0 row adds (index_theorems steps) g funs more keys firsts_later stay added only tried.functions;
          few = tried.few;
          valued = valued_same i tables d d terms tried.ordered refl (length nodes) tried.few given nodes (omega arith) (λ n s h. h) tried.valued;
          rowed =
              rowed_same i tables d d terms tried.ordered refl (length nodes) tried.few given (length nodes) (omega arith)
              (λ t h others s within at has. rows.has_row_still i.funs tables f.0 row adds g h.0 (map value others) has) tried.rowed;
        }

      -- there is a row for the arguments
      pub row_there : HasRow g (slice_get tables f.0) (map (value_of d after terms) args)
      row_there =
          let values : map (value_of d after terms) args ≡ map value args = map-agrees (value_of d after terms) value (λ (t : TermId). t.0 < length nodes) (λ t under. value_same i tables d d terms tried.ordered refl (length nodes) tried.few given t under) args below in
          let fitting : are_same g row.args (map value args) ≡ true = ap (λ (ns : List NodeId). are_same g ns (map value args)) args_are ∙ equal keys (map value args) firsts in
          subst (HasRow g (slice_get tables f.0)) (sym values)
          (subst (λ (o : Option Table). HasRow g o (map value args)) (sym (rows.at_number i.funs tables f.0 row adds)) (has_last g adds.0.rows row (map value args) fitting))

  -- ---- a node more

  pub tried_next : (n : NodeId) → length nodes < length terms → ((sort : SortId) → IsOfSort terms (record { 0 = length nodes }) sort → HasValue d i g (value (record { 0 = length nodes })) sort n) → ((f : FunId) (args : List TermId) (sort : SortId) → slice_get terms (length nodes) ≡ Some (Apply f args, sort) → HasRow g (slice_get i.funs f.0) (map value args)) → IsTried d terms i funs (nodes ++ n ∷ [])
  tried_next n within node row = record {
    consistent = tried.consistent;
    ordered = tried.ordered;
    proper = tried.proper;
    functions = tried.functions;
    few = let long = length_push nodes n in omega arith;
    valued = λ t sort m sorted at.
        elim (slice_get-push_cases nodes n m t.0 at) [
          | inl old ↦ tried.valued t sort m sorted old
          | inr new ↦
              let is : t ≡ record { 0 = length nodes } = ap (λ (k : ℕ). record { 0 = k }) new.0 in
              subst (HasValue d i g (value t) sort) new.1 (subst (λ (u : TermId). HasValue d i g (value u) sort n) (sym is) (node sort (subst (λ (u : TermId). IsOfSort terms u sort) is sorted)))
        ];
    rowed = λ t f args sort before at.
        elim (last_or_before t (length nodes) (subst (λ (k : ℕ). t < k) (length_push nodes n) before)) [
          | inl old ↦ tried.rowed t f args sort old at
          | inr new ↦ row f args sort (ap (slice_get terms) (sym new) ∙ at)
        ];
  }

-- ---- more terms

-- terms after those of the table change nothing for those that have nodes
module _ {S : Type 0} (d : Declarations) (terms : Terms) (i : Interp) (funs : IndexMap RowKey NodeId S) (nodes : List NodeId) (tried : IsTried d terms i funs nodes) (more : Terms) (ordered : AreOrdered (terms ++ more)) where
  value_longer : (t : TermId) → t.0 < length nodes → value_of d i (terms ++ more) t ≡ value_of d i terms t
  value_longer t within = let few = tried.few in value_below-longer d i terms more ordered (suc t.0) t (omega arith)

  stood : (t : ℕ) (x : Core × SortId) → t < length nodes → slice_get (terms ++ more) t ≡ Some x → slice_get terms t ≡ Some x
  stood t x within at = let few = tried.few in sym (slice_get-prefix terms more t (omega arith)) ∙ at

  tried_longer : IsTried d (terms ++ more) i funs nodes
  tried_longer = record {
    consistent = tried.consistent;
    ordered = ordered;
    proper = tried.proper;
    functions = tried.functions;
    few = let few = tried.few in let long = length-append terms more in omega arith;
    valued = λ t sort n sorted at.
        let within : t.0 < length nodes = slice_get_within nodes t.0 n at in
        subst (λ (v : Value). HasValue d i i.graph v sort n) (sym (value_longer t within)) (tried.valued t sort n (sorted.0, stood t.0 (sorted.0, sort) within sorted.1) at);
    rowed = λ t f args sort within at.
        let old : slice_get terms t ≡ Some (Apply f args, sort) = stood t (Apply f args, sort) within at in
        subst (HasRow i.graph (slice_get i.funs f.0))
        (sym (map-agrees (value_of d i (terms ++ more)) (value_of d i terms) (λ (u : TermId). u.0 < t) (λ u under. value_longer u (omega arith)) args (tried.ordered t (Apply f args) (sort, old))))
        (tried.rowed t f args sort within old);
  }

pub tried_in : {S : Type 0} (d : Declarations) (terms table : Terms) (i : Interp) (funs : IndexMap RowKey NodeId S) (nodes : List NodeId) → Begins terms table → AreOrdered table → IsTried d terms i funs nodes → IsTried d table i funs nodes
tried_in d terms table i funs nodes begins ordered tried =
    subst (λ (ts : Terms). IsTried d ts i funs nodes) (sym begins.1) (tried_longer d terms i funs nodes tried begins.0 (subst AreOrdered begins.1 ordered))

-- ---- more functions

module _ {S : Type 0} (growth : GrowthTheorems) (d e : Declarations) (terms : Terms) (i : Interp) (funs : IndexMap RowKey NodeId S) (nodes : List NodeId) (tried : IsTried d terms i funs nodes) (extends : Extends e d) (consistent : IsConsistent e) (structure : AreOfTheirConstructors d) (sels : d.sels ≡ e.sels) (added : List Table) (none : HaveNoRows added) (functions : HasFunctions e i.graph (i.funs ++ added)) where
  abbrev tables : List Table
  tables = i.funs ++ added

  -- the table of a function that has one is the same
  table_stays : (k : ℕ) (vs : List Value) → HasRow i.graph (slice_get i.funs k) vs → slice_get tables k ≡ slice_get i.funs k
  table_stays k vs has = by (slice_get i.funs k) refl has
    where
      by : (o : Option Table) → slice_get i.funs k ≡ o → HasRow i.graph o vs → slice_get tables k ≡ slice_get i.funs k
      by None at had = absurd had
      by (Some table) at had = slice_get-append_left i.funs added k table at ∙ sym at

  given_more : (t : ℕ) (f : FunId) (args : List TermId) (sort : SortId) → t < length nodes → slice_get terms t ≡ Some (Apply f args, sort) → table_value i (slice_get tables f.0) (map (value_of d i terms) args) ≡ table_value i (slice_get i.funs f.0) (map (value_of d i terms) args)
  given_more t f args sort within at =
      ap (λ (o : Option Table). table_value i o (map (value_of d i terms) args)) (table_stays f.0 (map (value_of d i terms) args) (tried.rowed t f args sort within at))

  indexed_more : AreIndexed i.graph tables funs
  indexed_more = record {
    rows = λ t table at longer closed l.
        elim (slice_get-append_cases i.funs added t table at) [
          | inl old ↦ tried.functions.rows t table old longer closed l
          | inr new ↦
              let past : length i.funs ≤ t = let is = new.1 in omega arith in
              subst (λ (rs : List Row). HasRows longer t rs funs) (sym (none new.0 table new.2)) (λ further args vs l first. tried.functions.only t args past)
        ];
    only = λ t args past. tried.functions.only t args (let long = length-append i.funs added in omega arith);
  }

  pub tried_more : IsTried e terms (with_functions i tables) funs nodes
  tried_more = record {
    consistent = consistent;
    ordered = tried.ordered;
    proper = record {
      graph = growth.well_formed e d i.graph tried.consistent extends tried.proper.graph;
      functions = functions;
      selectors = follow.selectors_more growth d e i tried.proper extends structure sels;
    };
    functions = indexed_more;
    few = tried.few;
    valued = valued_same i tables d e terms tried.ordered sels (length nodes) tried.few given_more nodes (omega arith) (follow.sorts_more growth d e i.graph extends) tried.valued;
    rowed =
        rowed_same i tables d e terms tried.ordered sels (length nodes) tried.few given_more (length nodes) (omega arith)
        (λ t f args sort within at has. subst (λ (o : Option Table). HasRow i.graph o (map (value_of d i terms) args)) (sym (table_stays f.0 (map (value_of d i terms) args) has)) has) tried.rowed;
  }

-- ---- fewer functions

module _ {S : Type 0} (d e : Declarations) (terms : Terms) (i : Interp) (funs : IndexMap RowKey NodeId S) (nodes : List NodeId) (tried : IsTried d terms i funs nodes) (cut : IsCutTo d e) (count : ℕ) (sorted : AreSorted e (take count terms)) where
  abbrev first : Terms
  first = take count terms

  abbrev rest : Terms
  rest = drop count terms

  abbrev few_tables : List Table
  few_tables = take (length e.functions) i.funs

  abbrev few_nodes : List NodeId
  few_nodes = take count nodes

  whole : first ++ rest ≡ terms
  whole = take-append-drop count terms

  ordered_first : AreOrdered first
  ordered_first t core has = tried.ordered t core (has.0, slice_get-take count terms t (core, has.0) has.1)

  -- the first terms have their values over the first terms alone
  value_first : (t : TermId) → t.0 < length first → value_of d i first t ≡ value_of d i terms t
  value_first t within =
      sym (value_below-longer d i first rest (subst AreOrdered (sym whole) tried.ordered) (suc t.0) t within) ∙ ap (λ (ts : Terms). value_of d i ts t) whole

  fewer : length few_nodes ≤ length first
  fewer = let a = length-take count nodes in let b = length-take count terms in let c = tried.few in omega arith

  -- they apply functions that are left
  left_at : (t : ℕ) (f : FunId) (args : List TermId) (sort : SortId) → slice_get first t ≡ Some (Apply f args, sort) → slice_get few_tables f.0 ≡ slice_get i.funs f.0
  left_at t f args sort at =
      let applies : Applies e first f.0 args sort = sorted t (Apply f args) sort at in
      let within : f.0 < length e.functions = slice_get_within e.functions f.0 applies.function applies.declared in
      let table = slice_get-there i.funs f.0 (let one = tried.proper.functions.one_each in let less = follow.fewer_functions d e cut in omega arith) in
      take-slice_get (length e.functions) i.funs f.0 table.0 within table.1 ∙ sym table.1

  tried_first : IsTried d first i funs few_nodes
  tried_first = record {
    consistent = tried.consistent;
    ordered = ordered_first;
    proper = tried.proper;
    functions = tried.functions;
    few = fewer;
    valued = λ t sort n of at.
        let old : slice_get nodes t.0 ≡ Some n = slice_get-take count nodes t.0 n at in
        let within : t.0 < length first = let short = fewer in let inside = slice_get_within few_nodes t.0 n at in omega arith in
        subst (λ (v : Value). HasValue d i i.graph v sort n) (sym (value_first t within)) (tried.valued t sort n (of.0, slice_get-take count terms t.0 (of.0, sort) of.1) old);
    rowed = λ t f args sort within at.
        let old : slice_get terms t ≡ Some (Apply f args, sort) = slice_get-take count terms t (Apply f args, sort) at in
        let inside : t < length nodes = let short = length-take count nodes in omega arith in
        let shorter = fewer in
        subst (HasRow i.graph (slice_get i.funs f.0))
        (sym (map-agrees (value_of d i first) (value_of d i terms) (λ (u : TermId). u.0 < t) (λ u under. value_first u (omega arith)) args (ordered_first t (Apply f args) (sort, at))))
        (tried.rowed t f args sort inside old);
  }

  given_left : (t : ℕ) (f : FunId) (args : List TermId) (sort : SortId) → t < length few_nodes → slice_get first t ≡ Some (Apply f args, sort) → table_value i (slice_get few_tables f.0) (map (value_of d i first) args) ≡ table_value i (slice_get i.funs f.0) (map (value_of d i first) args)
  given_left t f args sort within at = ap (λ (o : Option Table). table_value i o (map (value_of d i first) args)) (left_at t f args sort at)

  pub tried_cut : {R : Type 0} (index : IndexMap RowKey NodeId R) → AreIndexed i.graph few_tables index → IsTried e first (with_functions i few_tables) index few_nodes
  tried_cut index indexed = record {
    consistent = cut.consistent;
    ordered = ordered_first;
    proper = follow.proper_cut d e i tried.proper cut;
    functions = indexed;
    few = fewer;
    valued = valued_same i few_tables d e first ordered_first (sym cut.sels) (length few_nodes) fewer given_left few_nodes (omega arith) (follow.sorts_cut d e i.graph cut) tried_first.valued;
    rowed =
        rowed_same i few_tables d e first ordered_first (sym cut.sels) (length few_nodes) fewer given_left (length few_nodes) (omega arith)
        (λ t f args sort within at has. subst (λ (o : Option Table). HasRow i.graph o (map (value_of d i first) args)) (sym (left_at t f args sort at)) has) tried_first.rowed;
  }

-- ---- terms

-- a term is over the first ones where the terms right under it are
pub over_by : (terms : Terms) (t : TermId) (core : Core) (count : ℕ) → Has terms core t.0 → HasArgumentsBelow count core → IsOver terms count t
over_by terms t core count had under = record {
  within = slice_get_within terms t.0 (core, had.0) had.1;
  below = λ other has. subst (HasArgumentsBelow count) (ap (λ (p : Core × SortId). p.0) (same_Some (core, had.0) (other, has.0) (sym had.1 ∙ has.1))) under;
}

-- applications that are one are of one function to the same terms
same_application : (f h : FunId) (xs ys : List TermId) → Apply f xs ≡ Apply h ys → (f ≡ h) × (xs ≡ ys)
same_application f h xs ys e = (cc, cc)

-- what is known of the row for one application is known of it by its number
pub rowed_by : (d : Declarations) (terms : Terms) (i : Interp) (t : TermId) (f : FunId) (args : List TermId) → Has terms (Apply f args) t.0 → HasRow i.graph (slice_get i.funs f.0) (map (value_of d i terms) args) → IsRowed d terms i t
rowed_by d terms i t f args had row h others sort at =
    let one : Apply f args ≡ Apply h others = ap (λ (p : Core × SortId). p.0) (same_Some (Apply f args, had.0) (Apply h others, sort) (sym had.1 ∙ at)) in
    let parts = same_application f h args others one in
    subst (λ (k : FunId). HasRow i.graph (slice_get i.funs k.0) (map (value_of d i terms) others)) parts.0
    (subst (λ (xs : List TermId). HasRow i.graph (slice_get i.funs f.0) (map (value_of d i terms) xs)) parts.1 row)

-- a term that applies nothing has no row to have
pub rowed_other : (d : Declarations) (terms : Terms) (i : Interp) (t : TermId) (core : Core) → Has terms core t.0 → ((f : FunId) (args : List TermId) → core ≡ Apply f args → ⊥) → IsRowed d terms i t
rowed_other d terms i t core had other h others sort at =
    absurd (other h others (ap (λ (p : Core × SortId). p.0) (same_Some (core, had.0) (Apply h others, sort) (sym had.1 ∙ at))))
