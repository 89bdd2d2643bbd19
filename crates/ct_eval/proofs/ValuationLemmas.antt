-- Terms with a node for each: one term more, and all of them.
use Rattle.std.proofs.Common.{◌≡◌, ℕ, suc, ◌<◌, ◌≤◌, inl, inr, List, [], ◌∷◌, ◌++◌, length, All, Contains, Result, Ok, Err, IfOk, OnOk, Some, slice_get, get_or, refl, sym, ap, subst, ◌∙◌, arith}
use Rattle.std.proofs.lemmas.List.{append-nil, length-append, length_push}
use Rattle.std.proofs.lemmas.List.Elements.{Contains-append_left, Contains-push}
use Rattle.std.proofs.lemmas.Option.{none-some, same_Some, slice_get_within, slice_get-get_or}
use Rattle.ct_lemmas.proofs.Lists.{slice_get-append_left, slice_get-prefix, slice_get-push_cases, slice_get-there}
use Rattle.ct_lemmas.proofs.Numbers.{last_or_before}
use Rattle.ct_lemmas.proofs.Pairs.{AllZip-left_parts}
use Rattle.ct_sorts.specs.declared.ids.SortId.{SortId}
use Rattle.ct_sorts.specs.Declarations.{Declarations}
use Rattle.ct_sorts.specs.Grown.{Begins}
use Rattle.ct_sorts.specs.Structure.{AreOfTheirConstructors}
use Rattle.ct_values.specs.declared.node.NodeId.{NodeId}
use Rattle.ct_values.specs.declared.node.Node.{Node}
use Rattle.ct_values.specs.declared.node.Node.TheVariants.{Con, Elem}
use Rattle.ct_values.specs.Graph.{Nodes, IsClosed, HasChildrenBelow}
use Rattle.ct_values.specs.Value.{Value}
use Rattle.ct_values.specs.Agreement.{Point, point}
use Rattle.ct_values.specs.Fitting.{HasNodeSort, IsNodeOfField, FitsNode, FitsGraph}
use Rattle.ct_values.specs.Sharing.{IsRepresentative}
use Rattle.ct_terms.specs.declared.ids.TermId.{TermId}
use Rattle.ct_terms.specs.declared.term.Core.{Core}
use Rattle.ct_terms.specs.Terms.{Terms, Has, HasSort, IsOfSort, IsBoolean, AreSorted, AreOrdered}
use Rattle.ct_eval.specs.declared.interp.Interp.{Interp}
use Rattle.ct_eval.specs.declared.interp.Row.{Row}
use Rattle.ct_eval.specs.declared.interp.Table.{Table}
use Rattle.ct_eval.specs.declared.interp.Valuation.{Valuation}
use Rattle.ct_eval.specs.Interpretation.{FitsTable, IsProper}
use Rattle.ct_eval.specs.Evaluation.{core_value, value_of}
use Rattle.ct_eval.specs.Valued.{IsLonger, AreNewAmong, IsValuation}
use Rattle.ct_eval.specs.EvaluationStep.{HasValue, AreValued, HaveNodes, IsGrown}
use Rattle.ct_eval.proofs.StepNodes.{IsLonger-further}
use Rattle.ct_eval.proofs.EvaluationLemmas.{value_of-unfolds, value_below-longer}

-- the theorem on representatives in a graph that grows
abbrev pub Lasting : Type 0
Lasting = (g more : Nodes) (p : Point) (n : NodeId) → IsClosed g → IsRepresentative g p n → IsRepresentative (g ++ more) p n

-- a graph to which one node was added at most goes on from what it was
IsGrown-longer : (g longer : Nodes) (n : NodeId) → IsGrown g longer n → IsLonger g longer
IsGrown-longer g longer n (inl same) = ([], same ∙ sym (append-nil g))
IsGrown-longer g longer n (inr more) = (more.0 ∷ [], more.1)

-- where each new node was one of these, it is one of these and the node that was added
AreNewAmong-more : (first g longer : Nodes) (nodes : List NodeId) (n : NodeId) → AreNewAmong first g nodes → IsGrown g longer n → AreNewAmong first longer (nodes ++ n ∷ [])
AreNewAmong-more first g longer nodes n made (inl same) m new within =
    Contains-append_left nodes (n ∷ []) m (made m new (subst (λ (h : Nodes). m.0 < length h) same within))
AreNewAmong-more first g longer nodes n made (inr more) m new within =
    elim (last_or_before m.0 (length g) (subst (λ k. m.0 < k) (ap length more.1 ∙ length_push g more.0) within)) [
      | inl before ↦ Contains-append_left nodes (n ∷ []) m (made m new before)
      | inr last ↦ subst (Contains (nodes ++ n ∷ [])) (ap (λ (k : ℕ). record { 0 = k }) (more.2 ∙ sym last)) (Contains-push nodes n)
    ]

-- the arguments of all rows are nodes of the graph
abbrev pub AreRowsWithin : Nodes → List Table → Type 0
AreRowsWithin g tables = (t : ℕ) (table : Table) (r : ℕ) (row : Row) → slice_get tables t ≡ Some table → slice_get table.rows r ≡ Some row → All (λ n. n.0 < length g) row.args

module _ (d : Declarations) where
  -- a node with a sort is one of the graph
  pub HasNodeSort-within : (g : Nodes) (n : NodeId) (s : SortId) → HasNodeSort d g n s → n.0 < length g
  HasNodeSort-within g n s h = slice_get_within g n.0 h.0 h.1

  -- it has this sort in a longer graph
  HasNodeSort-longer : (g more : Nodes) (n : NodeId) (s : SortId) → HasNodeSort d g n s → HasNodeSort d (g ++ more) n s
  HasNodeSort-longer g more n s h = (h.0, slice_get-append_left g more n.0 h.0 h.1, h.2)

  -- a node that fits has children of the graph
  FitsNode-below : (g : Nodes) (node : Node) → FitsNode d g node → HasChildrenBelow (length g) node
  FitsNode-below g (Con c children) fits =
      AllZip-left_parts (IsNodeOfField d g) (λ child. child.0 < length g) (λ child s field. HasNodeSort-within g child field.selector.sort field.sorted) children fits.ctor.sels fits.fields
  FitsNode-below g (Elem s n) fits = λ k e within. absurd (omega arith)

  -- a graph that fits is closed
  pub FitsGraph-closed : (g : Nodes) → FitsGraph d g → IsClosed g
  FitsGraph-closed g fits k e within = FitsNode-below g (get_or g k e) (fits k (get_or g k e) (slice_get-get_or g k e within))

  -- the arguments of each row are nodes of the graph
  FitsTable-within : (g : Nodes) (args : List SortId) (result : SortId) (table : Table) → FitsTable d g args result table → (r : ℕ) (row : Row) → slice_get table.rows r ≡ Some row → All (λ n. n.0 < length g) row.args
  FitsTable-within g args result table fits r row at =
      AllZip-left_parts (HasNodeSort d g) (λ n. n.0 < length g) (HasNodeSort-within g) row.args args (fits.rows_fit r row at).args_fit

  module _ (i : Interp) (proper : IsProper d i) where
    functions-fit : AreRowsWithin i.graph i.funs
    functions-fit t table r row at stands_at =
        let within = slice_get_within i.funs t table at in
        let function = slice_get-there d.functions t (subst (λ k. t < k) proper.functions.one_each within) in
        FitsTable-within i.graph function.0.args function.0.result table (proper.functions.fit t function.0 table function.1 at) r row stands_at

    selectors-fit : AreOfTheirConstructors d → AreRowsWithin i.graph i.offs
    selectors-fit constructors t table r row at stands_at =
        let within = slice_get_within i.offs t table at in
        let selector = slice_get-there d.sels t (subst (λ k. t < k) proper.selectors.one_each within) in
        let ctor = constructors t selector.0 selector.1 in
        FitsTable-within i.graph (ctor.0.sort ∷ []) selector.0.sort table (proper.selectors.fit t selector.0 ctor.0 table selector.1 ctor.1 at) r row stands_at

    pub functions-within : (g : Nodes) (tables : List Table) → g ≡ i.graph → tables ≡ i.funs → AreRowsWithin g tables
    functions-within g tables at_graph at_tables =
        subst (λ (h : Nodes). AreRowsWithin h tables) (sym at_graph) (subst (AreRowsWithin i.graph) (sym at_tables) functions-fit)

    pub selectors-within : AreOfTheirConstructors d → (g : Nodes) (tables : List Table) → g ≡ i.graph → tables ≡ i.offs → AreRowsWithin g tables
    selectors-within constructors g tables at_graph at_tables =
        subst (λ (h : Nodes). AreRowsWithin h tables) (sym at_graph) (subst (AreRowsWithin i.graph) (sym at_tables) (selectors-fit constructors))

  module _ (i : Interp) (terms : Terms) where
    -- at the start there is no node for a term
    pub HaveNodes-start : (g : Nodes) → IsProper d i → g ≡ i.graph → HaveNodes d i terms g []
    HaveNodes-start g proper same = record {
      longer = ([], same ∙ sym (append-nil i.graph));
      made = λ n old within. let longs : length g ≡ length i.graph = ap length same in absurd (omega arith);
      fits = subst (FitsGraph d) (sym same) proper.graph.fits;
      valued = λ t sort n sorted at. absurd (none-some n at);
    }

    -- a value that a node has it has in a longer graph
    HasValue-longer : Lasting → (g longer : Nodes) (v : Value) (sort : SortId) (n : NodeId) → FitsGraph d g → IsLonger g longer → HasValue d i g v sort n → HasValue d i longer v sort n
    HasValue-longer lasting g longer v sort n fits more h =
        subst (λ (l : Nodes). HasValue d i l v sort n) (sym more.1) (record {
          first = lasting g more.0 (point i.graph v) n (FitsGraph-closed g fits) h.first;
          sorted = HasNodeSort-longer g more.0 n sort h.sorted;
        })

    -- the value of the next term
    HasValue-next : AreOrdered terms → (g : Nodes) (t : TermId) (m n : NodeId) (core : Core) (sort side : SortId) (k : ℕ) → slice_get terms k ≡ Some (core, sort) → IsOfSort terms t side → t.0 ≡ k → m ≡ n → HasValue d i g (core_value d i (value_of d i terms) core) sort m → HasValue d i g (value_of d i terms t) side n
    HasValue-next ordered g t m n core sort side k at sorted position one h =
        let stated : Core × SortId → NodeId → Type 0 = λ stood o. HasValue d i g (core_value d i (value_of d i terms) stood.0) stood.1 o in
        let same : (core, sort) ≡ (sorted.0, side) = same_Some (core, sort) (sorted.0, side) (sym at ∙ ap (slice_get terms) (sym position) ∙ sorted.1) in
        subst (λ (v : Value). HasValue d i g v side n) (sym (value_of-unfolds d i terms t sorted.0 side ordered sorted.1)) (subst (stated (sorted.0, side)) one (subst (λ (stood : Core × SortId). stated stood m) same h))

    -- a node more, for the next term
    HaveNodes-push : Lasting → AreOrdered terms → (g longer : Nodes) (nodes : List NodeId) (n : NodeId) (core : Core) (sort : SortId) → HaveNodes d i terms g nodes → slice_get terms (length nodes) ≡ Some (core, sort) → IsGrown g longer n → FitsGraph d longer → HasValue d i longer (core_value d i (value_of d i terms) core) sort n → HaveNodes d i terms longer (nodes ++ n ∷ [])
    HaveNodes-push lasting ordered g longer nodes n core sort before at grown fits value = let more = IsGrown-longer g longer n grown in record {
      longer = IsLonger-further i.graph g longer before.longer more;
      made = AreNewAmong-more i.graph g longer nodes n before.made grown;
      fits = fits;
      valued = λ t side m sorted stood.
          elim (slice_get-push_cases nodes n m t.0 stood) [
            | inl old ↦ HasValue-longer lasting g longer (value_of d i terms t) side m before.fits more (before.valued t side m sorted old)
            | inr new ↦ HasValue-next ordered longer t n m core sort side (length nodes) at sorted new.0 new.1 value
          ];
    }

    -- the same of what may fail
    pub HaveNodes-next : {E : Type 0} → Lasting → AreOrdered terms → AreSorted d terms → (g longer : Nodes) (nodes : List NodeId) (t : TermId) (core : Core) (r : Result NodeId E) → HaveNodes d i terms g nodes → t.0 ≡ length nodes → Has terms core t.0 → IfOk r (IsGrown g longer) → ((table : Terms) (value : TermId → Value) (sort : SortId) → AreValued d i table g nodes value → HasSort d table core sort → IfOk r (λ n. FitsGraph d longer × HasValue d i longer (core_value d i value core) sort n)) → IfOk r (λ n. HaveNodes d i terms longer (nodes ++ n ∷ []))
    HaveNodes-next lasting ordered sorted g longer nodes t core (Err e) before position has grown value = tt
    HaveNodes-next lasting ordered sorted g longer nodes t core (Ok n) before position has grown value =
        let given = value terms (value_of d i terms) has.0 before.valued (sorted t.0 core has.0 has.1) in
        HaveNodes-push lasting ordered g longer nodes n core has.0 before (ap (slice_get terms) (sym position) ∙ has.1) grown given.0 given.1

    -- terms after these change nothing for those that have nodes
    HaveNodes-longer : (more : Terms) → AreOrdered (terms ++ more) → (g : Nodes) (nodes : List NodeId) → length nodes ≤ length terms → HaveNodes d i terms g nodes → HaveNodes d i (terms ++ more) g nodes
    HaveNodes-longer more ordered g nodes few have = record {
      longer = have.longer;
      made = have.made;
      fits = have.fits;
      valued = λ t sort n sorted at.
          let inside = slice_get_within nodes t.0 n at in
          let within : t.0 < length terms = omega arith in
          subst (λ (v : Value). HasValue d i g v sort n) (sym (value_below-longer d i terms more ordered (suc t.0) t within))
          (have.valued t sort n (sorted.0, sym (slice_get-prefix terms more t.0 within) ∙ sorted.1) at);
    }

    -- so it is in a table that begins with these terms
    pub HaveNodes-in : (table : Terms) → AreOrdered table → Begins terms table → (g : Nodes) (nodes : List NodeId) → length nodes ≤ length terms → HaveNodes d i terms g nodes → HaveNodes d i table g nodes × (length nodes ≤ length table)
    HaveNodes-in table ordered begins g nodes few have =
        let long = length-append terms begins.0 in
        subst (λ (ts : Terms). HaveNodes d i ts g nodes × (length nodes ≤ length ts)) (sym begins.1)
        (HaveNodes-longer begins.0 (subst AreOrdered begins.1 ordered) g nodes few have, omega arith)

    -- where each term has a node, there is a valuation
    pub IsValuation-from : (g h : Nodes) (nodes list : List NodeId) → h ≡ g → list ≡ nodes → HaveNodes d i terms g nodes → length nodes ≡ length terms → IsValuation d i terms (record { graph = h; nodes = list })
    IsValuation-from g h nodes list at_graph at_nodes have all =
        let made : Nodes → List NodeId → Valuation = λ k ns. record { graph = k; nodes = ns } in
        subst (λ (k : Nodes). IsValuation d i terms (made k list)) (sym at_graph) (subst (λ (ns : List NodeId). IsValuation d i terms (made g ns)) (sym at_nodes) (valuation g nodes have all))
      where
        valuation : (g : Nodes) (nodes : List NodeId) → HaveNodes d i terms g nodes → length nodes ≡ length terms → IsValuation d i terms (record { graph = g; nodes = nodes })
        valuation g nodes have all = record {
          longer = have.longer;
          made = have.made;
          fits = have.fits;
          all = all;
          sorts = λ t sort n sorted at. (have.valued t sort n sorted at).sorted;
          values = λ t n at.
              let stood = slice_get-there terms t.0 (subst (λ k. t.0 < k) all (slice_get_within nodes t.0 n at)) in
              (have.valued t stood.0.1 n (stood.0.0, stood.1) at).first;
        }

    -- the same of what may fail
    pub valuation_on_ok : {T E : Type 0} (r : Result T E) (g : Nodes) (nodes : List NodeId) → OnOk r (HaveNodes d i terms g nodes) → OnOk r (length nodes ≡ length terms) → OnOk r (IsValuation d i terms (record { graph = g; nodes = nodes }))
    valuation_on_ok (Ok x) g nodes have all = IsValuation-from g g nodes nodes refl refl have all
    valuation_on_ok (Err e) g nodes have all = tt

    -- each node of a valuation is one of its graph
    pub IsValuation-nodes : (v : Valuation) → IsValuation d i terms v → All (λ n. n.0 < length v.graph) v.nodes
    IsValuation-nodes v valued k e within =
        let stood = slice_get-there terms k (subst (λ n. k < n) valued.all within) in
        let node = get_or v.nodes k e in
        HasNodeSort-within v.graph node stood.0.1 (valued.sorts (record { 0 = k }) stood.0.1 node (stood.0.0, stood.1) (slice_get-get_or v.nodes k e within))

    -- each of Boolean terms has a node
    pub IsValuation-booleans : (v : Valuation) → IsValuation d i terms v → (asserts : List TermId) → All (IsBoolean terms) asserts → All (λ t. t.0 < length v.nodes) asserts
    IsValuation-booleans v valued asserts booleans k e within =
        let t = get_or asserts k e in
        let boolean = booleans k e within in
        subst (λ n. t.0 < n) (sym valued.all) (slice_get_within terms t.0 (boolean.0, _) boolean.1)
