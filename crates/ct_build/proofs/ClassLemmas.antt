-- A node for each class after a well-formed graph keeps it well formed.
use Rattle.std.proofs.Common.{◌≡◌, ℕ, zero, suc, ◌+◌, ◌<◌, List, [], ◌∷◌, ◌++◌, length, map, slice_get, Some, option_map, refl, sym, ◌∙◌, ap, subst, inl, inr, arith, All}
use Rattle.std.specs.List.{AllZip, AllByRecursion}
use Rattle.std.proofs.lemmas.Option.{none-some, same_Some, slice_get_within, slice_get-get_or}
use Rattle.ct_lemmas.proofs.Each.{All-from_slice_get}
use Rattle.ct_lemmas.proofs.Lists.{slice_get-append_after, slice_get-append_cases, slice_get-map_source, slice_get-there}
use Rattle.ct_sorts.specs.declared.ids.CtorId.{CtorId}
use Rattle.ct_sorts.specs.declared.ids.SelId.{SelId}
use Rattle.ct_sorts.specs.declared.ids.SortId.{SortId}
use Rattle.ct_sorts.specs.Declarations.{Declarations, Constructor}
use Rattle.ct_values.specs.declared.node.NodeId.{NodeId}
use Rattle.ct_values.specs.declared.node.Node.{Node}
use Rattle.ct_values.specs.Graph.{Nodes, IsClosed, HasChildrenBelow, node_children}
use Rattle.ct_values.specs.Fitting.{HasNodeSort, IsNodeOfField, FitsNode, node_sort}
use Rattle.ct_values.specs.WellFormed.{IsData, IsWellFormedGraph}
use Rattle.ct_terms.specs.declared.ids.TermId.{TermId}
use Rattle.ct_terms.specs.declared.term.Core.TheVariants.{Con}
use Rattle.ct_terms.specs.Terms.{IsOfSort, IsOfField, AreSorted}
use Rattle.ct_rules.specs.Cycle.{IsOfDatatype}
use Rattle.ct_congr.specs.State.{State, AreEqual}
use Rattle.ct_acyclic.specs.Order.{IsClassOrder}
use Rattle.ct_build.specs.Nodes.{HaveSortedNodes, IsClassList, IsReserved, AreClassNodes}
use Rattle.ct_eval.specs.EvaluationStep.{node_under}
use Rattle.ct_build.proofs.ListLemmas.{AllZip-map}
use Rattle.ct_build.proofs.GraphLemmas.{longer_fits, fits_within, well_formed_longer, one_node_sort}
use Rattle.ct_build.proofs.TermLemmas.{one_term_sort}

abbrev pub HaveOneSort : State → Type 0
HaveOneSort state = (x y : TermId) (s : SortId) → AreEqual state x y → IsOfSort state.terms x s → IsOfSort state.terms y s

-- what equals a term of a datatype is of the datatype
datatype-equal : (state : State) → HaveOneSort state → (x y : TermId) → AreEqual state x y → IsOfDatatype state.declarations state.terms x → IsOfDatatype state.declarations state.terms y
datatype-equal state one_sort x y equal is = record {
  id = is.id;
  sort = is.sort;
  sorted = one_sort x y is.id equal is.sorted;
  declared = is.declared;
  kind = is.kind;
}

-- a term of the list represents a class
pub list_own : (state : State) (order list : List TermId) → IsClassOrder state order → IsClassList state order list → (i : ℕ) (r : TermId) → slice_get list i ≡ Some r → slice_get state.reps r.0 ≡ Some r
list_own state order list ordered listed i r at =
    elim (slice_get-append_cases order listed.rest i r (subst (λ (l : List TermId). slice_get l i ≡ Some r) listed.is at)) [
      | inl h ↦ (ordered.only i r h).own
      | inr (k, e, h) ↦ (listed.others k r h).own
    ]

-- one that represents a class of a datatype stands at the same index in the order
order_at : (state : State) (order list : List TermId) → IsClassList state order list → (i : ℕ) (r : TermId) → slice_get list i ≡ Some r → IsOfDatatype state.declarations state.terms r → slice_get order i ≡ Some r
order_at state order list listed i r at is =
    elim (slice_get-append_cases order listed.rest i r (subst (λ (l : List TermId). slice_get l i ≡ Some r) listed.is at)) [
      | inl h ↦ h
      | inr (k, e, h) ↦ absurd ((listed.others k r h).other is)
    ]

module _ (state : State) (sorted : AreSorted state.declarations state.terms) (one_sort : HaveOneSort state) (long : length state.reps ≡ length state.terms) (order list : List TermId) (ordered : IsClassOrder state order) (listed : IsClassList state order list) (g : Nodes) (formed : IsWellFormedGraph state.declarations g) (values : List NodeId) (have : HaveSortedNodes state.declarations state.terms g values) (nodes_of : List NodeId) (many : length nodes_of ≡ length state.terms)
    (reserved_of : (t r : TermId) → slice_get state.reps t.0 ≡ Some r → (n : NodeId) × (slice_get nodes_of t.0 ≡ Some n) × IsReserved list (length g) r n)
    (added : List Node) (are : AreClassNodes state g values list nodes_of added) where
  abbrev d : Declarations
  d = state.declarations

  abbrev longer : Nodes
  longer = g ++ added

  -- the representative of a term, and that it is one of its class
  rep_of : (t : TermId) (s : SortId) → IsOfSort state.terms t s → (r : TermId) × (slice_get state.reps t.0 ≡ Some r)
  rep_of t s has = slice_get-there state.reps t.0 (omega (arith, long, slice_get_within state.terms t.0 (has.0, s) has.1))

  own : (i : ℕ) (r : TermId) → slice_get list i ≡ Some r → slice_get state.reps r.0 ≡ Some r
  own = list_own state order list ordered listed

  -- the sort of a term of the list
  sort_at : (i : ℕ) (r : TermId) → slice_get list i ≡ Some r → (s : SortId) × IsOfSort state.terms r s
  sort_at i r at =
      let entry = slice_get-there state.terms r.0 (omega (arith, long, slice_get_within state.reps r.0 r (own i r at))) in
      (entry.0.1, (entry.0.0, entry.1))

  -- the node of a class has its sort
  class_node_sort : (i : ℕ) (r : TermId) (node : Node) (s : SortId) → slice_get list i ≡ Some r → slice_get added i ≡ Some node → IsOfSort state.terms r s → node_sort d node ≡ Some s
  class_node_sort i r node s at at_node has =
      elim (are.each i r node at at_node) [
        | inl of ↦
            let built = sorted of.con.0 (Con of.ctor of.args) of.stands.0 of.stands.1 in
            let same : of.stands.0 ≡ s = one_term_sort state.terms of.con of.stands.0 s (Con of.ctor of.args, of.stands.1) (one_sort r of.con s of.equal has) in
            ap (node_sort d) of.is ∙ ap (option_map (λ (k : Constructor). k.sort)) built.declared ∙ ap Some (sym built.result ∙ same)
        | inr copied ↦
            let here = have.sorted r s copied.copied has copied.value in
            let same : here.0 ≡ node = same_Some here.0 node (sym here.1 ∙ copied.at) in
            ap (node_sort d) (sym same) ∙ here.2
      ]

  -- the reserved node of a class has its sort
  reserved_sort : (i : ℕ) (r : TermId) (n : NodeId) (s : SortId) → slice_get list i ≡ Some r → n.0 ≡ length g + i → IsOfSort state.terms r s → HasNodeSort d longer n s
  reserved_sort i r n s at number has =
      let node = slice_get-there added i (omega (arith, are.long, slice_get_within list i r at)) in (
        node.0,
        ap (slice_get longer) number ∙ slice_get-append_after g added i ∙ node.1,
        class_node_sort i r node.0 s at node.1 has,
      )

  -- so each term's node has the term's sort
  has_node : (t : TermId) (s : SortId) (n : NodeId) → IsOfSort state.terms t s → slice_get nodes_of t.0 ≡ Some n → HasNodeSort d longer n s
  has_node t s n has at =
      let rep = rep_of t s has in
      let (m, at_m, place) = reserved_of t rep.0 rep.1 in
      let number : n.0 ≡ length g + place.index = ap (λ (q : NodeId). q.0) (same_Some n m (sym at ∙ at_m)) ∙ place.number in
      reserved_sort place.index rep.0 n s place.listed number (one_sort t rep.0 s (rep.0, rep.1, own place.index rep.0 place.listed) has)

  -- the node of a term that has a sort
  under_at : (t : TermId) (s : SortId) → IsOfSort state.terms t s → slice_get nodes_of t.0 ≡ Some (node_under nodes_of t)
  under_at t s has = slice_get-get_or nodes_of t.0 (record { 0 = 0 }) (omega (arith, many, slice_get_within state.terms t.0 (has.0, s) has.1))

  field_node : (t : TermId) (sel : SelId) → IsOfField d state.terms t sel → IsNodeOfField d longer (node_under nodes_of t) sel
  field_node t sel is = record {
    selector = is.selector;
    declared = is.declared;
    sorted = has_node t is.selector.sort (node_under nodes_of t) is.sorted (under_at t is.selector.sort is.sorted);
  }

  -- the node of a class fits
  pub class_node_fits : (i : ℕ) (node : Node) → slice_get added i ≡ Some node → FitsNode d longer node
  class_node_fits i node at_node =
      let rep = slice_get-there list i (omega (arith, are.long, slice_get_within added i node at_node)) in
      elim (are.each i rep.0 node rep.1 at_node) [
        | inl of ↦
            let built = sorted of.con.0 (Con of.ctor of.args) of.stands.0 of.stands.1 in
            subst (λ (x : Node). FitsNode d longer x) (sym of.is) (record {
              ctor = built.ctor;
              declared = built.declared;
              fields = AllZip-map (IsOfField d state.terms) (IsNodeOfField d longer) (node_under nodes_of) of.args built.ctor.sels field_node built.fields;
            })
        | inr copied ↦ longer_fits d g added node (formed.fits copied.copied.0 node copied.at)
      ]

  -- the sort of a term is the one that its node has
  datatype_of : (t : TermId) (s : SortId) (n : NodeId) → IsOfSort state.terms t s → HasNodeSort d longer n s → IsData d longer n → IsOfDatatype d state.terms t
  datatype_of t s n has of (id, sort, is, declared, kind) =
      let same : s ≡ id = one_node_sort d longer n s id of is in
      record { id = id; sort = sort; sorted = subst (λ (q : SortId). IsOfSort state.terms t q) same has; declared = declared; kind = kind }

  -- the argument of a constructor term whose node is reserved comes before the class
  argument_before : (i j k : ℕ) (r a ra : TermId) (sa : SortId) → (con : TermId) (ctor : CtorId) (args : List TermId) → AreEqual state r con → (sort : SortId) × (slice_get state.terms con.0 ≡ Some (Con ctor args, sort)) → slice_get args k ≡ Some a → slice_get list i ≡ Some r → slice_get list j ≡ Some ra → slice_get state.reps a.0 ≡ Some ra → IsOfDatatype d state.terms r → IsOfDatatype d state.terms a → j < i
  argument_before i j k r a ra sa con ctor args equal stands listed_at at at_a rep_a is_data data_a =
      let own_r = own i r at in
      let own_a = own j ra at_a in
      let same : equal.0 ≡ r = same_Some equal.0 r (sym equal.1 ∙ own_r) in
      let con_rep : slice_get state.reps con.0 ≡ Some r = equal.2 ∙ ap Some same in
      let data_con = datatype-equal state one_sort r con equal is_data in
      let data_ra = datatype-equal state one_sort a ra (ra, rep_a, own_a) data_a in
      ordered.after r ra con k j i (r, con_rep, own_r)
      (record { ctor = ctor; args = args; argument = a; stands = stands; datatype = data_con; at = listed_at; equal = (ra, rep_a, own_a) })
      (order_at state order list listed j ra at_a data_ra)
      (order_at state order list listed i r at is_data)

  -- under the node of a class of a datatype the nodes of datatypes have smaller numbers
  class_node_before : (i k : ℕ) (node : Node) (child : NodeId) → slice_get added i ≡ Some node → slice_get (node_children node) k ≡ Some child → IsData d longer (record { 0 = length g + i }) → IsData d longer child → child.0 < length g + i
  class_node_before i k node child at_node listed_at is_data data_child =
      let rep = slice_get-there list i (omega (arith, are.long, slice_get_within added i node at_node)) in
      let r = rep.0 in
      elim (are.each i r node rep.1 at_node) [
        | inl of ↦
            let built = sorted of.con.0 (Con of.ctor of.args) of.stands.0 of.stands.1 in
            let source = slice_get-map_source (node_under nodes_of) of.args k child (ap (λ (x : Node). slice_get (node_children x) k) (sym of.is) ∙ listed_at) in
            let field = argument_sort of.args built.ctor.sels k source.0 built.fields source.1 in
            let at_child : slice_get nodes_of source.0.0 ≡ Some child = under_at source.0 field.0 field.1 ∙ ap Some source.2 in
            let rep_a = rep_of source.0 field.0 field.1 in
            let (m, at_m, place) = reserved_of source.0 rep_a.0 rep_a.1 in
            let number : child.0 ≡ length g + place.index = ap (λ (q : NodeId). q.0) (same_Some child m (sym at_child ∙ at_m)) ∙ place.number in
            let own_sort = sort_at i r rep.1 in
            let data_r = datatype_of r own_sort.0 (record { 0 = length g + i }) own_sort.1 (reserved_sort i r (record { 0 = length g + i }) own_sort.0 rep.1 refl own_sort.1) is_data in
            let data_a = datatype_of source.0 field.0 child field.1 (has_node source.0 field.0 child field.1 at_child) data_child in
            let less : place.index < i = argument_before i place.index k r source.0 rep_a.0 field.0 of.con of.ctor of.args of.equal of.stands source.1 rep.1 place.listed rep_a.1 data_r data_a in
            omega (arith, less, number)
        | inr copied ↦
            let within : child.0 < length g = fits_within d g node k child (formed.fits copied.copied.0 node copied.at) listed_at in
            omega (arith, within)
      ]
    where
      argument_sort : (args : List TermId) (sels : List SelId) (k : ℕ) (a : TermId) → AllZip (IsOfField d state.terms) args sels → slice_get args k ≡ Some a → (s : SortId) × IsOfSort state.terms a s
      argument_sort [] sels k a all at = absurd (none-some _ at)
      argument_sort (x ∷ args) [] k a all at = absurd all
      argument_sort (x ∷ args) (q ∷ sels) zero a all at = subst (λ (y : TermId). (s : SortId) × IsOfSort state.terms y s) (same_Some _ _ at) (all.0.selector.sort, all.0.sorted)
      argument_sort (x ∷ args) (q ∷ sels) (suc k) a all at = argument_sort args sels k a all.1 at

  pub class_nodes_well_formed : IsWellFormedGraph d longer
  class_nodes_well_formed = well_formed_longer d g added formed class_node_fits class_node_before

  pub class_nodes_have : HaveSortedNodes d state.terms longer nodes_of
  class_nodes_have = record { long = many; sorted = has_node }

-- the children of nodes of classes are below the end of the longer graph
module _ (state : State) (list : List TermId) (g : Nodes) (closed : IsClosed g) (values nodes_of : List NodeId)
    (inside : (t : ℕ) (n : NodeId) → slice_get nodes_of t ≡ Some n → n.0 < length g + length list)
    (there_is : (con : TermId) (c : CtorId) (args : List TermId) → (sort : SortId) × (slice_get state.terms con.0 ≡ Some (Con c args, sort)) → AllByRecursion (λ a. a.0 < length nodes_of) args)
    (added : List Node) (are : AreClassNodes state g values list nodes_of added) where
  arguments_below : (args : List TermId) → AllByRecursion (λ a. a.0 < length nodes_of) args → (k : ℕ) (n : NodeId) → slice_get (map (node_under nodes_of) args) k ≡ Some n → n.0 < length g + length list
  arguments_below [] h k n at = absurd (none-some n at)
  arguments_below (a ∷ args) h zero n at = inside a.0 n (slice_get-get_or nodes_of a.0 (record { 0 = 0 }) h.0 ∙ at)
  arguments_below (a ∷ args) h (suc k) n at = arguments_below args h.1 k n at

  child_below : (node : Node) (k : ℕ) (n : NodeId) (m : NodeId) → slice_get g m.0 ≡ Some node → slice_get (node_children node) k ≡ Some n → n.0 < length g
  child_below node k n m at at_n =
      let within = slice_get_within g m.0 node at in
      let below : HasChildrenBelow (length g) node = subst (λ (x : Node). HasChildrenBelow (length g) x) (same_Some _ node (sym (slice_get-get_or g m.0 node within) ∙ at)) (closed m.0 node within) in
      subst (λ (q : NodeId). q.0 < length g) (same_Some _ n (sym (slice_get-get_or (node_children node) k n (slice_get_within (node_children node) k n at_n)) ∙ at_n)) (below k n (slice_get_within (node_children node) k n at_n))

  pub class_nodes_below : All (HasChildrenBelow (length g + length added)) added
  class_nodes_below = All-from_slice_get (HasChildrenBelow (length g + length added)) added (λ i node at.
      let rep = slice_get-there list i (omega (arith, are.long, slice_get_within added i node at)) in
      elim (are.each i rep.0 node rep.1 at) [
        | inl of ↦ subst (λ (x : Node). HasChildrenBelow (length g + length added) x) (sym of.is)
            (All-from_slice_get (λ child. child.0 < length g + length added) (map (node_under nodes_of) of.args) (λ k n at_n.
            let less = arguments_below of.args (there_is of.con of.ctor of.args of.stands) k n at_n in
            omega (arith, less, are.long)))
        | inr copied ↦ All-from_slice_get (λ child. child.0 < length g + length added) (node_children node) (λ k n at_n.
            let less = child_below node k n copied.copied copied.at at_n in
            omega (arith, less))
      ])
