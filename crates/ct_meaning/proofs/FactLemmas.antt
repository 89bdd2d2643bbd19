-- A well-formed interpretation has what the theorems on meanings rest on.
use Rattle.std.proofs.Common.{◌≡◌, ◌⊎◌, ℕ, List, [], ◌∷◌, map, All, Contains, Option, Some, option_map, unwrap_or, slice_get, refl, sym, ap, subst, ◌∙◌, inl, inr}
use Rattle.std.specs.List.{AllZip}
use Rattle.std.proofs.lemmas.Option.{same_Some}
use Rattle.ct_sorts.specs.declared.ids.CtorId.{CtorId}
use Rattle.ct_sorts.specs.declared.ids.SelId.{SelId}
use Rattle.ct_sorts.specs.declared.ids.SortId.{SortId}
use Rattle.ct_sorts.specs.declared.ids.Kind.TheVariants.{Data, Codata}
use Rattle.ct_sorts.specs.Declarations.{Declarations, Sort, Constructor, Selector, bool_sort}
use Rattle.ct_sorts.specs.Consistent.{IsConsistent}
use Rattle.ct_sorts.specs.Structure.{HaveOwnSelectors, AreOfTheirSorts}
use Rattle.ct_values.specs.declared.node.NodeId.{NodeId}
use Rattle.ct_values.specs.declared.node.Node.{Node}
use Rattle.ct_values.specs.declared.node.Node.TheVariants.{Con, Elem}
use Rattle.ct_values.specs.declared.node.Head.TheVariants as heads
use Rattle.ct_values.specs.Graph.{Nodes, IsClosed, node_head, node_children}
use Rattle.ct_values.specs.Value.{Value, Values, reference, element, construct, no_values, with_value, list_of, values_of}
use Rattle.ct_values.specs.Agreement.{point, head_of, children_of, AgreeAlways}
use Rattle.ct_values.specs.Fitting.{HasNodeSort, IsElement, IsNodeOfField, FitsGraph, node_sort}
use Rattle.ct_values.specs.TruthValue.{truth, is_true}
use Rattle.ct_values.specs.ValueSort.{HasValueSort, AreOfFields}
use Rattle.ct_terms.specs.CoreSorts.{AreFieldSorts, HasTreeSort}
use Rattle.ct_listing.specs.Closed.{ClosedValue, IsClosedOf, value_of, term_of}
use Rattle.ct_listing.specs.Listable.{IsListable}
use Rattle.ct_formulas.specs.Choices.{choices_of}
use Rattle.ct_eval.specs.declared.interp.Interp.{Interp}
use Rattle.ct_eval.specs.Interpretation.{IsProper}
use Rattle.ct_eval.specs.EvaluationStep.{Theorems}
use Rattle.ct_meaning.specs.Meaning.{Agree}
use Rattle.ct_eval.proofs.ValueLemmas.{SortTheorems, truth_sorted, given_sorted, select_sorted}
use Rattle.ct_meaning.proofs.MeaningFacts.{Facts}

-- lists of values that go together go together as points
points_from : (g : Nodes) (vs ws : List Value) → AllZip (λ v w. AgreeAlways (point g v) (point g w)) vs ws → AllZip AgreeAlways (map (point g) (list_of (values_of vs))) (map (point g) (list_of (values_of ws)))
points_from g [] [] h = tt
points_from g [] (w ∷ ws) h = absurd h
points_from g (v ∷ vs) [] h = absurd h
points_from g (v ∷ vs) (w ∷ ws) h = (h.0, points_from g vs ws h.1)

values_from : (g : Nodes) (vs ws : List Value) → AllZip AgreeAlways (map (point g) vs) (map (point g) ws) → AllZip (λ v w. AgreeAlways (point g v) (point g w)) vs ws
values_from g [] [] h = tt
values_from g [] (w ∷ ws) h = absurd h
values_from g (v ∷ vs) [] h = absurd h
values_from g (v ∷ vs) (w ∷ ws) h = (h.0, values_from g vs ws h.1)

module _ (d : Declarations) (g : Nodes) where
  -- values of the sorts of fields are values of the fields, and back
  of_fields : (sels : List SelId) (sorts : List SortId) (vs : List Value) → AreFieldSorts d sels sorts → AllZip (HasValueSort d g) vs sorts → AreOfFields d g (values_of vs) sels
  of_fields [] [] [] fields h = tt
  of_fields [] [] (v ∷ vs) fields h = absurd h
  of_fields [] (s ∷ sorts) vs fields h = absurd fields
  of_fields (r ∷ sels) [] vs fields h = absurd fields
  of_fields (r ∷ sels) (s ∷ sorts) [] fields h = absurd h
  of_fields (r ∷ sels) (s ∷ sorts) (v ∷ vs) fields h =
      ((fields.0.0, fields.0.1, subst (HasValueSort d g v) (sym fields.0.2) h.0), of_fields sels sorts vs fields.1 h.1)

  of_sorts : (vs : Values) (sels : List SelId) (sorts : List SortId) → AreFieldSorts d sels sorts → AreOfFields d g vs sels → AllZip (HasValueSort d g) (list_of vs) sorts
  of_sorts no_values [] [] fields h = tt
  of_sorts no_values [] (s ∷ sorts) fields h = absurd fields
  of_sorts no_values (r ∷ sels) sorts fields h = absurd h
  of_sorts (with_value v vs) [] sorts fields h = absurd h
  of_sorts (with_value v vs) (r ∷ sels) [] fields h = absurd fields
  of_sorts (with_value v vs) (r ∷ sels) (s ∷ sorts) fields h =
      let same : h.0.0.sort ≡ s = ap (λ (f : Selector). f.sort) (same_Some h.0.0 fields.0.0 (sym h.0.1 ∙ fields.0.1)) ∙ fields.0.2 in
      (subst (HasValueSort d g v) same h.0.2, of_sorts vs sels sorts fields.1 h.1)

  nodes_of_sorts : (ns : List NodeId) (sels : List SelId) (sorts : List SortId) → AreFieldSorts d sels sorts → AllZip (IsNodeOfField d g) ns sels → AllZip (HasValueSort d g) (map reference ns) sorts
  nodes_of_sorts [] [] [] fields h = tt
  nodes_of_sorts [] [] (s ∷ sorts) fields h = absurd fields
  nodes_of_sorts [] (r ∷ sels) sorts fields h = absurd h
  nodes_of_sorts (n ∷ ns) [] sorts fields h = absurd h
  nodes_of_sorts (n ∷ ns) (r ∷ sels) [] fields h = absurd fields
  nodes_of_sorts (n ∷ ns) (r ∷ sels) (s ∷ sorts) fields h =
      let same : h.0.selector.sort ≡ s = ap (λ (f : Selector). f.sort) (same_Some h.0.selector fields.0.0 (sym h.0.declared ∙ fields.0.1)) ∙ fields.0.2 in
      (subst (HasNodeSort d g n) same h.0.sorted, nodes_of_sorts ns sels sorts fields.1 h.1)

  -- what a value of a sort is headed by, where the sort is a datatype or a codatatype
  abbrev Matched : Value → SortId → Type 0
  Matched v s = (c : CtorId) × (ctor : Constructor) × (head_of g v ≡ Some (heads.Con c)) × (slice_get d.ctors c.0 ≡ Some ctor) × (ctor.sort ≡ s)

  not_free : (s : ℕ) (sort : Sort) → slice_get d.sorts s ≡ Some sort → (sort.kind ≡ Data) ⊎ (sort.kind ≡ Codata) → IsElement d s → ⊥
  not_free s sort at (inl data_) free = cc (data_, free.free, same_Some free.sort sort (sym free.declared ∙ at))
  not_free s sort at (inr codata) free = cc (codata, free.free, same_Some free.sort sort (sym free.declared ∙ at))

  matched_node : FitsGraph d g → (n : NodeId) (node : Node) (s : SortId) (sort : Sort) → slice_get g n.0 ≡ Some node → node_sort d node ≡ Some s → slice_get d.sorts s.0 ≡ Some sort → (sort.kind ≡ Data) ⊎ (sort.kind ≡ Codata) → Matched (reference n) s
  matched_node fits n (Con c ns) s sort at sorted there kind =
      let built = fits n.0 (Con c ns) at in
      (c, built.ctor, ap (option_map node_head) at, built.declared, same_Some built.ctor.sort s (sym (ap (option_map (λ (k : Constructor). k.sort)) built.declared) ∙ sorted))
  matched_node fits n (Elem t m) s sort at sorted there kind =
      absurd (not_free t.0 sort (ap (λ (r : SortId). slice_get d.sorts r.0) (same_Some t s sorted) ∙ there) kind (fits n.0 (Elem t m) at))

  matched_value : FitsGraph d g → (v : Value) (s : SortId) (sort : Sort) → HasValueSort d g v s → slice_get d.sorts s.0 ≡ Some sort → (sort.kind ≡ Data) ⊎ (sort.kind ≡ Codata) → Matched v s
  matched_value fits (reference n) s sort h there kind = matched_node fits n h.0 s sort h.1 h.2 there kind
  matched_value fits (element t m) s sort h there kind = absurd (not_free t.0 sort (ap (λ (r : SortId). slice_get d.sorts r.0) h.1 ∙ there) kind h.0)
  matched_value fits (construct c vs) s sort h there kind = (c, h.0, refl, h.1, h.2)

  -- the children of a value that a constructor heads are of the constructor's fields
  fields_node : FitsGraph d g → (n : NodeId) (node : Node) (c : CtorId) (ctor : Constructor) (sorts : List SortId) → slice_get g n.0 ≡ Some node → Some (node_head node) ≡ Some (heads.Con c) → slice_get d.ctors c.0 ≡ Some ctor → AreFieldSorts d ctor.sels sorts → AllZip (HasValueSort d g) (map reference (node_children node)) sorts
  fields_node fits n (Con k ns) c ctor sorts at head declared fields =
      let built = fits n.0 (Con k ns) at in
      let one : k ≡ c = con_is k c (same_Some (heads.Con k) (heads.Con c) head) in
      let same : built.ctor ≡ ctor = same_Some built.ctor ctor (sym built.declared ∙ ap (λ (j : CtorId). slice_get d.ctors j.0) one ∙ declared) in
      nodes_of_sorts ns ctor.sels sorts fields (subst (λ (k' : Constructor). AllZip (IsNodeOfField d g) ns k'.sels) same built.fields)
    where
      con_is : (k c : CtorId) → heads.Con k ≡ heads.Con c → k ≡ c
      con_is k c e = cc e
  fields_node fits n (Elem t m) c ctor sorts at head declared fields = cc (same_Some (heads.Elem t m) (heads.Con c) head)

  fields_value : FitsGraph d g → (v : Value) (s : SortId) (c : CtorId) (ctor : Constructor) (sorts : List SortId) → HasValueSort d g v s → head_of g v ≡ Some (heads.Con c) → slice_get d.ctors c.0 ≡ Some ctor → AreFieldSorts d ctor.sels sorts → AllZip (HasValueSort d g) (children_of g v) sorts
  fields_value fits (reference n) s c ctor sorts h head declared fields =
      subst (λ (o : Option Node). AllZip (HasValueSort d g) (map reference (unwrap_or (option_map node_children o) [])) sorts) (sym h.1)
      (fields_node fits n h.0 c ctor sorts h.1 (sym (ap (option_map node_head) h.1) ∙ head) declared fields)
  fields_value fits (element t m) s c ctor sorts h head declared fields = cc (same_Some (heads.Elem t m) (heads.Con c) head)
  fields_value fits (construct k vs) s c ctor sorts h head declared fields =
      let one : k ≡ c = con_is k c (same_Some (heads.Con k) (heads.Con c) head) in
      let same : h.0 ≡ ctor = same_Some h.0 ctor (sym h.1 ∙ ap (λ (j : CtorId). slice_get d.ctors j.0) one ∙ declared) in
      of_sorts vs ctor.sels sorts fields (subst (λ (k' : Constructor). AreOfFields d g vs k'.sels) same h.3)
    where
      con_is : (k c : CtorId) → heads.Con k ≡ heads.Con c → k ≡ c
      con_is k c e = cc e

-- what is known of the values of listable sorts
pub record IsListed (d : Declarations) (i : Interp) : Type 0 where
  pub chosen : (sorts : List SortId) (vs : List ClosedValue) → All (IsListable d) sorts → Contains (choices_of d sorts) vs → AllZip (IsClosedOf d) vs sorts
  pub closed_term : (v : ClosedValue) (s : SortId) → IsClosedOf d v s → HasTreeSort d (term_of v) s
  pub closed_value : (v : ClosedValue) (s : SortId) → IsClosedOf d v s → HasValueSort d i.graph (value_of v) s

pub facts_of : Theorems → SortTheorems → (d : Declarations) (i : Interp) → IsClosed i.graph → IsConsistent d → IsProper d i → HaveOwnSelectors d → AreOfTheirSorts d → ((v : Value) → HasValueSort d i.graph v bool_sort → Agree i v (truth (is_true i.graph v))) → IsListed d i → Facts d i
facts_of theorems sorts d i closed consistent proper own_selectors of_their_sorts boolean listed = record {
  itself = λ v. theorems.itself (point i.graph v);
  turned = λ v w. theorems.turned (point i.graph v) (point i.graph w);
  chained = λ u v w. theorems.chained (point i.graph u) (point i.graph v) (point i.graph w);
  one_head = λ v w h. ((theorems.always (point i.graph v) (point i.graph w)).0 h).0;
  children = λ v w h. values_from i.graph (children_of i.graph v) (children_of i.graph w) ((theorems.always (point i.graph v) (point i.graph w)).0 h).1;
  joined = λ c vs ws h. (theorems.always (point i.graph (construct c (values_of vs))) (point i.graph (construct c (values_of ws)))).1 (refl, points_from i.graph vs ws h);
  decided = λ v w. theorems.every_depth (point i.graph v) (point i.graph w) closed closed;
  boolean = boolean;
  truth_sorted = truth_sorted sorts d i consistent proper;
  given_sorted = given_sorted sorts d i consistent proper;
  select_sorted = select_sorted sorts d i consistent proper;
  construct_sorted = λ c ctor sorts vs declared fields h. (ctor, declared, refl, of_fields d i.graph ctor.sels sorts vs fields h);
  matched = matched_value d i.graph proper.graph.fits;
  fields = fields_value d i.graph proper.graph.fits;
  chosen = listed.chosen;
  closed_term = listed.closed_term;
  closed_value = listed.closed_value;
  own_selectors = own_selectors;
  of_their_sorts = of_their_sorts;
}
