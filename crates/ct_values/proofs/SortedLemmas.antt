-- Values by their sorts: each is over the graph, is an element or a constructor over its fields, and has one sort with all
-- that are equal values.
use Rattle.std.proofs.Common.{◌≡◌, ◌⊎◌, inl, inr, ℕ, ◌<◌, List, [], ◌∷◌, length, map, Option, Some, option_map, unwrap_or, slice_get, refl, sym, ap, subst, ◌∙◌, arith}
use Rattle.std.specs.List.{AllZip}
use Rattle.std.proofs.lemmas.Option.{same_Some, slice_get_within}
use Rattle.ct_lemmas.proofs.Options.{option_map-source}
use Rattle.ct_lemmas.proofs.Pairs.{AllZip-at_right}
use Rattle.ct_sorts.specs.declared.ids.CtorId.{CtorId}
use Rattle.ct_sorts.specs.declared.ids.SelId.{SelId}
use Rattle.ct_sorts.specs.declared.ids.SortId.{SortId}
use Rattle.ct_sorts.specs.declared.ids.Kind.{Kind}
use Rattle.ct_sorts.specs.declared.ids.Kind.TheVariants.{Free}
use Rattle.ct_sorts.specs.Declarations.{Declarations, Sort, Constructor, Selector}
use Rattle.ct_sorts.specs.Consistent.{IsConsistent, FitsKind}
use Rattle.ct_sorts.specs.Structure.{AreOfTheirConstructors, AreOfTheirSorts}
use Rattle.ct_values.specs.declared.node.NodeId.{NodeId}
use Rattle.ct_values.specs.declared.node.Node.{Node}
use Rattle.ct_values.specs.declared.node.Node.TheVariants.{Con, Elem}
use Rattle.ct_values.specs.declared.node.Head.{Head}
use Rattle.ct_values.specs.declared.node.Head.TheVariants as heads
use Rattle.ct_values.specs.Graph.{Nodes, node_head, node_children}
use Rattle.ct_values.specs.Value.{Value, Values, reference, element, construct, no_values, with_value, list_of, IsOver, AreOver}
use Rattle.ct_values.specs.Agreement.{point, head_of, children_of, AgreeAlways}
use Rattle.ct_values.specs.Fitting.{node_sort, HasNodeSort, IsNodeOfField, IsElement, FitsGraph}
use Rattle.ct_values.specs.ValueSort.{HasValueSort, AreOfFields}
use Rattle.ct_values.specs.Inversion.{IsValueOfField, IsElementOf, IsConstructed}
use Rattle.ct_values.proofs.AgreeLemmas.{AgreeAlways-parts}

module _ (d : Declarations) (g : Nodes) where
  mutual
    -- a value with a sort is over the graph
    pub HasValueSort-over : (v : Value) (sort : SortId) → HasValueSort d g v sort → IsOver g v
    HasValueSort-over (reference n) sort h = slice_get_within g n.0 h.0 h.1
    HasValueSort-over (element s n) sort h = tt
    HasValueSort-over (construct c vs) sort h = AreOfFields-over vs h.0.sels h.3

    AreOfFields-over : (vs : Values) (ss : List SelId) → AreOfFields d g vs ss → AreOver g vs
    AreOfFields-over no_values ss h = tt
    AreOfFields-over (with_value v vs) [] h = absurd h
    AreOfFields-over (with_value v vs) (s ∷ ss) h = (HasValueSort-over v h.0.0.sort h.0.2, AreOfFields-over vs ss h.1)

  -- the values under a constructor are of the fields one for one
  fields_each : (vs : Values) (ss : List SelId) → AreOfFields d g vs ss → AllZip (IsValueOfField d g) (list_of vs) ss
  fields_each no_values [] h = tt
  fields_each no_values (s ∷ ss) h = absurd h
  fields_each (with_value v vs) [] h = absurd h
  fields_each (with_value v vs) (s ∷ ss) h =
      (record { selector = h.0.0; declared = h.0.1; sorted = h.0.2 }, fields_each vs ss h.1)

  fields_all : (vs : Values) (ss : List SelId) → AllZip (IsValueOfField d g) (list_of vs) ss → AreOfFields d g vs ss
  fields_all no_values [] h = tt
  fields_all no_values (s ∷ ss) h = absurd h
  fields_all (with_value v vs) [] h = absurd h
  fields_all (with_value v vs) (s ∷ ss) h = ((h.0.selector, h.0.declared, h.0.sorted), fields_all vs ss h.1)

  -- so are references to nodes of the fields
  fields_of_nodes : (ns : List NodeId) (ss : List SelId) → AllZip (IsNodeOfField d g) ns ss → AllZip (IsValueOfField d g) (map reference ns) ss
  fields_of_nodes [] [] h = tt
  fields_of_nodes [] (s ∷ ss) h = absurd h
  fields_of_nodes (n ∷ ns) [] h = absurd h
  fields_of_nodes (n ∷ ns) (s ∷ ss) h =
      (record { selector = h.0.selector; declared = h.0.declared; sorted = h.0.sorted }, fields_of_nodes ns ss h.1)

  -- the children of a reference to a node
  children_of_node : (n : NodeId) (node : Node) → slice_get g n.0 ≡ Some node → children_of g (reference n) ≡ map reference (node_children node)
  children_of_node n node at = ap (λ (o : Option Node). map reference (unwrap_or (option_map node_children o) [])) at

  -- what a node is
  node_inverted : FitsGraph d g → (n : NodeId) (node : Node) (sort : SortId) → slice_get g n.0 ≡ Some node → node_sort d node ≡ Some sort → ((number : ℕ) × IsElementOf d g (reference n) number sort) ⊎ ((c : CtorId) × IsConstructed d g (reference n) c sort)
  node_inverted fits n (Con c ns) sort at is =
      let built = fits n.0 (Con c ns) at in
      inr (
        c,
        record {
          headed = ap (option_map node_head) at;
          ctor = built.ctor;
          declared = built.declared;
          of_sort = same_Some built.ctor.sort sort (sym (ap (option_map (λ (k : Constructor). k.sort)) built.declared) ∙ is);
          fields = subst (λ (vs : List Value). AllZip (IsValueOfField d g) vs built.ctor.sels) (sym (children_of_node n (Con c ns) at)) (fields_of_nodes ns built.ctor.sels built.fields);
        },
      )
  node_inverted fits n (Elem s number) sort at is =
      let same : s ≡ sort = same_Some s sort is in
      inl (
        number,
        record {
          headed = ap (option_map node_head) at ∙ ap (λ (t : SortId). Some (heads.Elem t number)) same;
          childless = children_of_node n (Elem s number) at;
          uninterpreted = subst (λ (t : SortId). IsElement d t.0) same (fits n.0 (Elem s number) at);
        },
      )

  -- what a value is
  pub inverted : FitsGraph d g → (v : Value) (sort : SortId) → HasValueSort d g v sort → ((number : ℕ) × IsElementOf d g v number sort) ⊎ ((c : CtorId) × IsConstructed d g v c sort)
  inverted fits (reference n) sort h = node_inverted fits n h.0 sort h.1 h.2
  inverted fits (element s number) sort h =
      inl (
        number,
        record {
          headed = ap (λ (t : SortId). Some (heads.Elem t number)) h.1;
          childless = refl;
          uninterpreted = subst (λ (t : SortId). IsElement d t.0) h.1 h.0;
        },
      )
  inverted fits (construct c vs) sort h =
      inr (c, record { headed = refl; ctor = h.0; declared = h.1; of_sort = h.2; fields = fields_each vs h.0.sels h.3 })

-- the sort of a head
abbrev head_sort : Declarations → Head → Option SortId
head_sort d (heads.Con c) = option_map (λ ctor. ctor.sort) (slice_get d.ctors c.0)
head_sort d (heads.Elem s n) = Some s

node_sort_by_head : (d : Declarations) (node : Node) → node_sort d node ≡ head_sort d (node_head node)
node_sort_by_head d (Con c children) = refl
node_sort_by_head d (Elem s n) = refl

-- a node has the sort of its head
sorted_by_head : (d : Declarations) (g : Nodes) (n : NodeId) (h : Head) (s : SortId) → head_of g (reference n) ≡ Some h → head_sort d h ≡ Some s → HasNodeSort d g n s
sorted_by_head d g n h s is sort =
    let node = option_map-source node_head (slice_get g n.0) h is in
    (node.0, node.1, node_sort_by_head d node.0 ∙ ap (head_sort d) node.2 ∙ sort)

-- and so has a value
head_sorted : (d : Declarations) (g : Nodes) (v : Value) (sort : SortId) → HasValueSort d g v sort → (h : Head) × (head_of g v ≡ Some h) × (head_sort d h ≡ Some sort)
head_sorted d g (reference n) sort h = (node_head h.0, ap (option_map node_head) h.1, sym (node_sort_by_head d h.0) ∙ h.2)
head_sorted d g (element s n) sort h = (heads.Elem s n, refl, ap Some h.1)
head_sorted d g (construct c vs) sort h = (heads.Con c, refl, ap (option_map (λ (k : Constructor). k.sort)) h.1 ∙ ap Some h.2)

-- values with one head have one sort
pub one_head : (d : Declarations) (g h : Nodes) (v w : Value) (s t : SortId) → HasValueSort d g v s → HasValueSort d h w t → head_of g v ≡ head_of h w → s ≡ t
one_head d g h v w s t left right heads_alike =
    let x = head_sorted d g v s left in
    let y = head_sorted d h w t right in
    let same : x.0 ≡ y.0 = same_Some x.0 y.0 (sym x.1 ∙ heads_alike ∙ y.1) in
    same_Some s t (sym x.2 ∙ ap (head_sort d) same ∙ y.2)

module _ (d : Declarations) (g : Nodes) where
  -- an element of a sort has the sort
  pub element_sorted : (v : Value) (number : ℕ) (sort : SortId) → IsElementOf d g v number sort → HasValueSort d g v sort
  element_sorted (reference n) number sort is = sorted_by_head d g n (heads.Elem sort number) sort is.headed refl
  element_sorted (element s m) number sort is =
      let same : s ≡ sort = let e : Some (heads.Elem s m) ≡ Some (heads.Elem sort number) = is.headed in cc in
      (subst (λ (t : SortId). IsElement d t.0) (sym same) is.uninterpreted, same)
  element_sorted (construct c vs) number sort is =
      let e : Some (heads.Con c) ≡ Some (heads.Elem sort number) = is.headed in absurd (cc)

  -- so has what a constructor of the sort builds
  pub constructed_sorted : (v : Value) (c : CtorId) (sort : SortId) → IsConstructed d g v c sort → HasValueSort d g v sort
  constructed_sorted (reference n) c sort is =
      sorted_by_head d g n (heads.Con c) sort is.headed (ap (option_map (λ (k : Constructor). k.sort)) is.declared ∙ ap Some is.of_sort)
  constructed_sorted (element s m) c sort is =
      let e : Some (heads.Elem s m) ≡ Some (heads.Con c) = is.headed in absurd (cc)
  constructed_sorted (construct k vs) c sort is =
      let same : k ≡ c = let e : Some (heads.Con k) ≡ Some (heads.Con c) = is.headed in cc in
      (is.ctor, ap (λ (j : CtorId). slice_get d.ctors j.0) same ∙ is.declared, is.of_sort, fields_all d g vs is.ctor.sels is.fields)

  module _ (fits : FitsGraph d g) where
    -- a value whose head is an element
    pub with_element : (v : Value) (sort s : SortId) (number : ℕ) → HasValueSort d g v sort → head_of g v ≡ Some (heads.Elem s number) → (s ≡ sort) × IsElementOf d g v number sort
    with_element v sort s number sorted headed = by (inverted d g fits v sort sorted)
      where
        by : ((k : ℕ) × IsElementOf d g v k sort) ⊎ ((c : CtorId) × IsConstructed d g v c sort) → (s ≡ sort) × IsElementOf d g v number sort
        by (inl is) =
            let e : heads.Elem s number ≡ heads.Elem sort is.0 = same_Some (heads.Elem s number) (heads.Elem sort is.0) (sym headed ∙ is.1.headed) in
            let same : is.0 ≡ number = cc in
            (cc, subst (λ (k : ℕ). IsElementOf d g v k sort) same is.1)
        by (inr is) =
            let e : heads.Elem s number ≡ heads.Con is.0 = same_Some (heads.Elem s number) (heads.Con is.0) (sym headed ∙ is.1.headed) in absurd (cc)

    -- a value whose head is a constructor
    pub with_ctor : (v : Value) (sort : SortId) (c : CtorId) → HasValueSort d g v sort → head_of g v ≡ Some (heads.Con c) → IsConstructed d g v c sort
    with_ctor v sort c sorted headed = by (inverted d g fits v sort sorted)
      where
        by : ((k : ℕ) × IsElementOf d g v k sort) ⊎ ((k : CtorId) × IsConstructed d g v k sort) → IsConstructed d g v c sort
        by (inl is) =
            let e : heads.Con c ≡ heads.Elem sort is.0 = same_Some (heads.Con c) (heads.Elem sort is.0) (sym headed ∙ is.1.headed) in absurd (cc)
        by (inr is) =
            let e : heads.Con c ≡ heads.Con is.0 = same_Some (heads.Con c) (heads.Con is.0) (sym headed ∙ is.1.headed) in
            let same : is.0 ≡ c = cc in
            subst (λ (k : CtorId). IsConstructed d g v k sort) same is.1

-- a value that is built by the constructor of a selector has a child at the selector's place, of its field's sort
pub field_there : (d : Declarations) (g : Nodes) (v : Value) (sort : SortId) (s : SelId) (selector : Selector) → AreOfTheirConstructors d → FitsGraph d g → slice_get d.sels s.0 ≡ Some selector → HasValueSort d g v sort → head_of g v ≡ Some (heads.Con selector.ctor) → (w : Value) × (slice_get (children_of g v) selector.place ≡ Some w) × HasValueSort d g w selector.sort
field_there d g v sort s selector own fits declared sorted headed =
    let built = with_ctor d g fits v sort selector.ctor sorted headed in
    let ctor = own s.0 selector declared in
    let same : built.ctor ≡ ctor.0 = same_Some built.ctor ctor.0 (sym built.declared ∙ ctor.1) in
    let at : slice_get built.ctor.sels selector.place ≡ Some s = subst (λ (k : Constructor). slice_get k.sels selector.place ≡ Some s) (sym same) ctor.2 in
    let child = AllZip-at_right (IsValueOfField d g) (children_of g v) built.ctor.sels selector.place s built.fields at in
    let one : child.2.selector ≡ selector = same_Some child.2.selector selector (sym child.2.declared ∙ declared) in
    (child.0, child.1, subst (λ (f : Selector). HasValueSort d g child.0 f.sort) one child.2.sorted)

-- ---- values that agree have one sort

module _ (d : Declarations) (g h : Nodes) (fits : FitsGraph d g) where
  mutual
    pub agreeing_sorted : (v w : Value) (sort : SortId) → HasValueSort d g v sort → AgreeAlways (point g v) (point h w) → HasValueSort d h w sort
    agreeing_sorted v (reference n) sort sorted alike =
        let parts = (AgreeAlways-parts (point g v) (point h (reference n))).0 alike in
        let x = head_sorted d g v sort sorted in
        sorted_by_head d h n x.0 sort (sym parts.0 ∙ x.1) x.2
    agreeing_sorted v (element s number) sort sorted alike =
        let parts = (AgreeAlways-parts (point g v) (point h (element s number))).0 alike in
        let is = with_element d g fits v sort s number sorted parts.0 in
        (subst (λ (t : SortId). IsElement d t.0) (sym is.0) is.1.uninterpreted, is.0)
    agreeing_sorted v (construct c ws) sort sorted alike =
        let parts = (AgreeAlways-parts (point g v) (point h (construct c ws))).0 alike in
        let is = with_ctor d g fits v sort c sorted parts.0 in
        (is.ctor, is.declared, is.of_sort, agreeing_fields (children_of g v) ws is.ctor.sels is.fields parts.1)

    agreeing_fields : (vs : List Value) (ws : Values) (ss : List SelId) → AllZip (IsValueOfField d g) vs ss → AllZip AgreeAlways (map (point g) vs) (map (point h) (list_of ws)) → AreOfFields d h ws ss
    agreeing_fields [] no_values [] fields alike = tt
    agreeing_fields [] no_values (s ∷ ss) fields alike = absurd fields
    agreeing_fields [] (with_value w ws) ss fields alike = absurd alike
    agreeing_fields (v ∷ vs) no_values ss fields alike = absurd alike
    agreeing_fields (v ∷ vs) (with_value w ws) [] fields alike = absurd fields
    agreeing_fields (v ∷ vs) (with_value w ws) (s ∷ ss) fields alike = (
      (fields.0.selector, fields.0.declared, agreeing_sorted v w fields.0.selector.sort fields.0.sorted alike.0),
      agreeing_fields vs ws ss fields.1 alike.1,
    )

-- ---- by the kind of the sort

-- a value of a sort that is not uninterpreted is built by a constructor
pub not_element : (d : Declarations) (g : Nodes) (v : Value) (s : SortId) (sort : Sort) → FitsGraph d g → HasValueSort d g v s → slice_get d.sorts s.0 ≡ Some sort → (sort.kind ≡ Free → ⊥) → (c : CtorId) × IsConstructed d g v c s
not_element d g v s sort fits sorted declared other = by (inverted d g fits v s sorted)
  where
    by : ((k : ℕ) × IsElementOf d g v k s) ⊎ ((c : CtorId) × IsConstructed d g v c s) → (c : CtorId) × IsConstructed d g v c s
    by (inl is) =
        let of = is.1.uninterpreted in
        let same : of.sort ≡ sort = same_Some of.sort sort (sym of.declared ∙ declared) in
        absurd (other (ap (λ (x : Sort). x.kind) (sym same) ∙ of.free))
    by (inr is) = is

-- and one of an uninterpreted sort is an element of it
pub is_element : (d : Declarations) (g : Nodes) (v : Value) (s : SortId) (sort : Sort) → IsConsistent d → AreOfTheirSorts d → FitsGraph d g → HasValueSort d g v s → slice_get d.sorts s.0 ≡ Some sort → sort.kind ≡ Free → (number : ℕ) × IsElementOf d g v number s
is_element d g v s sort consistent own fits sorted declared free = by (inverted d g fits v s sorted)
  where
    by : ((k : ℕ) × IsElementOf d g v k s) ⊎ ((c : CtorId) × IsConstructed d g v c s) → (number : ℕ) × IsElementOf d g v number s
    by (inl is) = is
    by (inr is) =
        let of = own is.0.0 is.1.ctor is.1.declared in
        let same : of.0 ≡ sort = same_Some of.0 sort (sym of.2 ∙ ap (λ (t : SortId). slice_get d.sorts t.0) is.1.of_sort ∙ declared) in
        let at : slice_get sort.ctors of.1 ≡ Some is.0 = subst (λ (x : Sort). slice_get x.ctors of.1 ≡ Some is.0) same of.3 in
        let none : length sort.ctors ≡ 0 = subst (λ (k : Kind). FitsKind s.0 k (length sort.ctors)) free (consistent.kinds s.0 sort declared) in
        let within : of.1 < length sort.ctors = slice_get_within sort.ctors of.1 is.0 at in
        absurd (omega (arith, none, within))
