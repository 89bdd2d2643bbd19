-- Nodes and values keep their sorts where the graph grows and where more is declared, and so a graph fits.
use Rattle.std.proofs.Common.{◌≡◌, ℕ, ◌<◌, List, [], ◌∷◌, ◌++◌, length, get_or, Some, option_map, slice_get, refl, sym, ap, subst, ◌∙◌, arith}
use Rattle.std.specs.List.{AllZip}
use Rattle.std.proofs.lemmas.Option.{same_Some, slice_get_within, slice_get-get_or}
use Rattle.std.proofs.lemmas.List.Elements.{All-from_recursion}
use Rattle.std.specs.List.{AllByRecursion}
use Rattle.ct_lemmas.proofs.Lists.{slice_get-append_left}
use Rattle.ct_lemmas.proofs.Options.{option_map-source}
use Rattle.ct_sorts.specs.declared.ids.SelId.{SelId}
use Rattle.ct_sorts.specs.declared.ids.SortId.{SortId}
use Rattle.ct_sorts.specs.Declarations.{Declarations, Sort, Constructor}
use Rattle.ct_sorts.specs.Structure.{AreOfTheirSorts}
use Rattle.ct_sorts.specs.Grown.{Begins, Extends}
use Rattle.ct_values.specs.declared.node.NodeId.{NodeId}
use Rattle.ct_values.specs.declared.node.Node.{Node}
use Rattle.ct_values.specs.declared.node.Node.TheVariants.{Con, Elem}
use Rattle.ct_values.specs.Graph.{Nodes, IsClosed, HasChildrenBelow}
use Rattle.ct_values.specs.Value.{Value, Values, reference, element, construct, no_values, with_value}
use Rattle.ct_values.specs.Fitting.{node_sort, HasNodeSort, IsNodeOfField, IsElement, FitsNode, FitsGraph}
use Rattle.ct_values.specs.ValueSort.{HasValueSort, AreOfFields}
use Rattle.ct_values.specs.WellFormed.{IsData, IsWellFormedGraph}

-- ---- longer graphs

-- a node keeps its sort
pub node_longer : (d : Declarations) (g more : Nodes) (n : NodeId) (s : SortId) → HasNodeSort d g n s → HasNodeSort d (g ++ more) n s
node_longer d g more n s h = (h.0, slice_get-append_left g more n.0 h.0 h.1, h.2)

module _ (d : Declarations) (g more : Nodes) where
  mutual
    -- and so does a value
    pub value_longer : (v : Value) (s : SortId) → HasValueSort d g v s → HasValueSort d (g ++ more) v s
    value_longer (reference n) s h = node_longer d g more n s h
    value_longer (element t n) s h = h
    value_longer (construct c vs) s h = (h.0, h.1, h.2, fields_longer vs h.0.sels h.3)

    fields_longer : (vs : Values) (ss : List SelId) → AreOfFields d g vs ss → AreOfFields d (g ++ more) vs ss
    fields_longer no_values [] h = tt
    fields_longer no_values (s ∷ ss) h = absurd h
    fields_longer (with_value v vs) [] h = absurd h
    fields_longer (with_value v vs) (s ∷ ss) h = ((h.0.0, h.0.1, value_longer v h.0.0.sort h.0.2), fields_longer vs ss h.1)

-- ---- a graph that fits is closed

-- children of fields are nodes of the graph
fields_within : (d : Declarations) (g : Nodes) (ns : List NodeId) (ss : List SelId) → AllZip (IsNodeOfField d g) ns ss → AllByRecursion (λ n. n.0 < length g) ns
fields_within d g [] ss h = tt
fields_within d g (n ∷ ns) [] h = absurd h
fields_within d g (n ∷ ns) (s ∷ ss) h = (slice_get_within g n.0 h.0.sorted.0 h.0.sorted.1, fields_within d g ns ss h.1)

node_closed : (d : Declarations) (g : Nodes) (node : Node) → FitsNode d g node → HasChildrenBelow (length g) node
node_closed d g (Con c ns) fits = All-from_recursion (λ n. n.0 < length g) ns (fields_within d g ns fits.ctor.sels fits.fields)
node_closed d g (Elem s n) fits = λ k e within. absurd (omega (arith, within))

pub fits_closed : (d : Declarations) (g : Nodes) → FitsGraph d g → IsClosed g
fits_closed d g fits k e within = node_closed d g (get_or g k e) (fits k (get_or g k e) (slice_get-get_or g k e within))

-- ---- further declarations

-- what is declared stays
stays : {X : Type 0} (first second : List X) (k : ℕ) (x : X) → Begins first second → slice_get first k ≡ Some x → slice_get second k ≡ Some x
stays first second k x begins at =
    subst (λ xs. slice_get xs k ≡ Some x) (sym begins.1) (slice_get-append_left first begins.0 k x at)

module _ (later earlier : Declarations) (more : Extends later earlier) where
  -- a node keeps its sort
  sort_stays : (node : Node) (s : SortId) → node_sort earlier node ≡ Some s → node_sort later node ≡ Some s
  sort_stays (Con c ns) s h =
      let ctor = option_map-source (λ (k : Constructor). k.sort) (slice_get earlier.ctors c.0) s h in
      ap (option_map (λ (k : Constructor). k.sort)) (stays earlier.ctors later.ctors c.0 ctor.0 more.ctors ctor.1) ∙ ap Some ctor.2
  sort_stays (Elem t n) s h = h

  element_stays : (s : ℕ) → IsElement earlier s → IsElement later s
  element_stays s h = record { sort = h.sort; declared = stays earlier.sorts later.sorts s h.sort more.sorts h.declared; free = h.free }

  module _ (g : Nodes) where
    pub node_lasting : (n : NodeId) (s : SortId) → HasNodeSort earlier g n s → HasNodeSort later g n s
    node_lasting n s h = (h.0, h.1, sort_stays h.0 s h.2)

    mutual
      -- and so does a value
      pub value_lasting : (v : Value) (s : SortId) → HasValueSort earlier g v s → HasValueSort later g v s
      value_lasting (reference n) s h = node_lasting n s h
      value_lasting (element t n) s h = (element_stays t.0 h.0, h.1)
      value_lasting (construct c vs) s h =
          (h.0, stays earlier.ctors later.ctors c.0 h.0 more.ctors h.1, h.2, fields_lasting vs h.0.sels h.3)

      fields_lasting : (vs : Values) (ss : List SelId) → AreOfFields earlier g vs ss → AreOfFields later g vs ss
      fields_lasting no_values [] h = tt
      fields_lasting no_values (s ∷ ss) h = absurd h
      fields_lasting (with_value v vs) [] h = absurd h
      fields_lasting (with_value v vs) (s ∷ ss) h = (
        (h.0.0, stays earlier.sels later.sels s.0 h.0.0 more.sels h.0.1, value_lasting v h.0.0.sort h.0.2),
        fields_lasting vs ss h.1,
      )

    -- a graph still fits
    children_lasting : (ns : List NodeId) (ss : List SelId) → AllZip (IsNodeOfField earlier g) ns ss → AllZip (IsNodeOfField later g) ns ss
    children_lasting [] [] h = tt
    children_lasting [] (s ∷ ss) h = absurd h
    children_lasting (n ∷ ns) [] h = absurd h
    children_lasting (n ∷ ns) (s ∷ ss) h =
        let one : IsNodeOfField later g n s = record {
          selector = h.0.selector;
          declared = stays earlier.sels later.sels s.0 h.0.selector more.sels h.0.declared;
          sorted = node_lasting n h.0.selector.sort h.0.sorted;
        } in
        (one, children_lasting ns ss h.1)

    fits_stays : (node : Node) → FitsNode earlier g node → FitsNode later g node
    fits_stays (Con c ns) h = record {
      ctor = h.ctor;
      declared = stays earlier.ctors later.ctors c.0 h.ctor more.ctors h.declared;
      fields = children_lasting ns h.ctor.sels h.fields;
    }
    fits_stays (Elem s n) h = element_stays s.0 h

    pub graph_lasting : FitsGraph earlier g → FitsGraph later g
    graph_lasting fits n node at = fits_stays node (fits n node at)

    -- the sort of a node that fits was declared with it
    old_sort : AreOfTheirSorts earlier → (node : Node) → FitsNode earlier g node → (s : SortId) × (sort : Sort) × (node_sort earlier node ≡ Some s) × (slice_get earlier.sorts s.0 ≡ Some sort)
    old_sort own (Con c ns) h =
        let of = own c.0 h.ctor h.declared in
        (h.ctor.sort, of.0, ap (option_map (λ (k : Constructor). k.sort)) h.declared, of.2)
    old_sort own (Elem s n) h = (s, h.sort, refl, h.declared)

    -- so a node of a datatype was one before
    data_before : AreOfTheirSorts earlier → FitsGraph earlier g → (n : NodeId) → IsData later g n → IsData earlier g n
    data_before own fits n h =
        let node : Node = h.2.0 in
        let old = old_sort own node (fits n.0 node h.2.1) in
        let one : old.0 ≡ h.0 = same_Some old.0 h.0 (sym (sort_stays node old.0 old.2) ∙ h.2.2) in
        let there : slice_get later.sorts h.0.0 ≡ Some old.1 = ap (λ (s : SortId). slice_get later.sorts s.0) (sym one) ∙ stays earlier.sorts later.sorts old.0.0 old.1 more.sorts old.3 in
        let same : h.1 ≡ old.1 = same_Some h.1 old.1 (sym h.3 ∙ there) in
        (old.0, old.1, (node, h.2.1, old.2), old.3, ap (λ (s : Sort). s.kind) (sym same) ∙ h.4)

    -- and well-formed graphs stay so
    pub well_formed_lasting : AreOfTheirSorts earlier → IsWellFormedGraph earlier g → IsWellFormedGraph later g
    well_formed_lasting own formed = record {
      fits = graph_lasting formed.fits;
      finite = λ n child node at among is child_is.
          formed.finite n child node at among (data_before own formed.fits n is) (data_before own formed.fits child child_is);
    }
