-- Nodes with the values of constructor terms.
use Rattle.std.proofs.Common.{◌≡◌, ℕ, ◌<◌, List, [], ◌∷◌, ◌++◌, length, map, All, Option, Some, option_map, unwrap_or, slice_get, get_or, refl, sym, ap, subst, ◌∙◌, inl, inr}
use Rattle.std.specs.List.{AllZip}
use Rattle.std.proofs.lemmas.Option.{same_Some, slice_get_within, slice_get-get_or}
use Rattle.std.proofs.lemmas.List.Elements.{All-head, All-tail}
use Rattle.ct_lemmas.proofs.Lists.{slice_get-there}
use Rattle.ct_sorts.specs.Grown.{Begins}
use Rattle.ct_sorts.proofs.PieceLemmas.{Begins-self}
use Rattle.ct_sorts.specs.declared.ids.CtorId.{CtorId}
use Rattle.ct_sorts.specs.declared.ids.SelId.{SelId}
use Rattle.ct_sorts.specs.declared.ids.SortId.{SortId}
use Rattle.ct_sorts.specs.Declarations.{Declarations, Constructor, Selector, IsSelector, IsConstructor}
use Rattle.ct_values.specs.declared.node.NodeId.{NodeId}
use Rattle.ct_values.specs.declared.node.Node.{Node}
use Rattle.ct_values.specs.declared.node.Node.TheVariants.{Con, Elem}
use Rattle.ct_values.specs.Graph.{Nodes, IsClosed, HasChildrenBelow, node_children}
use Rattle.ct_values.specs.Value.{Value, Values, reference, element, construct, no_values, with_value, list_of}
use Rattle.ct_values.specs.Agreement.{Point, point, node_point, children, AgreeAlways}
use Rattle.ct_values.specs.Fitting.{HasNodeSort, IsNodeOfField, FitsNode}
use Rattle.ct_values.proofs.AgreeLemmas.{AgreeAlways-trans, AgreeAlways-parts}
use Rattle.ct_values.proofs.NodeLemmas.{node_points, head_at, children_at}
use Rattle.ct_values.proofs.RepresentativeLemmas.{AgreeAlways-grown}
use Rattle.ct_values.specs.WellFormed.{IsWellFormedGraph}
use Rattle.ct_card.proofs.WellFormedLemmas.{longer_sort, fits_within, well_formed_pushed}
use Rattle.ct_names.specs.Symbols.{field_sort_id, ctor_sort}
use Rattle.ct_readback.specs.TreeNode.{HasTree, HaveTrees, AreFieldsOf, IsAdded}

-- a node of a closed graph keeps its value where the graph grows
pub tree_longer : (d : Declarations) (g more : Nodes) (s : SortId) (v : Value) (n : NodeId) → IsClosed g → HasTree d g s v n → HasTree d (g ++ more) s v n
tree_longer d g more s v n closed has =
    let within : n.0 < length g = slice_get_within g n.0 has.sorted.0 has.sorted.1 in
    record {
      sorted = longer_sort d g more n s has.sorted;
      agrees = AgreeAlways-trans (node_point (g ++ more) n) (node_point g n) (point [] v) (AgreeAlways-grown g more (reference n) closed within) has.agrees;
    }

-- so do nodes of values one for one
pub trees_longer : (d : Declarations) (g more : Nodes) (ss : List SelId) (vs : Values) (ns : List NodeId) → IsClosed g → HaveTrees d g ss vs ns → HaveTrees d (g ++ more) ss vs ns
trees_longer d g more [] no_values [] closed h = tt
trees_longer d g more [] no_values (n ∷ ns) closed h = absurd h
trees_longer d g more [] (with_value v vs) [] closed h = absurd h
trees_longer d g more [] (with_value v vs) (n ∷ ns) closed h = absurd h
trees_longer d g more (s ∷ ss) no_values [] closed h = absurd h
trees_longer d g more (s ∷ ss) no_values (n ∷ ns) closed h = absurd h
trees_longer d g more (s ∷ ss) (with_value v vs) [] closed h = absurd h
trees_longer d g more (s ∷ ss) (with_value v vs) (n ∷ ns) closed h =
    (tree_longer d g more (field_sort_id d s) v n closed h.0, trees_longer d g more ss vs ns closed h.1)

-- nodes with values agree with them, one for one
trees_agree : (d : Declarations) (g : Nodes) (ss : List SelId) (vs : Values) (ns : List NodeId) → HaveTrees d g ss vs ns → AllZip AgreeAlways (node_points g ns) (map (point []) (list_of vs))
trees_agree d g [] no_values [] h = tt
trees_agree d g [] no_values (n ∷ ns) h = absurd h
trees_agree d g [] (with_value v vs) [] h = absurd h
trees_agree d g [] (with_value v vs) (n ∷ ns) h = absurd h
trees_agree d g (s ∷ ss) no_values [] h = absurd h
trees_agree d g (s ∷ ss) no_values (n ∷ ns) h = absurd h
trees_agree d g (s ∷ ss) (with_value v vs) [] h = absurd h
trees_agree d g (s ∷ ss) (with_value v vs) (n ∷ ns) h = (h.0.agrees, trees_agree d g ss vs ns h.1)

-- a declared selector has the sort of its field
field_of : (d : Declarations) (g : Nodes) (s : SelId) (v : Value) (n : NodeId) → IsSelector d s → HasTree d g (field_sort_id d s) v n → IsNodeOfField d g n s
field_of d g s v n declared has =
    let found = slice_get-there d.sels s.0 declared in
    let same : field_sort_id d s ≡ found.0.sort = ap (λ (o : Option Selector). unwrap_or (option_map (λ (sel : Selector). sel.sort) o) (record { 0 = 0 })) found.1 in
    record { selector = found.0; declared = found.1; sorted = subst (λ (t : SortId). HasNodeSort d g n t) same has.sorted }

pub trees_fit : (d : Declarations) (g : Nodes) (ss : List SelId) (vs : Values) (ns : List NodeId) → All (IsSelector d) ss → HaveTrees d g ss vs ns → AllZip (IsNodeOfField d g) ns ss
trees_fit d g [] no_values [] inside h = tt
trees_fit d g [] no_values (n ∷ ns) inside h = absurd h
trees_fit d g [] (with_value v vs) [] inside h = absurd h
trees_fit d g [] (with_value v vs) (n ∷ ns) inside h = absurd h
trees_fit d g (s ∷ ss) no_values [] inside h = absurd h
trees_fit d g (s ∷ ss) no_values (n ∷ ns) inside h = absurd h
trees_fit d g (s ∷ ss) (with_value v vs) [] inside h = absurd h
trees_fit d g (s ∷ ss) (with_value v vs) (n ∷ ns) inside h =
    (field_of d g s v n (All-head (IsSelector d) s ss inside) h.0, trees_fit d g ss vs ns (All-tail (IsSelector d) s ss inside) h.1)

-- a constructor over nodes with values has the value of the constructor over these
tree_constructed : (d : Declarations) (g : Nodes) (c : CtorId) (ctor : Constructor) (ss : List SelId) (vs : Values) (ns : List NodeId) (n : NodeId)
    → slice_get d.ctors c.0 ≡ Some ctor → HaveTrees d g ss vs ns → slice_get g n.0 ≡ Some (Con c ns) → HasTree d g (ctor_sort d c) (construct c vs) n
tree_constructed d g c ctor ss vs ns n declared have stands =
    let sort : option_map (λ (k : Constructor). k.sort) (slice_get d.ctors c.0) ≡ Some ctor.sort = ap (option_map (λ (k : Constructor). k.sort)) declared in
    let own : ctor_sort d c ≡ ctor.sort = ap (λ (o : Option SortId). unwrap_or o (record { 0 = 0 })) sort in
    let pairs : AllZip AgreeAlways (children (node_point g n)) (map (point []) (list_of vs)) =
    subst (λ (ps : List Point). AllZip AgreeAlways ps (map (point []) (list_of vs))) (sym (children_at g n (Con c ns) stands)) (trees_agree d g ss vs ns have) in
    record {
      sorted = (Con c ns, stands, sort ∙ ap Some (sym own));
      agrees = (AgreeAlways-parts (node_point g n) (point [] (construct c vs))).1 (head_at g n (Con c ns) stands, pairs);
    }

-- an element has the value of the element
pub tree_element : (d : Declarations) (g : Nodes) (s : SortId) (number : ℕ) (n : NodeId) → slice_get g n.0 ≡ Some (Elem s number) → HasTree d g s (element s number) n
tree_element d g s number n stands =
    let none_left : AllZip AgreeAlways (children (node_point g n)) [] =
    subst (λ (ps : List Point). AllZip AgreeAlways ps []) (sym (children_at g n (Elem s number) stands)) tt in
    record {
      sorted = (Elem s number, stands, refl);
      agrees = (AgreeAlways-parts (node_point g n) (point [] (element s number))).1 (head_at g n (Elem s number) stands, none_left);
    }

-- ---- added nodes

-- where a node is added, the graph begins as it was, and stays well formed where the node fits
pub added_begins : (g : Nodes) (node : Node) (new : Nodes) → IsAdded g node new → Begins g new
added_begins g node new (inl same) = subst (λ (k : Nodes). Begins g k) (sym same) (Begins-self g)
added_begins g node new (inr more) = (node ∷ [], more)

pub added_formed : (d : Declarations) (g : Nodes) (node : Node) (new : Nodes) → IsAdded g node new → IsWellFormedGraph d g → FitsNode d g node → IsWellFormedGraph d new
added_formed d g node new (inl same) formed fits = subst (λ (k : Nodes). IsWellFormedGraph d k) (sym same) formed
added_formed d g node new (inr more) formed fits = subst (λ (k : Nodes). IsWellFormedGraph d k) (sym more) (well_formed_pushed d g node formed fits)

-- the children of a node that fits are nodes
pub fits_below : (d : Declarations) (g : Nodes) (node : Node) → FitsNode d g node → HasChildrenBelow (length g) node
fits_below d g node fits = λ k child inside.
    fits_within d g node k (get_or (node_children node) k child) fits (slice_get-get_or (node_children node) k child inside)

own_fields : (d : Declarations) (c : CtorId) (ctor : Constructor) (fields : List SelId) → slice_get d.ctors c.0 ≡ Some ctor → AreFieldsOf d c fields → ctor.sels ≡ fields
own_fields d c ctor fields at are = same_Some ctor.sels fields (sym (ap (option_map (λ (k : Constructor). k.sels)) at) ∙ are)

-- a constructor over nodes with values of its fields fits
pub built : (d : Declarations) (g : Nodes) (c : CtorId) (fields : List SelId) (vs : Values) (ns : List NodeId) → IsConstructor d c → AreFieldsOf d c fields → All (IsSelector d) fields → HaveTrees d g fields vs ns → FitsNode d g (Con c ns)
built d g c fields vs ns declared are inside have =
    let ctor = slice_get-there d.ctors c.0 declared in
    record {
      ctor = ctor.0;
      declared = ctor.1;
      fields = subst (λ (ss : List SelId). AllZip (IsNodeOfField d g) ns ss) (sym (own_fields d c ctor.0 fields ctor.1 are)) (trees_fit d g fields vs ns inside have);
    }

pub constructed : (d : Declarations) (g new : Nodes) (c : CtorId) (fields : List SelId) (vs : Values) (ns : List NodeId) (n : NodeId) → IsConstructor d c → IsClosed g → HaveTrees d g fields vs ns → Begins g new
    → slice_get new n.0 ≡ Some (Con c ns) → HasTree d new (ctor_sort d c) (construct c vs) n
constructed d g new c fields vs ns n declared closed have grown stands =
    let ctor = slice_get-there d.ctors c.0 declared in
    let later : HaveTrees d new fields vs ns = subst (λ (k : Nodes). HaveTrees d k fields vs ns) (sym grown.1) (trees_longer d g grown.0 fields vs ns closed have) in
    tree_constructed d new c ctor.0 fields vs ns n ctor.1 later stands
