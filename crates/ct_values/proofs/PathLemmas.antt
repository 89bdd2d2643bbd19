-- Paths through datatypes are short where each node of a datatype has smaller ones under it.
use Rattle.std.proofs.Common.{◌≡◌, ℕ, zero, suc, ◌+◌, ◌<◌, ◌≤◌, List, [], ◌∷◌, length, map, get_or, Contains, Option, Some, option_map, unwrap_or, slice_get, refl, sym, subst, arith}
use Rattle.std.proofs.lemmas.List.{length-append}
use Rattle.std.proofs.lemmas.Option.{slice_get_within}
use Rattle.ct_sorts.specs.Declarations.{Declarations}
use Rattle.ct_values.specs.declared.node.NodeId.{NodeId}
use Rattle.ct_values.specs.declared.node.Node.{Node}
use Rattle.ct_values.specs.Graph.{Nodes, node_children}
use Rattle.ct_values.specs.Value.{Value, Values, reference, element, construct, no_values, with_value, list_of, subterms, subterms_of_all}
use Rattle.ct_values.specs.Agreement.{children_of}
use Rattle.ct_values.specs.WellFormed.{AreFinite}
use Rattle.ct_values.specs.ValueSort.{IsOfData, IsDataPath}

-- a child of a reference is a reference to a child
child_of : (ns : List NodeId) (w : Value) → Contains (map reference ns) w → (child : NodeId) × (w ≡ reference child) × Contains ns child
child_of [] w (k, within, e) = absurd (omega arith)
child_of (n ∷ ns) w (zero, within, e) = (n, sym e, (0, omega arith, refl))
child_of (n ∷ ns) w (suc k, within, e) =
    let rest = child_of ns w (k, omega arith, e) in
    (rest.0, rest.1, (suc rest.2.0, omega (arith, rest.2.1), rest.2.2))

module _ (d : Declarations) (g : Nodes) where
  -- a path begins at a value of a datatype
  begins : (v : Value) (path : List Value) → IsDataPath d g v path → IsOfData d g v
  begins v [] along = along
  begins v (w ∷ path) along = along.0

  module _ (finite : AreFinite d g) where
    -- one step goes to a smaller number
    step : (n : NodeId) (w : Value) → IsOfData d g (reference n) → Contains (children_of g (reference n)) w → IsOfData d g w → (child : NodeId) × (w ≡ reference child) × (child.0 < n.0)
    step n w from among to =
        let node : Node = from.2.0 in
        let at : slice_get g n.0 ≡ Some node = from.2.1 in
        let child = child_of (node_children node) w (subst (λ (o : Option Node). Contains (map reference (unwrap_or (option_map node_children o) [])) w) at among) in
        (child.0, child.1, finite n child.0 node at child.2 from (subst (IsOfData d g) child.1 to))

    -- so a path from a node has at most as many steps as its number
    pub node_path : (n : NodeId) (path : List Value) → IsDataPath d g (reference n) path → length path ≤ n.0
    node_path n [] along = omega arith
    node_path n (w ∷ path) along =
        let child = step n w along.0 along.1 (begins w path along.2) in
        let rest : length path ≤ child.0.0 = node_path child.0 path (subst (λ (v : Value). IsDataPath d g v path) child.1 along.2) in
        omega (arith, child.2, rest)

    mutual
      -- and one from a value has fewer steps than the graph has nodes and the value subterms
      pub value_path : (v : Value) (path : List Value) → IsDataPath d g v path → length path < length g + length (subterms v)
      value_path (reference n) path along =
          let node = begins (reference n) path along in
          let within : n.0 < length g = slice_get_within g n.0 node.2.0 node.2.1 in
          let short : length path ≤ n.0 = node_path n path along in
          omega (arith, within, short)
      value_path (element s n) [] along = omega arith
      value_path (element s n) (w ∷ path) along = let within = along.1.1 in absurd (omega (arith, within))
      value_path (construct c vs) [] along = omega arith
      value_path (construct c vs) (w ∷ path) along =
          let rest : length path < length g + length (subterms_of_all vs) = values_path vs w path along.1.0 along.1.1 along.1.2 along.2 in
          omega (arith, rest)

      values_path : (vs : Values) (w : Value) (path : List Value) (k : ℕ) → k < length (list_of vs) → get_or (list_of vs) k w ≡ w → IsDataPath d g w path → length path < length g + length (subterms_of_all vs)
      values_path no_values w path k within e along = absurd (omega (arith, within))
      values_path (with_value v vs) w path zero within e along =
          let here : length path < length g + length (subterms v) = value_path v path (subst (λ (u : Value). IsDataPath d g u path) (sym e) along) in
          let longs = length-append (subterms v) (subterms_of_all vs) in
          omega (arith, here, longs)
      values_path (with_value v vs) w path (suc k) within e along =
          let rest : length path < length g + length (subterms_of_all vs) = values_path vs w path k (omega (arith, within)) e along in
          let longs = length-append (subterms v) (subterms_of_all vs) in
          omega (arith, rest, longs)
