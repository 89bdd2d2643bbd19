-- Chains through datatypes, in which each step goes to a child and on to a value that is the same: each has a path of the
-- same length beside it, so none comes back to where it began.
use Rattle.std.proofs.Common.{◌≡◌, ℕ, zero, suc, ◌<◌, ◌≤◌, List, [], ◌∷◌, ◌++◌, length, map, Contains, refl, ap, subst, arith}
use Rattle.std.specs.List.{AllZip}
use Rattle.std.proofs.lemmas.List.{length-append}
use Rattle.ct_sorts.specs.Declarations.{Declarations}
use Rattle.ct_values.specs.declared.node.NodeId.{NodeId}
use Rattle.ct_values.specs.Graph.{Nodes}
use Rattle.ct_values.specs.Value.{Value, reference}
use Rattle.ct_values.specs.Agreement.{point, size, children_of, AgreeAlways}
use Rattle.ct_values.specs.Fitting.{FitsGraph}
use Rattle.ct_values.specs.ValueSort.{IsOfData, IsDataPath, IsLinked, IsDataChain}
use Rattle.ct_values.specs.WellFormed.{AreFinite}
use Rattle.ct_values.proofs.AgreeLemmas.{AgreeAlways-parts, AgreeAlways-sym, AgreeAlways-trans}
use Rattle.ct_values.proofs.PathLemmas.{node_path, value_path}
use Rattle.ct_values.proofs.SortedLemmas.{agreeing_sorted}

-- of children that are the same one for one, each has one that is the same as it
paired_child : (g : Nodes) (vs us : List Value) (w : Value) → AllZip AgreeAlways (map (point g) vs) (map (point g) us) → Contains vs w → (x : Value) × Contains us x × AgreeAlways (point g w) (point g x)
paired_child g [] us w all (k, within, e) = absurd (omega (arith, within))
paired_child g (v ∷ vs) [] w all has = absurd all
paired_child g (v ∷ vs) (u ∷ us) w all (zero, within, e) =
    (u, (0, omega arith, refl), subst (λ (x : Value). AgreeAlways (point g x) (point g u)) e all.0)
paired_child g (v ∷ vs) (u ∷ us) w all (suc k, within, e) =
    let rest = paired_child g vs us w all.1 (k, omega (arith, within), e) in
    (rest.0, (suc rest.1.0, omega (arith, rest.1.1), rest.1.2), rest.2)

module _ (d : Declarations) (g : Nodes) (fits : FitsGraph d g) where
  -- a value that is the same as one of a datatype is of the datatype
  alike_of_data : (v u : Value) → AgreeAlways (point g v) (point g u) → IsOfData d g v → IsOfData d g u
  alike_of_data v u alike h = (h.0, h.1, agreeing_sorted d g g fits v u h.0 h.2 alike, h.3, h.4)

  -- what is the same as a child of a value is the same as a child of each value that is the same
  alike_linked : (v u w : Value) → AgreeAlways (point g v) (point g u) → IsLinked g v w → IsLinked g u w
  alike_linked v u w alike link =
      let parts = (AgreeAlways-parts (point g v) (point g u)).0 alike in
      let other = paired_child g (children_of g v) (children_of g u) link.0 parts.1 link.1 in
      (other.0, other.1, AgreeAlways-trans (point g other.0) (point g link.0) (point g w) (AgreeAlways-sym (point g link.0) (point g other.0) other.2) link.2)

  -- so a chain from a value goes from each value that is the same
  chain_from : (v u : Value) (chain : List Value) → AgreeAlways (point g v) (point g u) → IsDataChain d g v chain → IsDataChain d g u chain
  chain_from v u [] alike along = alike_of_data v u alike along
  chain_from v u (w ∷ chain) alike along = (alike_of_data v u alike along.0, alike_linked v u w alike along.1, along.2)

  -- beside a chain there is a path
  path_beside : (v : Value) (chain : List Value) → IsDataChain d g v chain → (path : List Value) × (length path ≡ length chain) × IsDataPath d g v path
  path_beside v [] along = ([], refl, along)
  path_beside v (w ∷ chain) along =
      let link = along.1 in
      let rest = path_beside link.0 chain (chain_from w link.0 chain (AgreeAlways-sym (point g link.0) (point g w) link.2) along.2) in
      (link.0 ∷ rest.0, ap suc rest.1, (along.0, link.1, rest.2))

  -- a chain begins at a value of a datatype
  begins : (v : Value) (chain : List Value) → IsDataChain d g v chain → IsOfData d g v
  begins v [] along = along
  begins v (w ∷ chain) along = along.0

  -- a chain goes on from its last value
  joined : (v : Value) (chain : List Value) (w : Value) (more : List Value) → IsDataChain d g v (chain ++ w ∷ []) → IsDataChain d g w more → IsDataChain d g v (chain ++ w ∷ more)
  joined v [] w more along next = (along.0, along.1, next)
  joined v (u ∷ chain) w more along next = (along.0, along.1, joined u chain w more along.2 next)

  -- one that comes back to where it began can be gone as often as one likes
  repeated : (v : Value) (chain : List Value) (w : Value) → IsDataChain d g v (chain ++ w ∷ []) → AgreeAlways (point g w) (point g v) → (n : ℕ) → (long : List Value) × (n ≤ length long) × IsDataChain d g v long
  repeated v chain w along back zero = ([], omega arith, begins v (chain ++ w ∷ []) along)
  repeated v chain w along back (suc n) =
      let rest = repeated v chain w along back n in
      let again : IsDataChain d g w rest.0 = chain_from v w rest.0 (AgreeAlways-sym (point g w) (point g v) back) rest.2 in
      (chain ++ w ∷ rest.0, omega (arith, rest.1, length-append chain (w ∷ rest.0)), joined v chain w rest.0 along again)

  module _ (finite : AreFinite d g) where
    -- a chain has fewer steps than the value's size
    pub value_chain : (v : Value) (chain : List Value) → IsDataChain d g v chain → length chain < size (point g v)
    value_chain v chain along =
        let path = path_beside v chain along in
        let short = value_path d g finite v path.0 path.2 in
        omega (arith, short, path.1)

    -- and from a node at most as many as the node's number
    pub node_chain : (n : NodeId) (chain : List Value) → IsDataChain d g (reference n) chain → length chain ≤ n.0
    node_chain n chain along =
        let path = path_beside (reference n) chain along in
        let short = node_path d g finite n path.0 path.2 in
        omega (arith, short, path.1)

    -- so none comes back
    pub no_way_back : (v : Value) (chain : List Value) (w : Value) → IsDataChain d g v (chain ++ w ∷ []) → AgreeAlways (point g w) (point g v) → ⊥
    no_way_back v chain w along back =
        let long = repeated v chain w along back (size (point g v)) in
        let short : length long.0 < size (point g v) = value_chain v long.0 long.2 in
        omega (arith, long.1, short)
