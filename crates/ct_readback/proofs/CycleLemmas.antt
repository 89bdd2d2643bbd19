-- Cycles of nodes of datatypes, and orders of them.
use Rattle.std.proofs.Common.{◌≡◌, ℕ, suc, ◌+◌, ◌-◌, ◌<◌, List, [], ◌∷◌, length, map, All, Some, slice_get, ap, ◌∙◌, refl, arith}
use Rattle.std.proofs.lemmas.List.Elements.{All-head, All-tail}
use Rattle.std.proofs.lemmas.Option.{slice_get_within}
use Rattle.ct_sorts.specs.Declarations.{Declarations}
use Rattle.ct_values.specs.declared.node.NodeId.{NodeId}
use Rattle.ct_values.specs.Graph.{Nodes}
use Rattle.ct_values.specs.WellFormed.{IsData}
use Rattle.ct_ordering.specs.declared.hop.Hop.{Hop}
use Rattle.ct_ordering.specs.Graph.{Graph}
use Rattle.ct_ordering.specs.Order.{StandsAt, IsOrder, GoesTo, IsPath, IsCycle}
use Rattle.ct_readback.specs.Cycles.{IsDataStep, IsDataWay, HasDataCycle}
use Rattle.ct_readback.specs.Placed.{numbered_node, AreDataEdges}

-- a node of a datatype is a node of the graph
pub data_within : (d : Declarations) (h : Nodes) (n : NodeId) → IsData d h n → n.0 < length h
data_within d h n (s, sort, (node, at, sorted), declared, kind) = slice_get_within h n.0 node at

module _ (d : Declarations) (h : Nodes) (g : Graph) (edges : AreDataEdges d h g) where
  -- a way along an order falls
  step_falls : (points : List ℕ) → IsOrder g points → (n m : NodeId) (i j : ℕ) → IsDataStep d h n m → StandsAt points i n.0 → StandsAt points j m.0 → j < i
  step_falls points order n m i j step at_n at_m =
      let kid = edges.kids n.0 m.0 step in
      order.before n.0 kid.0 m.0 j i kid.1 at_m at_n

  child_index : (points : List ℕ) → IsOrder g points → (n m : NodeId) → IsDataStep d h n m → (j : ℕ) × StandsAt points j m.0
  child_index points order n m step =
      let within : m.0 < length h = data_within d h m step.child_is in
      let count = edges.count in
      order.each m.0 (omega (arith, within, count))

  way_falls : (points : List ℕ) → IsOrder g points → (way : List NodeId) (n last : NodeId) (i j : ℕ) → IsDataWay d h n way last → StandsAt points i n.0 → StandsAt points j last.0 → j < i
  way_falls points order [] n last i j step at_n at_last = step_falls points order n last i j step at_n at_last
  way_falls points order (m ∷ way) n last i j (step, rest) at_n at_last =
      let k = child_index points order n m step in
      let first = step_falls points order n m i k.0 step at_n k.1 in
      let later = way_falls points order way m last k.0 j rest k.1 at_last in
      omega (arith, first, later)

  -- the last node of a way is a child
  way_end : (points : List ℕ) → IsOrder g points → (way : List NodeId) (n last : NodeId) → IsDataWay d h n way last → (j : ℕ) × StandsAt points j last.0
  way_end points order [] n last step = child_index points order n last step
  way_end points order (m ∷ way) n last (step, rest) = way_end points order way m last rest

  -- so where there is an order there is no cycle
  pub ordered_acyclic : (points : List ℕ) → IsOrder g points → HasDataCycle d h → ⊥
  ordered_acyclic points order (n, way, leads) =
      let end = way_end points order way n n leads in
      let falls = way_falls points order way n n end.0 end.0 leads end.1 end.1 in
      omega (arith, falls)

  point_within : (hop : Hop) (rest : List Hop) → All (λ (r : Hop). r.point < g.count) (hop ∷ rest) → hop.point < length h
  point_within hop rest within =
      let below : hop.point < g.count = All-head (λ (r : Hop). r.point < g.count) hop rest within in
      let count = edges.count in
      omega (arith, below, count)

  -- hops along edges are a way
  way_of : (hop : Hop) (rest : List Hop) (last : ℕ) → All (λ (r : Hop). r.point < g.count) (hop ∷ rest) → IsPath g (hop ∷ rest) → ((z : Hop) → slice_get (hop ∷ rest) (length rest) ≡ Some z → GoesTo g z last)
      → IsDataWay d h (numbered_node hop.point) (map (λ (r : Hop). numbered_node r.point) rest) (numbered_node last)
  way_of hop [] last within path final = edges.steps hop.point hop.place last (point_within hop [] within) (final hop refl)
  way_of hop (r ∷ rs) last within path final = (
    edges.steps hop.point hop.place r.point (point_within hop (r ∷ rs) within) (path 0 hop r refl refl),
    way_of r rs last (All-tail (λ (q : Hop). q.point < g.count) hop (r ∷ rs) within) (λ index a b at_a at_b. path (suc index) a b at_a (let e : suc index + 1 ≡ suc (index + 1) = omega arith in ap (slice_get (hop ∷ (r ∷ rs))) e ∙ at_b)) (λ z at. final z at),
  )

  -- and a cycle of hops is a cycle of nodes
  pub cycle_of : (hops : List Hop) → IsCycle g hops → HasDataCycle d h
  cycle_of [] cycle = let some = cycle.some in absurd (omega (arith, some))
  cycle_of (hop ∷ rest) cycle = (
    numbered_node hop.point,
    map (λ (r : Hop). numbered_node r.point) rest,
    way_of hop rest hop.point cycle.within cycle.path (λ z at. cycle.closed hop z refl (let e : length (hop ∷ rest) - 1 ≡ length rest = omega arith in ap (slice_get (hop ∷ rest)) e ∙ at)),
  )
