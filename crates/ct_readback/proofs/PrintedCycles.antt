-- The minimal graph of a value of a well-formed graph fits, and has no cycle of nodes of datatypes.
use Rattle.std.proofs.Common.{◌≡◌, ℕ, zero, suc, ◌<◌, ◌≤◌, List, [], ◌∷◌, length, map, Some, option_map, slice_get, sym, ap, subst, ◌∙◌, arith}
use Rattle.std.proofs.lemmas.Option.{slice_get_within}
use Rattle.ct_lemmas.proofs.Contained.{Contains-from_slice_get, slice_get-from_Contains}
use Rattle.ct_lemmas.proofs.Pairs.{AllZip-at_left}
use Rattle.ct_lemmas.proofs.Lists.{slice_get-map_at, slice_get-map_source}
use Rattle.ct_sorts.specs.declared.ids.CtorId.{CtorId}
use Rattle.ct_sorts.specs.declared.ids.SortId.{SortId}
use Rattle.ct_sorts.specs.Declarations.{Declarations, Constructor}
use Rattle.ct_values.specs.declared.node.NodeId.{NodeId}
use Rattle.ct_values.specs.declared.node.Node.{Node}
use Rattle.ct_values.specs.declared.node.Node.TheVariants.{Con, Elem}
use Rattle.ct_values.specs.declared.node.Head.TheVariants as heads
use Rattle.ct_values.specs.Graph.{Nodes, node_head, node_children}
use Rattle.ct_values.specs.Agreement.{Point, point, node_point, AgreeAlways}
use Rattle.ct_values.specs.Value.{Value, reference}
use Rattle.ct_values.specs.Fitting.{HasNodeSort, node_sort}
use Rattle.ct_values.specs.WellFormed.{IsData, AreFinite}
use Rattle.ct_values.specs.Minimal.{IsMinimal}
use Rattle.ct_values.proofs.AgreeLemmas.{AgreeAlways-refl}
use Rattle.ct_values.proofs.NodeLemmas.{node_points}
use Rattle.ct_values.proofs.MinimalLemmas.{agreeing_node, like, fewest_nodes}
use Rattle.ct_readback.specs.Cycles.{IsDataStep, IsDataWay, HasDataCycle}
use Rattle.ct_readback.proofs.PrintedGraphs.{HasSmallElements}

-- nodes with one head have one sort
same_sort : (d : Declarations) (x y : Node) → node_head y ≡ node_head x → node_sort d y ≡ node_sort d x
same_sort d (Con c ks) (Con b ms) e = let same : b ≡ c = cc in ap (λ (k : CtorId). option_map (λ (ctor : Constructor). ctor.sort) (slice_get d.ctors k.0)) same
same_sort d (Con c ks) (Elem s n) e = cc
same_sort d (Elem s n) (Con b ms) e = cc
same_sort d (Elem s n) (Elem t m) e = let same : t ≡ s = cc in ap Some same

same_element : (s : SortId) (n : ℕ) (y : Node) → node_head y ≡ heads.Elem s n → y ≡ Elem s n
same_element s n (Con c ks) e = cc
same_element s n (Elem t m) e = let sorts : t ≡ s = cc in let numbers : m ≡ n = cc in ap (λ u. Elem u m) sorts ∙ ap (Elem s) numbers

-- a node that agrees with a node of a sort has the sort
pub sort_across : (d : Declarations) (g h : Nodes) (m n : NodeId) (s : SortId) → AgreeAlways (node_point g m) (node_point h n) → HasNodeSort d g m s → HasNodeSort d h n s
sort_across d g h m n s alike (x, at, sorted) =
    let y = agreeing_node g h m n x at alike in
    (y.0, y.1, same_sort d x y.0 y.2 ∙ sorted)

data_across : (d : Declarations) (g h : Nodes) (m n : NodeId) → AgreeAlways (node_point g m) (node_point h n) → IsData d g m → IsData d h n
data_across d g h m n alike (s, sort, sorted, declared, kind) = (s, sort, sort_across d g h m n s alike sorted, declared, kind)

-- what agrees with the point of a value that is a reference agrees with the node
agrees_by : (g : Nodes) (q p : Point) (v : Value) (n : NodeId) → point g v ≡ p → reference n ≡ v → AgreeAlways q p → AgreeAlways q (node_point g n)
agrees_by g q p v n is same alike = subst (AgreeAlways q) (sym is ∙ ap (point g) (sym same)) alike

module _ (d : Declarations) (g h : Nodes) (finite : AreFinite d g) where
  -- a step between nodes that agree with nodes of the graph falls there
  step_falls : (n m a : NodeId) → IsDataStep d h n m → AgreeAlways (node_point h n) (node_point g a) → (b : NodeId) × AgreeAlways (node_point h m) (node_point g b) × (b.0 < a.0)
  step_falls n m a step alike =
      let y = agreeing_node h g n a step.node step.stands alike in
      let place = slice_get-from_Contains (node_children step.node) m step.contains in
      let listed = slice_get-map_at (point h) (map reference (node_children step.node)) place.0 (reference m) (slice_get-map_at reference (node_children step.node) place.0 m place.1) in
      let other = AllZip-at_left AgreeAlways (node_points h (node_children step.node)) (node_points g (node_children y.0)) place.0 (node_point h m) y.3 listed in
      let below = slice_get-map_source (point g) (map reference (node_children y.0)) place.0 other.0 other.1 in
      let child = slice_get-map_source reference (node_children y.0) place.0 below.0 below.1 in
      let agrees = agrees_by g (node_point h m) other.0 below.0 child.0 below.2 child.2 other.2 in
      (child.0, agrees, finite a child.0 y.0 y.1 (Contains-from_slice_get (node_children y.0) place.0 child.0 child.1) (data_across d h g n a alike step.parent_is) (data_across d h g m child.0 agrees step.child_is))

  way_falls : (way : List NodeId) (n last a : NodeId) → IsDataWay d h n way last → AgreeAlways (node_point h n) (node_point g a) → (b : NodeId) × AgreeAlways (node_point h last) (node_point g b) × (b.0 < a.0)
  way_falls [] n last a step alike = step_falls n last a step alike
  way_falls (m ∷ way) n last a (step, rest) alike =
      let first = step_falls n m a step alike in
      let later = way_falls way m last first.0 rest first.1 in
      (later.0, later.1, (let less = later.2 in let more = first.2 in omega (arith, less, more)))

  no_round : (bound : ℕ) (way : List NodeId) (n a : NodeId) → IsDataWay d h n way n → AgreeAlways (node_point h n) (node_point g a) → a.0 < bound → ⊥
  no_round zero way n a leads alike below = absurd (omega (arith, below))
  no_round (suc bound) way n a leads alike below =
      let next = way_falls way n n a leads alike in
      no_round bound way n next.0 leads next.1 (let less = next.2 in omega (arith, less, below))

way_within : (d : Declarations) (h : Nodes) (n last : NodeId) (way : List NodeId) → IsDataWay d h n way last → n.0 < length h
way_within d h n last [] step = slice_get_within h n.0 step.node step.stands
way_within d h n last (m ∷ way) (step, rest) = slice_get_within h n.0 step.node step.stands

-- the minimal graph of a node has no cycle of nodes of datatypes
pub minimal_acyclic : (d : Declarations) (g h : Nodes) (root : NodeId) → AreFinite d g → IsMinimal g root h → HasDataCycle d h → ⊥
minimal_acyclic d g h root finite minimal (n, way, leads) =
    let other = like g h root minimal n.0 (way_within d h n n way leads) in
    no_round d g h finite (suc other.0.0) way n other.0 leads other.1 (omega arith)

-- its elements are elements of the graph
pub minimal_small : (g h : Nodes) (root : NodeId) → HasSmallElements g → IsMinimal g root h → HasSmallElements h
minimal_small g h root small minimal k n s at =
    let other = like g h root minimal k (slice_get_within h k (Elem s n) at) in
    let y = agreeing_node h g (record { 0 = k }) other.0 (Elem s n) at other.1 in
    small other.0.0 n s (y.1 ∙ ap Some (same_element s n y.0 y.2))

-- it has no more nodes
pub minimal_few : (g h : Nodes) (root : NodeId) (bound : ℕ) → length g ≤ bound → IsMinimal g root h → length h ≤ bound
minimal_few g h root bound few minimal = let fewest = fewest_nodes g g root root h minimal (AgreeAlways-refl (node_point g root)) in omega (arith, few, fewest)
