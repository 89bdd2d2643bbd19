use Rattle.std.proofs.Common.{◌≡◌, ℕ, ◌<◌, ◌-◌, List, [], ◌∷◌, ◌++◌, length, map, Some, option_map, slice_get, refl, sym, ap, subst, ◌∙◌, arith, length-append}
use Rattle.std.proofs.lemmas.Option.{same_Some, slice_get_within}
use Rattle.std.proofs.lemmas.Map.Steps.{length-le_from_distinct_below}
use Rattle.std.proofs.lemmas.List.Elements.{recursion_from_All}
use Rattle.ct_lemmas.proofs.Each.{All-at}
use Rattle.ct_lemmas.proofs.Options.{option_map-source}
use Rattle.ct_values.specs.declared.node.NodeId.{NodeId}
use Rattle.ct_values.specs.declared.node.Node.{Node}
use Rattle.ct_values.specs.declared.node.Node.TheVariants.{Con, Elem}
use Rattle.ct_values.specs.declared.node.Head.{Head}
use Rattle.ct_values.specs.Graph.{Nodes, node_head, node_children}
use Rattle.ct_values.specs.Packed.{node_of}
use Rattle.ct_values.specs.Minimal.{child_numbers}
use Rattle.ct_values.specs.Numbering.{CountsUp, IsInOrder}
use Rattle.ct_values.specs.Renumbering.{StandFor, IsRenumbered, AreRenumbered}
use Rattle.ct_values.proofs.NumberedLemmas.{IsInOrder-push}
use Rattle.ct_values.proofs.RenumberLemmas.{Stay-trans, AreRenumbered-push}
use Rattle.ct_values.proofs.CountLemmas.{has_below}
use Rattle.ct_values.proofs.PackedLemmas.{node_head-of}
use Rattle.ct_values.proofs.reach.renumber_all.Goals as goal

-- one more node is nearer to the bound
nearer : (bound : ℕ) (nodes more : List Node) (node : Node) → more ≡ nodes ++ node ∷ [] → length nodes < bound → bound - length more < bound - length nodes
nearer bound nodes more node e less = omega (arith, ap length e, length-append nodes (node ∷ []))

-- numbers that stand for a node's children are the children of a node with its head, also where it is an element and so has none
children_stored : (ids : List ℕ) (source : Node) (ps : List NodeId) → StandFor ids ps (node_children source) → node_children (node_of (node_head source) ps) ≡ ps
children_stored ids (Con c ns) ps stand = refl
children_stored ids (Elem s n) [] stand = refl
children_stored ids (Elem s n) (p ∷ ps) stand = absurd stand

-- a node with the head of another, over numbers that stand for its children: it is that node renumbered, and its children are these numbers
renumbered_node : (g : Nodes) (ids : List ℕ) (n : ℕ) (head : Head) (ps ns : List NodeId) → option_map node_head (slice_get g n) ≡ Some head → option_map node_children (slice_get g n) ≡ Some ns → StandFor ids ps ns → IsRenumbered g ids n (node_of head ps) × (node_children (node_of head ps) ≡ ps)
renumbered_node g ids n head ps ns at_head at_children stand =
    let found = option_map-source node_head (slice_get g n) head at_head in
    let source = found.0 in
    let same : ns ≡ node_children source = same_Some ns (node_children source) (sym at_children ∙ ap (option_map node_children) found.1) in
    let stands : StandFor ids ps (node_children source) = subst (StandFor ids ps) same stand in
    let stored : node_children (node_of head ps) ≡ ps = subst (λ (h : Head). node_children (node_of h ps) ≡ ps) found.2 (children_stored ids source ps stands) in (
      record {
        source = source;
        stands = found.1;
        head = node_head-of head ps ∙ sym found.2;
        children = subst (λ (qs : List NodeId). StandFor ids qs (node_children source)) (sym stored) stands;
      },
      stored,
    )

pub children-requires : goal.children-requires
children-requires c =
    let turn : slice_get c.loop-id.ids.keys c.len.result ≡ Some c.in-Some.id = sym c.get_index.ensures.key ∙ sym c.copied.ensures ∙ c.in-Some.is in
    record { within = All-at (λ id. id < length c.args.g.now) c.loop-id.ids.keys c.len.result c.in-Some.id c.loop-id.invariant.0.below turn }

pub head-requires : goal.head-requires
head-requires c =
    let turn : slice_get c.loop-id.ids.keys c.len.result ≡ Some c.in-Some.id = sym c.get_index.ensures.key ∙ sym c.copied.ensures ∙ c.in-Some.is in
    record { within = All-at (λ id. id < length c.args.g.now) c.loop-id.ids.keys c.len.result c.in-Some.id c.loop-id.invariant.0.below turn }

pub loop-id-smaller : goal.loop-id-smaller
loop-id-smaller c =
    let keys = c.loop-id.ids.keys in
    let nodes = c.loop-id.nodes in
    let bound = length c.args.g.now in
    let turn : slice_get keys (length nodes) ≡ Some c.in-Some.id = ap (slice_get keys) (sym c.len.ensures.count) ∙ sym c.get_index.ensures.key ∙ sym c.copied.ensures ∙ c.in-Some.is in
    let few = length-le_from_distinct_below keys bound c.loop-id.invariant.0.unique (λ q found. has_below bound q keys (recursion_from_All (λ id. id < bound) keys c.loop-id.invariant.0.below) found) in
    nearer bound nodes c.push.new.self (node_of c.head.result c.deref.result.now) c.in_ok-push.ensures.ok (omega (arith, few, slice_get_within keys (length nodes) c.in-Some.id turn))

pub loop-id-preserved : goal.loop-id-preserved
loop-id-preserved c =
    let g = c.args.g.now in
    let n = c.in-Some.id in
    let old = c.loop-id.ids.keys in
    let new = c.number_all.new.ids.keys in
    let nodes = c.loop-id.nodes in
    let indices = c.deref.result.now in
    let node = node_of c.head.result indices in
    let first = length c.args.ids.now.keys in
    let done = c.in_ok-children.ensures in
    let turn : slice_get old (length nodes) ≡ Some n = ap (slice_get old) (sym c.len.ensures.count) ∙ sym c.get_index.ensures.key ∙ sym c.copied.ensures ∙ c.in-Some.is in
    let room : length nodes < length new = slice_get_within new (length nodes) n (done.stay (length nodes) n turn) in
    let stand : StandFor new indices c.children.result.now = subst (λ (ps : List NodeId). StandFor new ps c.children.result.now) (sym c.deref.ensures.value) done.stand in
    let one = renumbered_node g new n c.head.result indices c.children.result.now c.head.ensures.value c.children.ensures.value stand in
    let counts : CountsUp (length old) (child_numbers node) (length new) = subst (λ (ps : List NodeId). CountsUp (length old) (map (λ p. p.0) ps) (length new)) (sym (one.1 ∙ c.deref.ensures.value)) done.counts in
    let all : AreRenumbered g new (nodes ++ node ∷ []) = AreRenumbered-push g old new nodes n node done.stay turn c.loop-id.invariant.2 one.0 in (
      done.numbering,
      Stay-trans c.args.ids.now.keys old new c.loop-id.invariant.1 done.stay,
      subst (λ (more : List Node). AreRenumbered g new more) (sym c.in_ok-push.ensures.ok) all,
      omega (arith, room, ap length c.in_ok-push.ensures.ok, length-append nodes (node ∷ [])),
      subst (λ (more : List Node). IsInOrder first 0 more (length new)) (sym c.in_ok-push.ensures.ok) (IsInOrder-push first 0 (length old) (length new) nodes node c.loop-id.invariant.4 (omega (arith, slice_get_within old (length nodes) n turn)) counts),
    )
