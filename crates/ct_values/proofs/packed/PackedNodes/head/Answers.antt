use Rattle.std.proofs.Common.{◌≡◌, ◌<◌, length, Some, slice_get, option_map, refl, ap, subst, ◌∙◌, arith}
use Rattle.std.proofs.lemmas.Option.{slice_get_read}
use Rattle.ct_values.specs.Graph.{Nodes, node_head}
use Rattle.ct_values.proofs.PackedLemmas.{node_head-of, unpacked_long, node_unpacked}
use Rattle.ct_values.proofs.packed.PackedNodes.head.Goals as goal

pub index-requires : goal.index-requires
index-requires c =
    let children = c.self.inside.children.items in
    let long = unpacked_long 0 c.self.inside.heads.items c.self.inside.ends.items children (length children) c.self.invariant in
    omega (arith, long, ap length c.self.view_is, c.requires.within, c.self.inside.heads.ok.0)

pub returns : goal.returns
returns c =
    let n = c.args.n in
    let head = c.index.result.now in
    let heads = c.self.inside.heads.items in
    let children = c.self.inside.children.items in
    let long = unpacked_long 0 heads c.self.inside.ends.items children (length children) c.self.invariant in
    let within : n < length heads = omega (arith, long, ap length c.self.view_is, c.requires.within) in
    let node = node_unpacked 0 heads c.self.inside.ends.items children (length children) n head c.self.invariant (slice_get_read heads (length heads) n head refl within c.index.ensures) in
    record { value = subst (λ (nodes : Nodes). option_map node_head (slice_get nodes n) ≡ Some head) c.self.view_is (ap (option_map node_head) node.1 ∙ ap Some (node_head-of head node.0)) }
