use Rattle.std.proofs.Common.{◌≡◌, ℕ, ◌-◌, ◌<◌, List, [], ◌∷◌, length, take, drop, Some, slice_get, option_map, refl, sym, ap, subst, ◌∙◌, arith}
use Rattle.std.proofs.lemmas.Option.{slice_get_read}
use Rattle.ct_values.specs.declared.node.NodeId.{NodeId}
use Rattle.ct_values.specs.declared.node.Head.{Head}
use Rattle.ct_values.specs.declared.node.Head.TheVariants.{Con, Elem}
use Rattle.ct_values.specs.Graph.{Nodes, node_children}
use Rattle.ct_values.specs.Packed.{unpacked, ArePacked}
use Rattle.ct_values.proofs.PackedLemmas.{unpacked_long, ends_long, ends_within, unpacked_at, node_unpacked}
use Rattle.ct_values.proofs.packed.PackedNodes.children.Goals as goal

-- a number below that of the nodes has a head, and an end
within_heads : (heads : List Head) (ends : List ℕ) (children : List NodeId) (all n : ℕ) (nodes : Nodes) → ArePacked 0 heads ends all → unpacked 0 heads ends children ≡ nodes → n < length nodes → n < length heads
within_heads heads ends children all n nodes packed view_is within =
    omega (arith, unpacked_long 0 heads ends children all packed, ap length view_is)

within_ends : (heads : List Head) (ends : List ℕ) (children : List NodeId) (all n : ℕ) (nodes : Nodes) → ArePacked 0 heads ends all → unpacked 0 heads ends children ≡ nodes → n < length nodes → n < length ends
within_ends heads ends children all n nodes packed view_is within =
    omega (arith, within_heads heads ends children all n nodes packed view_is within, ends_long 0 heads ends all packed)

-- the index that was found in a list that is equal
found_in : (list ends : List ℕ) (n start : ℕ) → list ≡ ends → slice_get (0 ∷ list) n ≡ Some start → slice_get (0 ∷ ends) n ≡ Some start
found_in list ends n start same at = sym (ap (λ es. slice_get (0 ∷ es) n) same) ∙ at

pub index-requires : goal.index-requires
index-requires c =
    let children = c.self.inside.children.items in
    omega (arith, within_heads c.self.inside.heads.items c.self.inside.ends.items children (length children) c.args.n c.args.self.now c.self.invariant c.self.view_is c.requires.within, c.self.inside.heads.ok.0)

pub start-requires : goal.start-requires
start-requires c =
    let children = c.self.inside.children.items in
    let inside = within_ends c.self.inside.heads.items c.self.inside.ends.items children (length children) c.args.n c.args.self.now c.self.invariant c.self.view_is c.requires.within in
    record { within = omega (arith, inside, ap length c.deref-in-Con.ensures.value) }

pub index-requires-in-Con : goal.index-requires-in-Con
index-requires-in-Con c =
    let children = c.self.inside.children.items in
    let inside = within_ends c.self.inside.heads.items c.self.inside.ends.items children (length children) c.args.n c.args.self.now c.self.invariant c.self.view_is c.requires.within in
    omega (arith, inside, c.self.inside.ends.ok.0)

pub part-requires : goal.part-requires
part-requires c =
    let n = c.args.n in
    let ends = c.self.inside.ends.items in
    let children = c.self.inside.children.items in
    let inside = within_ends c.self.inside.heads.items ends children (length children) n c.args.self.now c.self.invariant c.self.view_is c.requires.within in
    let at_start = found_in c.deref-in-Con.result.now ends n c.start.result c.deref-in-Con.ensures.value c.start.ensures.value in
    let at_end = slice_get_read ends (length ends) n c.index-in-Con.result.now refl inside c.index-in-Con.ensures in
    let bounds = ends_within 0 c.self.inside.heads.items ends (length children) n c.start.result c.index-in-Con.result.now c.self.invariant at_start at_end in
    record {
      order = bounds.0;
      within = omega (arith, bounds.1, ap length c.deref.ensures.value);
    }

pub returns-in-Con : goal.returns-in-Con
returns-in-Con c =
    let n = c.args.n in
    let nodes = c.args.self.now in
    let head = c.index.result.now in
    let start = c.start.result in
    let end = c.index-in-Con.result.now in
    let heads = c.self.inside.heads.items in
    let ends = c.self.inside.ends.items in
    let children = c.self.inside.children.items in
    let inside = within_heads heads ends children (length children) n nodes c.self.invariant c.self.view_is c.requires.within in
    let has_end = within_ends heads ends children (length children) n nodes c.self.invariant c.self.view_is c.requires.within in
    let at_head = slice_get_read heads (length heads) n head refl inside c.index.ensures in
    let at_start = found_in c.deref-in-Con.result.now ends n start c.deref-in-Con.ensures.value c.start.ensures.value in
    let at_end = slice_get_read ends (length ends) n end refl has_end c.index-in-Con.ensures in
    let at = unpacked_at 0 heads ends children n (Con c.in-Con.field-0) start end (at_head ∙ ap Some c.in-Con.is) at_start at_end in
    let read : c.part.result.now ≡ take (end - start) (drop start children) = c.part.ensures.value ∙ ap (λ (ns : List NodeId). take (end - start) (drop start ns)) c.deref.ensures.value in
    record { value = subst (λ (ns : Nodes). option_map node_children (slice_get ns n) ≡ Some c.part.result.now) c.self.view_is (ap (option_map node_children) at ∙ ap Some (sym read)) }

pub returns-in-Elem : goal.returns-in-Elem
returns-in-Elem c =
    let n = c.args.n in
    let head = c.index.result.now in
    let heads = c.self.inside.heads.items in
    let ends = c.self.inside.ends.items in
    let children = c.self.inside.children.items in
    let inside = within_heads heads ends children (length children) n c.args.self.now c.self.invariant c.self.view_is c.requires.within in
    let at_head = slice_get_read heads (length heads) n head refl inside c.index.ensures in
    let node = node_unpacked 0 heads ends children (length children) n (Elem c.in-Elem.field-0 c.in-Elem.field-1) c.self.invariant (at_head ∙ ap Some c.in-Elem.is) in
    record { value = subst (λ (ns : Nodes). option_map node_children (slice_get ns n) ≡ Some []) c.self.view_is (ap (option_map node_children) node.1) }
