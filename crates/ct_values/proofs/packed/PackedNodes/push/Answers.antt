use Rattle.std.proofs.Common.{◌≡◌, ℕ, [], ◌∷◌, ◌++◌, List, length, ap, ◌∙◌, subst, arith, length-append}
use Rattle.ct_values.specs.declared.node.NodeId.{NodeId}
use Rattle.ct_values.specs.declared.node.Head.{Head}
use Rattle.ct_values.specs.Graph.{Nodes}
use Rattle.ct_values.specs.Packed.{node_of, unpacked, ArePacked}
use Rattle.ct_values.proofs.PackedLemmas.{ArePacked-push, unpacked-push}
use Rattle.ct_values.proofs.packed.PackedNodes.push.Goals as goal

-- the three lists, each with what was added to it, are packed, and their nodes are those before and the new one
added_to : (heads more_heads : List Head) (ends more_ends : List ℕ) (children more_children : List NodeId) (head : Head) (end : ℕ) (added : List NodeId) → more_heads ≡ heads ++ head ∷ [] → more_ends ≡ ends ++ end ∷ [] → more_children ≡ children ++ added → end ≡ length more_children → ArePacked 0 heads ends (length children) → ArePacked 0 more_heads more_ends (length more_children) × (unpacked 0 more_heads more_ends more_children ≡ unpacked 0 heads ends children ++ node_of head added ∷ [])
added_to heads more_heads ends more_ends children more_children head end added heads_are ends_are children_are end_is packed =
    let long : end ≡ length (children ++ added) = end_is ∙ ap length children_are in
    let more : ArePacked 0 (heads ++ head ∷ []) (ends ++ end ∷ []) (length (children ++ added)) = subst (ArePacked 0 (heads ++ head ∷ []) (ends ++ end ∷ [])) long (ArePacked-push 0 heads ends (length children) head end packed (omega (arith, long, length-append children added))) in
    rw (heads_are, ends_are, children_are) (more, unpacked-push 0 heads ends children head added end packed long)

pub invariant_of-self-2 : goal.invariant_of-self-2
invariant_of-self-2 c =
    let heads = c.self.inside.heads.items in
    let ends = c.self.inside.ends.items in
    let heads_are : c.push.new.self.items ≡ heads ++ c.args.head ∷ [] = rw c.unwrap.ensures at c.push.ensures.items ∙ ap (λ hs. hs ++ c.args.head ∷ []) c.in_ok-reserve.ensures.items in
    let ends_are : c.push-2.new.self.items ≡ ends ++ c.len.result ∷ [] = rw c.unwrap-2.ensures at c.push-2.ensures.items ∙ ap (λ es. es ++ c.len.result ∷ []) c.in_ok-reserve-2.ensures.items in
    (added_to heads c.push.new.self.items ends c.push-2.new.self.items c.self.inside.children.items c.extend_from_slice.new.self.items c.args.head c.len.result c.args.children.now heads_are ends_are c.in_ok-extend_from_slice.ensures.items (c.len.ensures ∙ c.extend_from_slice.new.self.ok.0) c.self.invariant).0

pub returns-clause-ok : goal.returns-clause-ok
returns-clause-ok c =
    let heads = c.self.inside.heads.items in
    let ends = c.self.inside.ends.items in
    let heads_are : c.push.new.self.items ≡ heads ++ c.args.head ∷ [] = rw c.unwrap.ensures at c.push.ensures.items ∙ ap (λ hs. hs ++ c.args.head ∷ []) c.in_ok-reserve.ensures.items in
    let ends_are : c.push-2.new.self.items ≡ ends ++ c.len.result ∷ [] = rw c.unwrap-2.ensures at c.push-2.ensures.items ∙ ap (λ es. es ++ c.len.result ∷ []) c.in_ok-reserve-2.ensures.items in
    let more = added_to heads c.push.new.self.items ends c.push-2.new.self.items c.self.inside.children.items c.extend_from_slice.new.self.items c.args.head c.len.result c.args.children.now heads_are ends_are c.in_ok-extend_from_slice.ensures.items (c.len.ensures ∙ c.extend_from_slice.new.self.ok.0) c.self.invariant in
    more.1 ∙ ap (λ (nodes : Nodes). nodes ++ node_of c.args.head c.args.children.now ∷ []) c.self.view_is
