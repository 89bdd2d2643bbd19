-- Nodes side by side: one node more, and what stands at a number.
use Rattle.std.proofs.Common.{◌≡◌, ℕ, zero, suc, ◌+◌, ◌-◌, ◌≤◌, List, [], ◌∷◌, ◌++◌, length, take, drop, Some, option_map, slice_get, refl, sym, ap, ap₂, ◌∙◌, arith, length-append}
use Rattle.std.proofs.Math.Seq.{drop-append_seam}
use Rattle.std.proofs.lemmas.List.{length-drop, take_all, take-append-le, drop-append-le}
use Rattle.std.proofs.lemmas.Option.{none-some, same_Some}
use Rattle.ct_lemmas.proofs.Options.{option_map-source}
use Rattle.ct_values.specs.declared.node.NodeId.{NodeId}
use Rattle.ct_values.specs.declared.node.Node.{Node}
use Rattle.ct_values.specs.declared.node.Node.TheVariants as nodes
use Rattle.ct_values.specs.declared.node.Head.{Head}
use Rattle.ct_values.specs.declared.node.Head.TheVariants.{Con, Elem}
use Rattle.ct_values.specs.Graph.{Nodes, node_head, node_children}
use Rattle.ct_values.specs.Packed.{node_of, unpacked, ArePacked}

-- ---- a node that is made of a head and children

-- its head is that head
pub node_head-of : (head : Head) (ns : List NodeId) → node_head (node_of head ns) ≡ head
node_head-of (Con c) ns = refl
node_head-of (Elem s n) ns = refl

-- what has this head and these children is the node that is made of them
node_of-parts : (node : Node) (head : Head) (ns : List NodeId) → node_head node ≡ head → node_children node ≡ ns → node ≡ node_of head ns
node_of-parts (nodes.Con c children) head ns head_is children_are = ap₂ node_of head_is children_are
node_of-parts (nodes.Elem s n) head ns head_is children_are = ap (λ (x : Head). node_of x ns) head_is

-- the same of what stands at an index
pub node_of-found : (g : Nodes) (n : ℕ) (head : Head) (ns : List NodeId) → option_map node_head (slice_get g n) ≡ Some head → option_map node_children (slice_get g n) ≡ Some ns → slice_get g n ≡ Some (node_of head ns)
node_of-found g n head ns at_head at_children =
    let found = option_map-source node_head (slice_get g n) head at_head in
    let same : Some (node_children found.0) ≡ Some ns = sym (ap (option_map node_children) found.1) ∙ at_children in
    found.1 ∙ ap Some (node_of-parts found.0 head ns found.2 (same_Some (node_children found.0) ns same))

-- ---- bounds

-- there are as many ends as heads
pub ends_long : (from : ℕ) (heads : List Head) (ends : List ℕ) (all : ℕ) → ArePacked from heads ends all → length ends ≡ length heads
ends_long from [] [] all packed = refl
ends_long from [] (end ∷ ends) all packed = absurd packed
ends_long from (head ∷ heads) [] all packed = absurd packed
ends_long from (head ∷ heads) (end ∷ ends) all packed = ap suc (ends_long end heads ends all packed.1)

-- there are as many nodes as heads
pub unpacked_long : (from : ℕ) (heads : List Head) (ends : List ℕ) (children : List NodeId) (all : ℕ) → ArePacked from heads ends all → length (unpacked from heads ends children) ≡ length heads
unpacked_long from [] ends children all packed = refl
unpacked_long from (head ∷ heads) [] children all packed = absurd packed
unpacked_long from (head ∷ heads) (end ∷ ends) children all packed = ap suc (unpacked_long end heads ends children all packed.1)

-- the index where the children of the first begin is not beyond all
from_within : (from : ℕ) (heads : List Head) (ends : List ℕ) (all : ℕ) → ArePacked from heads ends all → from ≤ all
from_within from [] [] all packed = omega (arith, packed)
from_within from [] (end ∷ ends) all packed = absurd packed
from_within from (head ∷ heads) [] all packed = absurd packed
from_within from (head ∷ heads) (end ∷ ends) all packed = omega (arith, packed.0, from_within end heads ends all packed.1)

-- the children of each node end where they begin or after it, and not beyond all
pub ends_within : (from : ℕ) (heads : List Head) (ends : List ℕ) (all n start end : ℕ) → ArePacked from heads ends all → slice_get (from ∷ ends) n ≡ Some start → slice_get ends n ≡ Some end → (start ≤ end) × (end ≤ all)
ends_within from heads [] all n start end packed at_start at_end = absurd (none-some end at_end)
ends_within from [] (e ∷ ends) all n start end packed at_start at_end = absurd packed
ends_within from (head ∷ heads) (e ∷ ends) all zero start end packed at_start at_end =
    let first : from ≡ start = same_Some from start at_start in
    let last : e ≡ end = same_Some e end at_end in
    (omega (arith, first, last, packed.0), omega (arith, last, from_within e heads ends all packed.1))
ends_within from (head ∷ heads) (e ∷ ends) all (suc n) start end packed at_start at_end =
    ends_within e heads ends all n start end packed.1 at_start at_end

-- ---- what stands at a number

-- a node is its head with the children from the end before its own on
pub unpacked_at : (from : ℕ) (heads : List Head) (ends : List ℕ) (children : List NodeId) (n : ℕ) (head : Head) (start end : ℕ) → slice_get heads n ≡ Some head → slice_get (from ∷ ends) n ≡ Some start → slice_get ends n ≡ Some end → slice_get (unpacked from heads ends children) n ≡ Some (node_of head (take (end - start) (drop start children)))
unpacked_at from [] ends children n head start end at_head at_start at_end = absurd (none-some head at_head)
unpacked_at from (h ∷ heads) [] children n head start end at_head at_start at_end = absurd (none-some end at_end)
unpacked_at from (h ∷ heads) (e ∷ ends) children zero head start end at_head at_start at_end =
    let head_is : h ≡ head = same_Some h head at_head in
    let start_is : from ≡ start = same_Some from start at_start in
    let end_is : e ≡ end = same_Some e end at_end in
    cc
unpacked_at from (h ∷ heads) (e ∷ ends) children (suc n) head start end at_head at_start at_end =
    unpacked_at e heads ends children n head start end at_head at_start at_end

-- each head has its node
pub node_unpacked : (from : ℕ) (heads : List Head) (ends : List ℕ) (children : List NodeId) (all n : ℕ) (head : Head) → ArePacked from heads ends all → slice_get heads n ≡ Some head → (ns : List NodeId) × (slice_get (unpacked from heads ends children) n ≡ Some (node_of head ns))
node_unpacked from [] ends children all n head packed at = absurd (none-some head at)
node_unpacked from (h ∷ heads) [] children all n head packed at = absurd packed
node_unpacked from (h ∷ heads) (e ∷ ends) children all zero head packed at =
    let ns = take (e - from) (drop from children) in
    (ns, ap (λ (x : Head). Some (node_of x ns)) (same_Some h head at))
node_unpacked from (h ∷ heads) (e ∷ ends) children all (suc n) head packed at = node_unpacked e heads ends children all n head packed.1 at

-- ---- one node more

-- a part of a list is one of a longer list
part-append : {X : Type 0} (xs ys : List X) (from count : ℕ) → from + count ≤ length xs → take count (drop from (xs ++ ys)) ≡ take count (drop from xs)
part-append xs ys from count within =
    let prefix : from ≤ length xs = omega arith in
    ap (take count) (drop-append-le from xs ys prefix) ∙ take-append-le count (drop from xs) ys (omega (arith, length-drop from xs))

-- what was added to a list is what comes after it
part-added : {X : Type 0} (xs ys : List X) (from end : ℕ) → from ≡ length xs → end ≡ length (xs ++ ys) → take (end - from) (drop from (xs ++ ys)) ≡ ys
part-added xs ys from end start_is end_is =
    let rest : drop from (xs ++ ys) ≡ ys = ap (λ n. drop n (xs ++ ys)) start_is ∙ drop-append_seam xs ys in
    ap (take (end - from)) rest ∙ take_all (end - from) ys (omega (arith, length-append xs ys))

-- one head more with an end that is not before the last
pub ArePacked-push : (from : ℕ) (heads : List Head) (ends : List ℕ) (all : ℕ) (head : Head) (end : ℕ) → ArePacked from heads ends all → all ≤ end → ArePacked from (heads ++ head ∷ []) (ends ++ end ∷ []) end
ArePacked-push from [] [] all head end packed le = (omega (arith, packed), refl)
ArePacked-push from [] (e ∷ ends) all head end packed le = absurd packed
ArePacked-push from (h ∷ heads) [] all head end packed le = absurd packed
ArePacked-push from (h ∷ heads) (e ∷ ends) all head end packed le = (packed.0, ArePacked-push e heads ends all head end packed.1 le)

-- one head more, whose children are after the others, is one node more
pub unpacked-push : (from : ℕ) (heads : List Head) (ends : List ℕ) (children : List NodeId) (head : Head) (added : List NodeId) (end : ℕ) → ArePacked from heads ends (length children) → end ≡ length (children ++ added) → unpacked from (heads ++ head ∷ []) (ends ++ end ∷ []) (children ++ added) ≡ unpacked from heads ends children ++ node_of head added ∷ []
unpacked-push from [] [] children head added end packed end_is =
    ap (λ (ns : List NodeId). node_of head ns ∷ []) (part-added children added from end packed end_is)
unpacked-push from [] (e ∷ ends) children head added end packed end_is = absurd packed
unpacked-push from (h ∷ heads) [] children head added end packed end_is = absurd packed
unpacked-push from (h ∷ heads) (e ∷ ends) children head added end packed end_is =
    let within : e ≤ length children = from_within e heads ends (length children) packed.1 in
    let first : take (e - from) (drop from (children ++ added)) ≡ take (e - from) (drop from children) = part-append children added from (e - from) (omega (arith, packed.0, within)) in
    ap₂ (λ (ns : List NodeId) (nodes : Nodes). node_of h ns ∷ nodes) first (unpacked-push e heads ends children head added end packed.1 end_is)
