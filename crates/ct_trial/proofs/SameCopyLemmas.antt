-- Lists that are made the same, element by element.
use lib.Pointwise.{pointwise_decides}
use Rattle.std.proofs.Common.{◌≡◌, ℕ, Decides, true, ◌+◌, ◌<◌, List, [], ◌∷◌, ◌++◌, length, take, get_or, Some, slice_get, option_map, sym, ap, ◌∙◌}
use Rattle.std.proofs.lemmas.Bool.Decides.{Decides-eqb}
use Rattle.std.proofs.lemmas.List.{length_push}
use Rattle.std.proofs.lemmas.Option.{same_Some, slice_get-get_or}
use Rattle.ct_lemmas.proofs.Lists.{slice_get-there}
use Rattle.ct_lemmas.proofs.Prefixes.{take-slice_get_next, take-whole}
use Rattle.ct_values.specs.declared.node.NodeId.{NodeId}
use Rattle.ct_values.specs.declared.node.Head.{Head}
use Rattle.ct_values.specs.declared.node.Node.{Node}
use Rattle.ct_values.specs.declared.node.Node.TheVariants.{Con, Elem}
use Rattle.ct_values.specs.Graph.{Nodes, node_head, node_children}
use Rattle.ct_values.specs.NodeIdTest.{same_node, same_nodes}

module _ {X : Type 0} where
  -- lists that agree so far agree with one element more
  pub agree_next : (xs ys : List X) (n : ℕ) (x : X) → take n xs ≡ take n ys → slice_get xs n ≡ Some x → slice_get ys n ≡ Some x → take (n + 1) xs ≡ take (n + 1) ys
  agree_next xs ys n x same here there =
      take-slice_get_next xs n x here ∙ ap (λ (l : List X). l ++ x ∷ []) same ∙ sym (take-slice_get_next ys n x there)

  -- where the elements at an index are the same
  pub agree_at : (xs ys : List X) (n : ℕ) (x y : X) → n < length xs → n < length ys → get_or xs n x ≡ get_or ys n y → take n xs ≡ take n ys → take (n + 1) xs ≡ take (n + 1) ys
  agree_at xs ys n x y within there e same =
      agree_next xs ys n (get_or xs n x) same (slice_get-get_or xs n x within) (slice_get-get_or ys n y there ∙ ap (λ (z : X). Some z) (sym e))

  -- the first part of a list, with the next element
  pub begun_next : (xs ys : List X) (x : X) → slice_get ys (length xs) ≡ Some x → xs ≡ take (length xs) ys → xs ++ x ∷ [] ≡ take (length (xs ++ x ∷ [])) ys
  begun_next xs ys x at begun =
      ap (λ (l : List X). l ++ x ∷ []) begun ∙ sym (take-slice_get_next ys (length xs) x at) ∙ ap (λ (n : ℕ). take n ys) (sym (length_push xs x))

  -- lists that agree as far as one of them goes
  pub agree_whole : (xs ys : List X) (n : ℕ) → n ≡ length xs → take n xs ≡ take n ys → take n ys ≡ xs
  agree_whole xs ys n long same = sym same ∙ ap (λ (k : ℕ). take k xs) long ∙ take-whole xs

-- nodes with the same head and children are the same
pub one_node : (a b : Node) → node_head a ≡ node_head b → node_children a ≡ node_children b → a ≡ b
one_node (Con c xs) (Con d ys) heads children = cc
one_node (Con c xs) (Elem s n) heads children = absurd cc
one_node (Elem s n) (Con c xs) heads children = absurd cc
one_node (Elem s n) (Elem r k) heads children = cc

-- graphs whose nodes at a number have the same head and children agree there
pub node_next : (g h : Nodes) (n : ℕ) (top other : Head) (xs ys : List NodeId) → n < length g → n < length h → option_map node_head (slice_get g n) ≡ Some top → option_map node_head (slice_get h n) ≡ Some other
    → option_map node_children (slice_get g n) ≡ Some xs → option_map node_children (slice_get h n) ≡ Some ys → top ≡ other → xs ≡ ys → take n g ≡ take n h → take (n + 1) g ≡ take (n + 1) h
node_next g h n top other xs ys within there top_is other_is xs_is ys_is heads children same =
    let a = slice_get-there g n within in
    let b = slice_get-there h n there in
    let head_a : node_head a.0 ≡ top = same_Some (node_head a.0) top (ap (option_map node_head) (sym a.1) ∙ top_is) in
    let head_b : node_head b.0 ≡ other = same_Some (node_head b.0) other (ap (option_map node_head) (sym b.1) ∙ other_is) in
    let children_a : node_children a.0 ≡ xs = same_Some (node_children a.0) xs (ap (option_map node_children) (sym a.1) ∙ xs_is) in
    let children_b : node_children b.0 ≡ ys = same_Some (node_children b.0) ys (ap (option_map node_children) (sym b.1) ∙ ys_is) in
    let one : a.0 ≡ b.0 = one_node a.0 b.0 (head_a ∙ heads ∙ sym head_b) (children_a ∙ children ∙ sym children_b) in
    agree_next g h n a.0 same a.1 (b.1 ∙ ap (λ (x : Node). Some x) (sym one))

Decides-node : (m n : NodeId) → Decides (same_node m n) (m ≡ n)
Decides-node m n =
    let d = Decides-eqb m.0 n.0 in
    (λ h i. record { 0 = d.0 h i }, λ e. d.1 (ap (λ (k : NodeId). k.0) e))

-- lists of nodes whose test says so are the same
pub one_list : (xs ys : List NodeId) → same_nodes xs ys ≡ true → xs ≡ ys
one_list xs ys same = (pointwise_decides Decides-node xs ys).0 same
