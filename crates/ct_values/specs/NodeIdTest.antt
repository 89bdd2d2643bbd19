-- Numbers of nodes in order: when two lists of them are the same, and what is hashed of them.
use Rattle.std.specs.Prelude.{◌≡◌, Bool, List, nat_eq, IsTrue}
use Rattle.std.specs.Cmp.{IsEquivalence, on_equiv}
use Rattle.std.specs.Cmp.Lexicographic.{pointwise, lists_equiv}
use Rattle.std.specs.Hash as fed
use Rattle.std.specs.Hash.{HashWrites, same_Alike, on_Alike, items_Alike}
use Rattle.std.proofs.lemmas.Cmp.{nat_eq_equiv}
use Rattle.std.proofs.lemmas.Bool.Decides.{Decides-eqb}
use Rattle.ct_values.specs.declared.node.NodeId.{NodeId}

-- the two nodes have one number
abbrev pub same_node : NodeId → NodeId → Bool
same_node m n = nat_eq m.0 n.0

-- the two lists have the same nodes in the same order
abbrev pub same_nodes : List NodeId → List NodeId → Bool
same_nodes = pointwise same_node

-- the test is an equivalence
pub same_nodes_equiv : IsEquivalence same_nodes
same_nodes_equiv = lists_equiv (on_equiv (λ n. n.0) nat_eq_equiv)

-- how many nodes there are, and the number of each
abbrev pub hashed_nodes : List NodeId → HashWrites
hashed_nodes = fed.slice (λ n. fed.u64 n.0)

-- lists that are the same are hashed alike
pub hashed_nodes_alike : (s t : List NodeId) → IsTrue (same_nodes s t) → hashed_nodes s ≡ hashed_nodes t
hashed_nodes_alike = (items_Alike (on_Alike (λ (n : NodeId). n.0) (same_Alike fed.u64 Decides-eqb))).fed
