-- Nodes with new numbers agree with the nodes that they stand for.
use Rattle.std.proofs.Common.{◌≡◌, ℕ, zero, suc, ◌<◌, Bool, true, IsTrue, List, [], ◌∷◌, ◌++◌, length, Some, slice_get, get_or, All, refl, sym, ap, ap₂, subst, ◌∙◌, inl, inr, arith, true≢false, eq-or-lt_of_le, nat_eq}
use Rattle.std.specs.List.{AllZip, IsDistinct}
use Rattle.std.proofs.lemmas.Option.{same_Some, slice_get_within, slice_get-get_or, get_or_from_slice_get}
use Rattle.std.proofs.lemmas.List.Elements.{All-nil, All-cons}
use Rattle.std.proofs.lemmas.Bool.{cases_lt}
use Rattle.std.proofs.lemmas.Map.Keys.{apart_from_distinct}
use Rattle.std.proofs.lemmas.Bool.Decides.{Decides-eqb}
use Rattle.ct_lemmas.proofs.Lists.{slice_get-push_cases, slice_get-there}
use Rattle.ct_values.specs.declared.node.NodeId.{NodeId}
use Rattle.ct_values.specs.declared.node.Node.{Node}
use Rattle.ct_values.specs.Graph.{Nodes, IsClosed, HasChildrenBelow, node_children}
use Rattle.ct_values.specs.Agreement.{Point, node_point, agree, AgreeAlways}
use Rattle.ct_values.specs.Renumbering.{Stay, StandFor, IsRenumbered, AreRenumbered}
use Rattle.ct_values.proofs.AgreeLemmas.{agree-zero}
use Rattle.ct_values.proofs.NodeLemmas.{node_points, agree-nodes}

module _ {X : Type 0} where
  -- where the test holds of no two indices, and of each element and itself, an element stands at one index
  pub one_index : (eq : X → X → Bool) → ((x : X) → eq x x ≡ true) → (xs : List X) → IsDistinct eq xs → (i j : ℕ) (x : X) → slice_get xs i ≡ Some x → slice_get xs j ≡ Some x → i ≡ j
  one_index eq own xs distinct i j x at_i at_j = elim (cases_lt i j) [
    | inl less ↦ absurd (apart i j less at_i at_j)
    | inr le ↦ elim (eq-or-lt_of_le le) [ inl e ↦ sym e | inr less ↦ absurd (apart j i less at_j at_i) ]
  ]
    where
      apart : (a b : ℕ) → a < b → slice_get xs a ≡ Some x → slice_get xs b ≡ Some x → ⊥
      apart a b less at_a at_b =
          let test = apart_from_distinct eq xs a b x distinct less (slice_get_within xs b x at_b) in
          true≢false (sym (own x) ∙ sym (ap₂ eq (get_or_from_slice_get xs a x x at_a) (get_or_from_slice_get xs b x x at_b)) ∙ test)

-- different numbers stand at different indices
pub unique_indices : (ids : List ℕ) → IsDistinct nat_eq ids → (i j n : ℕ) → slice_get ids i ≡ Some n → slice_get ids j ≡ Some n → i ≡ j
unique_indices = one_index nat_eq (λ n. (Decides-eqb n n).1 refl)

-- what stays twice stays
pub Stay-trans : {X : Type 0} (a b c : List X) → Stay a b → Stay b c → Stay a c
Stay-trans a b c first second i x e = second i x (first i x e)

-- new numbers keep standing for the old ones
pub StandFor-stay : (old new : List ℕ) (ps ns : List NodeId) → Stay old new → StandFor old ps ns → StandFor new ps ns
StandFor-stay old new [] [] stay h = h
StandFor-stay old new [] (n ∷ ns) stay h = h
StandFor-stay old new (p ∷ ps) [] stay h = h
StandFor-stay old new (p ∷ ps) (n ∷ ns) stay h = (stay p.0 n.0 h.0, StandFor-stay old new ps ns stay h.1)

IsRenumbered-stay : (g : Nodes) (old new : List ℕ) (n : ℕ) (node : Node) → Stay old new → IsRenumbered g old n node → IsRenumbered g new n node
IsRenumbered-stay g old new n node stay r = record {
  source = r.source;
  stands = r.stands;
  head = r.head;
  children = StandFor-stay old new (node_children node) (node_children r.source) stay r.children;
}

-- one more node
pub AreRenumbered-push : (g : Nodes) (old new : List ℕ) (nodes : List Node) (n : ℕ) (node : Node) → Stay old new → slice_get old (length nodes) ≡ Some n → AreRenumbered g old nodes → IsRenumbered g new n node → AreRenumbered g new (nodes ++ node ∷ [])
AreRenumbered-push g old new nodes n node stay at_n all one i m x at_x at_m =
    elim (slice_get-push_cases nodes node x i at_x) [
      | inl e ↦
          let within : i < length nodes = slice_get_within nodes i x e in
          let end : length nodes < length old = slice_get_within old (length nodes) n at_n in
          let had = slice_get-there old i (omega arith) in
          let same : had.0 ≡ m = same_Some had.0 m (sym (stay i had.0 had.1) ∙ at_m) in
          IsRenumbered-stay g old new m x stay (all i m x e (had.1 ∙ ap Some same))
      | inr e ↦
          let same : n ≡ m = same_Some n m (sym (stay (length nodes) n at_n) ∙ ap (slice_get new) (sym e.0) ∙ at_m) in
          subst (λ k. IsRenumbered g new k x) same (subst (IsRenumbered g new n) e.1 one)
    ]

-- new numbers are indices
StandFor-below : (ids : List ℕ) (ps ns : List NodeId) → StandFor ids ps ns → All (λ p. p.0 < length ids) ps
StandFor-below ids [] ns h = All-nil (λ p. p.0 < length ids)
StandFor-below ids (p ∷ ps) [] h = absurd h
StandFor-below ids (p ∷ ps) (n ∷ ns) h =
    All-cons (λ q. q.0 < length ids) p ps (slice_get_within ids p.0 n.0 h.0) (StandFor-below ids ps ns h.1)

-- as many nodes as numbers make a closed graph
pub IsClosed-renumbered : (g : Nodes) (ids : List ℕ) (nodes : List Node) → AreRenumbered g ids nodes → length nodes ≡ length ids → IsClosed nodes
IsClosed-renumbered g ids nodes all long i d within =
    let node = get_or nodes i d in
    let n = slice_get-there ids i (omega arith) in
    let r = all i n.0 node (slice_get-get_or nodes i d within) n.1 in
    subst (λ m. HasChildrenBelow m node) (sym long) (StandFor-below ids (node_children node) (node_children r.source) r.children)

-- what holds of each new number and the old one that it stands for
AllZip-points : (R : Point → Point → Type 0) (new g : Nodes) (ids : List ℕ) (ps ns : List NodeId) → ((p n : NodeId) → slice_get ids p.0 ≡ Some n.0 → R (node_point new p) (node_point g n)) → StandFor ids ps ns → AllZip R (node_points new ps) (node_points g ns)
AllZip-points R new g ids [] [] each h = tt
AllZip-points R new g ids [] (n ∷ ns) each h = h
AllZip-points R new g ids (p ∷ ps) [] each h = h
AllZip-points R new g ids (p ∷ ps) (n ∷ ns) each h =
    (each p n h.0, AllZip-points R new g ids ps ns each h.1)

-- a node with a new number agrees at every depth with the one that it stands for
pub AgreeAlways-renumbered : (g : Nodes) (ids : List ℕ) (nodes : List Node) → AreRenumbered g ids nodes → length nodes ≡ length ids → (p n : NodeId) → slice_get ids p.0 ≡ Some n.0 → AgreeAlways (node_point nodes p) (node_point g n)
AgreeAlways-renumbered g ids nodes all long p n at zero = agree-zero (node_point nodes p) (node_point g n)
AgreeAlways-renumbered g ids nodes all long p n at (suc k) =
    let within : p.0 < length ids = slice_get_within ids p.0 n.0 at in
    let node = slice_get-there nodes p.0 (omega arith) in
    let r = all p.0 n.0 node.0 node.1 at in
    agree-nodes k nodes g p n node.0 r.source node.1 r.stands r.head
    (AllZip-points (λ a b. IsTrue (agree k a b)) nodes g ids (node_children node.0) (node_children r.source) (λ q m e. AgreeAlways-renumbered g ids nodes all long q m e k) r.children)
