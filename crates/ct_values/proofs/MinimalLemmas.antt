-- The minimal graph of a tree is a function of the tree, and no graph of the tree has fewer nodes.
use Rattle.std.proofs.Common.{◌≡◌, ℕ, zero, suc, ◌+◌, ◌<◌, ◌≤◌, ◌↔◌, true, false, List, [], ◌∷◌, length, map, Some, slice_get, nat_eq, refl, sym, ap, ap₂, subst, ◌∙◌, inl, inr, arith, true≢false, eq-or-lt_of_le}
use Rattle.std.specs.List.{AllZip, AllByRecursion, IsDistinct, list_any}
use Rattle.std.proofs.lemmas.Bool.Decides.{Decides-eqb}
use Rattle.std.proofs.lemmas.Option.{none-some, slice_get_within}
use Rattle.std.proofs.lemmas.Map.Steps.{length-le_from_distinct_below}
use Rattle.ct_lemmas.proofs.Booleans.{not_true}
use Rattle.ct_lemmas.proofs.Lists.{slice_get-there}
use Rattle.ct_lemmas.proofs.Options.{option_map-source}
use Rattle.ct_values.specs.declared.node.NodeId.{NodeId}
use Rattle.ct_values.specs.declared.node.Node.{Node}
use Rattle.ct_values.specs.declared.node.Node.TheVariants.{Con, Elem}
use Rattle.ct_values.specs.Graph.{Nodes, IsClosed, node_head, node_children}
use Rattle.ct_values.specs.Agreement.{Point, node_point, AgreeAlways}
use Rattle.ct_values.specs.Minimal.{IsMinimal}
use Rattle.ct_values.specs.Numbering.{CountsUp, IsInOrder}
use Rattle.ct_values.proofs.GraphLemmas.{closed_children}
use Rattle.ct_values.proofs.NodeLemmas.{id, node_points, AgreeAlways-nodes, head_at}
use Rattle.ct_values.proofs.NumberedLemmas.{numbered-IsBreadthFirst, IsBreadthFirst-positive}
use Rattle.ct_values.proofs.AgreeLemmas.{AgreeAlways-sym, AgreeAlways-trans, AgreeAlways-meet, AgreeAlways-parts}
use Rattle.ct_values.proofs.CountLemmas.{is_among}

-- two points with which a third agrees at every depth do so with each other
part : (p q r : Point) → AgreeAlways r p → AgreeAlways r q → AgreeAlways p q
part p q r first second = AgreeAlways-trans p r q (AgreeAlways-sym r p first) second

-- a node is its head and its children
node_is : (x y : Node) → node_head x ≡ node_head y → node_children x ≡ node_children y → x ≡ y
node_is (Con c xs) (Con d ys) heads same = cc
node_is (Con c xs) (Elem s n) heads same = cc
node_is (Elem s n) (Con c xs) heads same = cc
node_is (Elem s m) (Elem t n) heads same = cc

-- ---- two minimal graphs

-- nodes with one number below the count are in both graphs and agree at every depth
abbrev AreMatched : Nodes → Nodes → ℕ → Type 0
AreMatched s t met = (n : NodeId) → n.0 < met → (n.0 < length s) × (n.0 < length t) × AgreeAlways (node_point s n) (node_point t n)

-- no two nodes agree at every depth
abbrev AreApart : Nodes → Type 0
AreApart s = (m n : NodeId) → m.0 < length s → n.0 < length s → AgreeAlways (node_point s m) (node_point s n) → m ≡ n

-- children that agree at every depth and count up in both graphs are the same, and match
same_children : (s t : Nodes) (met m n : ℕ) (cs ds : List NodeId) → AreApart s → AreApart t → AllByRecursion (λ c. c.0 < length s) cs → AllByRecursion (λ d. d.0 < length t) ds → AllZip AgreeAlways (node_points s cs) (node_points t ds) → CountsUp met (map (λ c. c.0) cs) m → CountsUp met (map (λ d. d.0) ds) n → AreMatched s t met → (cs ≡ ds) × (m ≡ n) × AreMatched s t m
same_children s t met m n [] [] s_apart t_apart cs_in ds_in pairs to_m to_n matched =
    (refl, sym to_m ∙ to_n, subst (AreMatched s t) to_m matched)
same_children s t met m n [] (d ∷ ds) s_apart t_apart cs_in ds_in pairs to_m to_n matched = absurd pairs
same_children s t met m n (c ∷ cs) [] s_apart t_apart cs_in ds_in pairs to_m to_n matched = absurd pairs
same_children s t met m n (c ∷ cs) (d ∷ ds) s_apart t_apart cs_in ds_in pairs (inl old) (inl other) matched =
    let had = matched c old.0 in
    let is : c ≡ d = t_apart c d had.1 ds_in.0 (part (node_point t c) (node_point t d) (node_point s c) had.2 pairs.0) in
    let rest = same_children s t met m n cs ds s_apart t_apart cs_in.1 ds_in.1 pairs.1 old.1 other.1 matched in
    (ap₂ (λ (x : NodeId) (xs : List NodeId). x ∷ xs) is rest.0, rest.1, rest.2)
same_children s t met m n (c ∷ cs) (d ∷ ds) s_apart t_apart cs_in ds_in pairs (inl old) (inr new) matched =
    let had = matched c old.0 in
    let is : c ≡ d = t_apart c d had.1 ds_in.0 (part (node_point t c) (node_point t d) (node_point s c) had.2 pairs.0) in
    let number : c.0 ≡ d.0 = ap (λ x. x.0) is in
    absurd (omega (arith, old.0, new.0, number))
same_children s t met m n (c ∷ cs) (d ∷ ds) s_apart t_apart cs_in ds_in pairs (inr new) (inl old) matched =
    let had = matched d old.0 in
    let is : c ≡ d = s_apart c d cs_in.0 had.0 (AgreeAlways-meet (node_point s c) (node_point s d) (node_point t d) pairs.0 had.2) in
    let number : c.0 ≡ d.0 = ap (λ x. x.0) is in
    absurd (omega (arith, old.0, new.0, number))
same_children s t met m n (c ∷ cs) (d ∷ ds) s_apart t_apart cs_in ds_in pairs (inr new) (inr other) matched =
    let numbers : c.0 ≡ d.0 = new.0 ∙ sym other.0 in
    let is : c ≡ d = λ i. record { 0 = numbers i } in
    let rest = same_children s t (suc met) m n cs ds s_apart t_apart cs_in.1 ds_in.1 pairs.1 new.1 other.1 more in
    (ap₂ (λ (x : NodeId) (xs : List NodeId). x ∷ xs) is rest.0, rest.1, rest.2)
  where
    more : AreMatched s t (suc met)
    more k less =
        let le : k.0 ≤ met = omega arith in
        elim (eq-or-lt_of_le le) [
          | inl e ↦
              let to_c : c.0 ≡ k.0 = new.0 ∙ sym e in
              let to_d : d.0 ≡ k.0 = other.0 ∙ sym e in (
                omega (arith, to_c, cs_in.0),
                omega (arith, to_d, ds_in.0),
                subst (λ j. AgreeAlways (node_point s (id j)) (node_point t k)) to_c (subst (λ j. AgreeAlways (node_point s c) (node_point t (id j))) to_d pairs.0),
              )
          | inr before ↦ matched k before
        ]

-- these are the nodes from the index on
abbrev IsRest : Nodes → ℕ → List Node → Type 0
IsRest s index nodes = (i : ℕ) → slice_get s (index + i) ≡ slice_get nodes i

here : (s : Nodes) (index : ℕ) (x : Node) (xs : List Node) → IsRest s index (x ∷ xs) → slice_get s index ≡ Some x
here s index x xs rest = ap (slice_get s) (omega arith) ∙ rest 0

further : (s : Nodes) (index : ℕ) (x : Node) (xs : List Node) → IsRest s index (x ∷ xs) → IsRest s (suc index) xs
further s index x xs rest i = ap (slice_get s) (omega arith) ∙ rest (suc i)

no_rest : (s : Nodes) (index : ℕ) → IsRest s index [] → index < length s → ⊥
no_rest s index rest within =
    let x = slice_get-there s index within in
    none-some x.0 (sym (ap (slice_get s) (omega arith) ∙ rest 0) ∙ x.1)

-- from an index on to which all is matched they have the same nodes
same_rest : (s t : Nodes) (met index m n : ℕ) (xs ys : List Node) → IsClosed s → IsClosed t → AreApart s → AreApart t → IsRest s index xs → IsRest t index ys → IsInOrder met index xs m → IsInOrder met index ys n → AreMatched s t met → xs ≡ ys
same_rest s t met index m n [] [] s_closed t_closed s_apart t_apart s_rest t_rest to_m to_n matched = refl
same_rest s t met index m n [] (y ∷ ys) s_closed t_closed s_apart t_apart s_rest t_rest to_m to_n matched =
    absurd (no_rest s index s_rest (matched (id index) to_n.0).0)
same_rest s t met index m n (x ∷ xs) [] s_closed t_closed s_apart t_apart s_rest t_rest to_m to_n matched =
    absurd (no_rest t index t_rest (matched (id index) to_m.0).1)
same_rest s t met index m n (x ∷ xs) (y ∷ ys) s_closed t_closed s_apart t_apart s_rest t_rest to_m to_n matched =
    let at_x = here s index x xs s_rest in
    let at_y = here t index y ys t_rest in
    let parts = AgreeAlways-nodes s t (id index) (id index) x y at_x at_y (matched (id index) to_m.0).2 in
    let same = same_children s t met to_m.1.0 to_n.1.0 (node_children x) (node_children y) s_apart t_apart (closed_children s index x s_closed at_x) (closed_children t index y t_closed at_y) parts.1 to_m.1.1 to_n.1.1 matched in
    let order : IsInOrder to_m.1.0 (suc index) ys n = subst (λ k. IsInOrder k (suc index) ys n) (sym same.1) to_n.1.2 in
    let rest = same_rest s t to_m.1.0 (suc index) m n xs ys s_closed t_closed s_apart t_apart (further s index x xs s_rest) (further t index y ys t_rest) to_m.1.2 order same.2 in
    ap₂ (λ (z : Node) (zs : List Node). z ∷ zs) (node_is x y parts.0 same.0) rest

-- two trees, each in its own graph, have one minimal graph exactly where they are equal
pub one_minimal : (g h : Nodes) (a b : NodeId) (s t : Nodes) → IsMinimal g a s → IsMinimal h b t → (s ≡ t) ↔ AgreeAlways (node_point g a) (node_point h b)
one_minimal g h a b s t first second = (
  λ e. part (node_point g a) (node_point h b) (node_point s (id 0)) first.same (subst (λ (u : Nodes). AgreeAlways (node_point u (id 0)) (node_point h b)) (sym e) second.same),
  λ alike.
      let roots : AgreeAlways (node_point s (id 0)) (node_point t (id 0)) = AgreeAlways-meet (node_point s (id 0)) (node_point t (id 0)) (node_point h b) (AgreeAlways-trans (node_point s (id 0)) (node_point g a) (node_point h b) first.same alike) second.same in
      same_rest s t 1 0 (length s) (length t) s t first.closed second.closed first.apart second.apart (λ i. ap (slice_get s) (omega arith)) (λ i. ap (slice_get t) (omega arith)) (numbered-IsBreadthFirst s first.breadth_first) (numbered-IsBreadthFirst t second.breadth_first) (λ n less. root_matched roots n (omega arith)),
)
  where
    root_matched : AgreeAlways (node_point s (id 0)) (node_point t (id 0)) → (n : NodeId) → n.0 ≡ 0 → (n.0 < length s) × (n.0 < length t) × AgreeAlways (node_point s n) (node_point t n)
    root_matched roots n e =
        let s_positive = IsBreadthFirst-positive s first.breadth_first in
        let t_positive = IsBreadthFirst-positive t second.breadth_first in
        (omega arith, omega arith, subst (λ k. AgreeAlways (node_point s (id k)) (node_point t (id k))) (sym e) roots)

-- ---- the nodes of a minimal graph

-- what agrees at every depth with a node is a node with this head, and their children agree
pub agreeing_node : (g h : Nodes) (m n : NodeId) (x : Node) → slice_get g m.0 ≡ Some x → AgreeAlways (node_point g m) (node_point h n) → (y : Node) × (slice_get h n.0 ≡ Some y) × (node_head y ≡ node_head x) × AllZip AgreeAlways (node_points g (node_children x)) (node_points h (node_children y))
agreeing_node g h m n x at always =
    let parts = (AgreeAlways-parts (node_point g m) (node_point h n)).0 always in
    let y = option_map-source node_head (slice_get h n.0) (node_head x) (sym parts.0 ∙ head_at g m x at) in
    (y.0, y.1, y.2, (AgreeAlways-nodes g h m n x y.0 at y.1 always).1)

-- a child among the children has one that agrees with it at every depth among children that agree with them
child_like : (s g : Nodes) (n : ℕ) (cs ds : List NodeId) → list_any (nat_eq n) (map (λ c. c.0) cs) ≡ true → AllZip AgreeAlways (node_points s cs) (node_points g ds) → (m : NodeId) × AgreeAlways (node_point s (id n)) (node_point g m)
child_like s g n [] ds has pairs = absurd (true≢false (sym has))
child_like s g n (c ∷ cs) [] has pairs = absurd pairs
child_like s g n (c ∷ cs) (d ∷ ds) has pairs =
    elim ((is_among n c.0 (map (λ x. x.0) cs)).0 has) [
      | inl e ↦ (d, subst (λ k. AgreeAlways (node_point s (id k)) (node_point g d)) (sym e) pairs.0)
      | inr e ↦ child_like s g n cs ds e pairs.1
    ]

-- each node of the minimal graph of a tree agrees at every depth with a node of the tree's graph
like_below : (g s : Nodes) (a : NodeId) → IsMinimal g a s → (bound n : ℕ) → n < bound → n < length s → (m : NodeId) × AgreeAlways (node_point s (id n)) (node_point g m)
like_below g s a minimal zero n below within = absurd (omega arith)
like_below g s a minimal (suc bound) zero below within = (a, minimal.same)
like_below g s a minimal (suc bound) (suc n) below within =
    let has = minimal.breadth_first.reached (suc n) (omega arith) within in
    let parent = like_below g s a minimal bound has.0 (omega (arith, has.1)) (omega (arith, has.1)) in
    let x = has.2.0 in
    let y = agreeing_node s g (id has.0) parent.0 x has.2.1 parent.1 in
    child_like s g (suc n) (node_children x) (node_children y.0) has.2.2 y.3

pub like : (g s : Nodes) (a : NodeId) → IsMinimal g a s → (n : ℕ) → n < length s → (m : NodeId) × AgreeAlways (node_point s (id n)) (node_point g m)
like g s a minimal n within = like_below g s a minimal (suc n) n (omega arith) within

-- ---- no graph of the tree has fewer nodes

-- a number that is not among others differs from each
not_among : (q : ℕ) (ms : List ℕ) → (list_any (nat_eq q) ms ≡ true → ⊥) → AllByRecursion (λ m. nat_eq q m ≡ false) ms
not_among q [] none = tt
not_among q (m ∷ ms) none =
    (not_true (nat_eq q m) (λ e. none ((is_among q m ms).1 (inl ((Decides-eqb q m).0 e)))), not_among q ms (λ e. none ((is_among q m ms).1 (inr e))))

-- the minimal graph of a tree is that of each equal node
IsMinimal-same : (g h : Nodes) (a b : NodeId) (s : Nodes) → IsMinimal g a s → AgreeAlways (node_point h b) (node_point g a) → IsMinimal h b s
IsMinimal-same g h a b s minimal alike = record {
  closed = minimal.closed;
  apart = minimal.apart;
  same = AgreeAlways-meet (node_point s (id 0)) (node_point h b) (node_point g a) minimal.same alike;
  breadth_first = minimal.breadth_first;
}

module _ (h s : Nodes) (b : NodeId) (minimal : IsMinimal h b s) where
  -- each node of the minimal graph agrees at every depth with a node of the other graph
  node_like : (n : ℕ) → n < length s → (m : NodeId) × (m.0 < length h) × AgreeAlways (node_point s (id n)) (node_point h m)
  node_like n within =
      let m = like h s b minimal n within in
      let x = slice_get-there s n within in
      let y = agreeing_node s h (id n) m.0 x.0 x.1 m.1 in
      (m.0, slice_get_within h m.0.0 y.0 y.1, m.1)

  -- these numbers are of nodes of the other graph, and each agrees with one of the first nodes
  abbrev AreLike : ℕ → List ℕ → Type 0
  AreLike count ms = (q : ℕ) → list_any (nat_eq q) ms ≡ true → (q < length h) × ((i : ℕ) × (i < count) × AgreeAlways (node_point s (id i)) (node_point h (id q)))

  -- as many different such numbers as there are first nodes
  likenesses : (count : ℕ) → count ≤ length s → (ms : List ℕ) × (length ms ≡ count) × IsDistinct nat_eq ms × AreLike count ms
  unfolding IsDistinct
  likenesses zero le = ([], refl, tt, λ q has. absurd (true≢false (sym has)))
  likenesses (suc count) le =
      let before = likenesses count (omega arith) in
      let one = node_like count (omega arith) in
      let ms = before.0 in
      let other : list_any (nat_eq one.0.0) ms ≡ true → ⊥ = λ has.
      let had = (before.3 one.0.0 has).1 in
      let is = minimal.apart (id had.0) (id count) (omega (arith, had.1)) (omega arith) (AgreeAlways-meet (node_point s (id had.0)) (node_point s (id count)) (node_point h one.0) had.2 one.2) in
      let number : had.0 ≡ count = ap (λ n. n.0) is in
      omega (arith, had.1, number) in (
        one.0.0 ∷ ms,
        ap suc before.1,
        (not_among one.0.0 ms other, before.2),
        λ q has. elim ((is_among q one.0.0 ms).0 has) [
          | inl e ↦ (omega (arith, e, one.1), (count, omega arith, subst (λ k. AgreeAlways (node_point s (id count)) (node_point h (id k))) (sym e) one.2))
          | inr e ↦ let had = before.3 q e in (had.0, (had.1.0, omega (arith, had.1.1), had.1.2))
        ],
      )

  fewest : length s ≤ length h
  fewest =
      let all = likenesses (length s) (omega arith) in
      let few = length-le_from_distinct_below all.0 (length h) all.2 (λ q has. (all.3 q has).0) in
      omega (arith, all.1, few)

-- no graph with an equal node has fewer nodes
pub fewest_nodes : (g h : Nodes) (a b : NodeId) (s : Nodes) → IsMinimal g a s → AgreeAlways (node_point h b) (node_point g a) → length s ≤ length h
fewest_nodes g h a b s minimal alike = fewest h s b (IsMinimal-same g h a b s minimal alike)
