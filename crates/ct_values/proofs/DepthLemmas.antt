-- A bounded depth decides every depth: the pairs of values in play are finitely many, and so agreement settles.
use Rattle.std.proofs.Common.{◌≡◌, ℕ, zero, suc, ◌+◌, ◌-◌, ◌*◌, ◌<◌, ◌≤◌, Bool, true, ◌↔◌, IsTrue, List, [], ◌∷◌, ◌++◌, length, map, slice_get, Option, Some, None, option_map, unwrap_or, refl, sym, ap, ap₂, subst, ◌∙◌, inl, inr, arith, length-append, eq-or-lt_of_le, suc-mul}
use Rattle.std.specs.List.{AllZip, AllByRecursion}
use Rattle.std.specs.Option.{option_eq}
use Rattle.std.specs.Cmp.Lexicographic.{pointwise}
use Rattle.std.proofs.lemmas.List.{length-map}
use Rattle.ct_lemmas.proofs.Booleans.{both_parts, both_true}
use Rattle.ct_sorts.specs.declared.ids.CtorId.{CtorId}
use Rattle.ct_values.specs.declared.node.NodeId.{NodeId}
use Rattle.ct_values.specs.declared.node.Node.{Node}
use Rattle.ct_values.specs.Graph.{Nodes, IsClosed, node_children}
use Rattle.ct_values.specs.Value.{Value, Values, reference, element, construct, no_values, with_value, list_of, subterms, subterms_of_all}
use Rattle.ct_values.specs.Agreement.{Point, point, head, head_of, children, children_of, same_head, agree, size, same, AgreeAlways}
use Rattle.ct_values.proofs.AgreeLemmas.{agree-falls, AgreeAlways-parts}
use Rattle.ct_values.proofs.GraphLemmas.{closed_children}
use Rattle.ct_values.proofs.SettleLemmas.{In, In-left, In-right, In-split, settles, passes_before}

-- ---- the values in play at a point: the nodes of its graph, and the subterms of its value

references : ℕ → List Value
references zero = []
references (suc n) = reference (record { 0 = n }) ∷ references n

length-references : (n : ℕ) → length (references n) ≡ n
unfolding references
length-references zero = refl
length-references (suc n) = ap suc (length-references n)

in_references : (m : ℕ) (n : NodeId) → n.0 < m → In (reference n) (references m)
unfolding references
in_references zero n h = absurd (omega arith)
in_references (suc m) n h =
    let le : n.0 ≤ m = omega arith in
    elim (eq-or-lt_of_le le) [ inl e ↦ inl (ap (λ k. reference (record { 0 = k })) e) | inr less ↦ inr (in_references m n less) ]

no_construct : (m : ℕ) (c : CtorId) (vs : Values) → In (construct c vs) (references m) → ⊥
unfolding references
no_construct zero c vs h = absurd h
no_construct (suc m) c vs (inl e) = cc
no_construct (suc m) c vs (inr h) = no_construct m c vs h

in_play : Point → List Value
in_play p = references (length p.graph) ++ subterms p.value

length-in_play : (p : Point) → length (in_play p) ≡ size p
unfolding in_play
length-in_play p =
    length-append (references (length p.graph)) (subterms p.value) ∙ ap (λ n. n + length (subterms p.value)) (length-references (length p.graph))

-- ---- they are closed under children

own_subterm : (v : Value) → In v (subterms v)
own_subterm (reference n) = inl refl
own_subterm (element s n) = inl refl
own_subterm (construct c vs) = inl refl

listed : (vs : Values) (u : Value) → In u (list_of vs) → In u (subterms_of_all vs)
listed no_values u h = absurd h
listed (with_value v vs) u (inl e) =
    In-left u (subterms v) (subterms_of_all vs) (subst (λ w. In w (subterms v)) (sym e) (own_subterm v))
listed (with_value v vs) u (inr h) = In-right u (subterms v) (subterms_of_all vs) (listed vs u h)

under : Value → List Value
under (reference n) = []
under (element s n) = []
under (construct c vs) = list_of vs

mutual
  unfolding under

  deeper : (v : Value) (c : CtorId) (vs : Values) (u : Value) → In (construct c vs) (subterms v) → In u (list_of vs) → In u (subterms v)
  deeper (reference n) c vs u (inl e) k = cc
  deeper (reference n) c vs u (inr h) k = absurd h
  deeper (element s n) c vs u (inl e) k = cc
  deeper (element s n) c vs u (inr h) k = absurd h
  deeper (construct d ws) c vs u (inl e) k =
      inr (listed ws u (subst (λ v. In u (under v)) e k))
  deeper (construct d ws) c vs u (inr h) k = inr (deeper_in_all ws c vs u h k)

  deeper_in_all : (ws : Values) (c : CtorId) (vs : Values) (u : Value) → In (construct c vs) (subterms_of_all ws) → In u (list_of vs) → In u (subterms_of_all ws)
  deeper_in_all no_values c vs u h k = absurd h
  deeper_in_all (with_value w ws) c vs u h k =
      elim (In-split (construct c vs) (subterms w) (subterms_of_all ws) h) [
        | inl a ↦ In-left u (subterms w) (subterms_of_all ws) (deeper w c vs u a k)
        | inr b ↦ In-right u (subterms w) (subterms_of_all ws) (deeper_in_all ws c vs u b k)
      ]

reference_in : (m : ℕ) (ids : List NodeId) (u : Value) → AllByRecursion (λ child. child.0 < m) ids → In u (map reference ids) → In u (references m)
reference_in m [] u below h = absurd h
reference_in m (n ∷ ns) u below (inl e) = subst (λ v. In v (references m)) (sym e) (in_references m n below.0)
reference_in m (n ∷ ns) u below (inr h) = reference_in m ns u below.1 h

node_child_in : (g : Nodes) (n : NodeId) (found : Option Node) (u : Value) → IsClosed g → slice_get g n.0 ≡ found → In u (map reference (unwrap_or (option_map node_children found) [])) → In u (references (length g))
node_child_in g n None u closed e h = absurd h
node_child_in g n (Some node) u closed e h =
    reference_in (length g) (node_children node) u (closed_children g n.0 node closed e) h

children_in_play : (p : Point) (v u : Value) → IsClosed p.graph → In v (in_play p) → In u (children_of p.graph v) → In u (in_play p)
unfolding in_play
children_in_play p (reference n) u closed h k =
    In-left u (references (length p.graph)) (subterms p.value) (node_child_in p.graph n (slice_get p.graph n.0) u closed refl k)
children_in_play p (element s n) u closed h k = absurd k
children_in_play p (construct c vs) u closed h k =
    elim (In-split (construct c vs) (references (length p.graph)) (subterms p.value) h) [
      | inl a ↦ absurd (no_construct (length p.graph) c vs a)
      | inr b ↦ In-right u (references (length p.graph)) (subterms p.value) (deeper p.value c vs u b k)
    ]

-- ---- the pairs of two lists

pairs : List Value → List Value → List (Value × Value)
pairs [] ws = []
pairs (v ∷ vs) ws = map (λ w. (v, w)) ws ++ pairs vs ws

length-pairs : (vs ws : List Value) → length (pairs vs ws) ≡ length vs * length ws
unfolding pairs
length-pairs [] ws = omega arith
length-pairs (v ∷ vs) ws =
    length-append (map (λ w. (v, w)) ws) (pairs vs ws)
    ∙ ap₂ (λ m n. m + n) (length-map ws (λ w. (v, w))) (length-pairs vs ws)
    ∙ omega (arith, suc-mul (length vs) (length ws))

in_row : (v w : Value) (ws : List Value) → In w ws → In {X = Value × Value} (v, w) (map (λ u. (v, u)) ws)
in_row v w [] h = absurd h
in_row v w (x ∷ xs) (inl e) = let pair : Value → Value × Value = λ u. (v, u) in inl (ap pair e)
in_row v w (x ∷ xs) (inr h) = inr (in_row v w xs h)

in_pairs : (v w : Value) (vs ws : List Value) → In v vs → In w ws → In {X = Value × Value} (v, w) (pairs vs ws)
unfolding pairs
in_pairs v w [] ws h k = absurd h
in_pairs v w (x ∷ xs) ws (inl e) k =
    In-left (v, w) (map (λ u. (x, u)) ws) (pairs xs ws) (subst (λ y. In {X = Value × Value} (v, w) (map (λ u. (y, u)) ws)) e (in_row v w ws k))
in_pairs v w (x ∷ xs) ws (inr h) k = In-right (v, w) (map (λ u. (x, u)) ws) (pairs xs ws) (in_pairs v w xs ws h k)

-- ---- agreement over two graphs settles

module _ (p q : Point) (p_closed : IsClosed p.graph) (q_closed : IsClosed q.graph) where
  test : ℕ → Value × Value → Bool
  test k x = agree k (point p.graph x.0) (point q.graph x.1)

  test-falls : (k : ℕ) (x : Value × Value) → test (suc k) x ≡ true → test k x ≡ true
  unfolding test
  test-falls k x h = agree-falls k (point p.graph x.0) (point q.graph x.1) h

  -- from this depth to the next, agreement of the values in play does not change
  abbrev IsSettled : ℕ → Type 0
  IsSettled k = (v w : Value) → In v (in_play p) → In w (in_play q) → agree k (point p.graph v) (point q.graph w) ≡ true → agree (suc k) (point p.graph v) (point q.graph w) ≡ true

  all_settled : (k : ℕ) (vs ws : List Value) → IsSettled k → ((v : Value) → In v vs → In v (in_play p)) → ((w : Value) → In w ws → In w (in_play q)) → pointwise (agree k) (map (point p.graph) vs) (map (point q.graph) ws) ≡ true → pointwise (agree (suc k)) (map (point p.graph) vs) (map (point q.graph) ws) ≡ true
  all_settled k [] [] settled vs_in ws_in h = h
  all_settled k [] (w ∷ ws) settled vs_in ws_in h = h
  all_settled k (v ∷ vs) [] settled vs_in ws_in h = h
  all_settled k (v ∷ vs) (w ∷ ws) settled vs_in ws_in h =
      let now = both_parts (agree k (point p.graph v) (point q.graph w)) (pointwise (agree k) (map (point p.graph) vs) (map (point q.graph) ws)) h in
      both_true
      (agree (suc k) (point p.graph v) (point q.graph w))
      (pointwise (agree (suc k)) (map (point p.graph) vs) (map (point q.graph) ws))
      (settled v w (vs_in v (inl refl)) (ws_in w (inl refl)) now.0)
      (all_settled k vs ws settled (λ u k. vs_in u (inr k)) (λ u k. ws_in u (inr k)) now.1)

  stays_settled : (k : ℕ) → IsSettled k → IsSettled (suc k)
  unfolding agree
  stays_settled k settled v w v_in w_in h =
      let heads = option_eq same_head (head_of p.graph v) (head_of q.graph w) in
      let vs = children_of p.graph v in
      let ws = children_of q.graph w in
      let now = both_parts heads (pointwise (agree k) (map (point p.graph) vs) (map (point q.graph) ws)) h in
      both_true
      heads
      (pointwise (agree (suc k)) (map (point p.graph) vs) (map (point q.graph) ws))
      now.0
      (all_settled k vs ws settled (λ u. children_in_play p v u p_closed v_in) (λ u. children_in_play q w u q_closed w_in) now.1)

  settled_on : (k : ℕ) → IsSettled k → agree k p q ≡ true → (d : ℕ) → agree (k + d) p q ≡ true
  unfolding in_play
  settled_on k settled h zero = subst (λ n. agree n p q ≡ true) (omega arith) h
  settled_on k settled h (suc d) =
      let own : agree (suc k) p q ≡ true = settled p.value q.value (In-right p.value (references (length p.graph)) (subterms p.value) (own_subterm p.value)) (In-right q.value (references (length q.graph)) (subterms q.value) (own_subterm q.value)) h in
      subst (λ n. agree n p q ≡ true) (omega arith) (settled_on (suc k) (stays_settled k settled) own d)

  -- agreement to the product of the sizes is agreement at every depth
  same-always : IsTrue (same p q) → AgreeAlways p q
  unfolding same test
  same-always h k =
      let all = pairs (in_play p) (in_play q) in
      let long : length all ≡ size p * size q = length-pairs (in_play p) (in_play q) ∙ ap₂ (λ m n. m * n) (length-in_play p) (length-in_play q) in
      let found = settles test test-falls all in
      let j = found.0 in
      let settled : IsSettled j = λ v w v_in w_in. found.2 (v, w) (in_pairs v w (in_play p) (in_play q) v_in w_in) in
      let early : agree j p q ≡ true = passes_before test test-falls j (size p * size q - j) (p.value, q.value) (subst (λ n. agree n p q ≡ true) (omega (arith, found.1)) h) in
      passes_before test test-falls k j (p.value, q.value) (subst (λ n. agree n p q ≡ true) (omega arith) (settled_on j settled early k))

  pub every_depth : IsTrue (same p q) ↔ AgreeAlways p q
  unfolding same
  every_depth = (same-always, λ h. h (size p * size q))

-- a relation between values over two graphs pairs them where another does
paired_in : (R S : Point → Point → Type 0) (g h : Nodes) → ((v w : Value) → R (point g v) (point h w) → S (point g v) (point h w)) → (vs ws : List Value) → AllZip R (map (point g) vs) (map (point h) ws) → AllZip S (map (point g) vs) (map (point h) ws)
paired_in R S g h turn [] [] r = r
paired_in R S g h turn [] (w ∷ ws) r = r
paired_in R S g h turn (v ∷ vs) [] r = r
paired_in R S g h turn (v ∷ vs) (w ∷ ws) r = (turn v w r.0, paired_in R S g h turn vs ws r.1)

-- values over closed graphs are equal where their heads and their children are
pub same-parts : (p q : Point) → IsClosed p.graph → IsClosed q.graph → IsTrue (same p q) ↔ ((head p ≡ head q) × AllZip (λ x y. IsTrue (same x y)) (children p) (children q))
same-parts p q p_closed q_closed =
    let vs = children_of p.graph p.value in
    let ws = children_of q.graph q.value in
    let Same : Point → Point → Type 0 = λ x y. IsTrue (same x y) in (
      λ h.
          let parts = (AgreeAlways-parts p q).0 ((every_depth p q p_closed q_closed).0 h) in
          (parts.0, paired_in AgreeAlways Same p.graph q.graph (λ v w. (every_depth (point p.graph v) (point q.graph w) p_closed q_closed).1) vs ws parts.1),
      λ parts.
          (every_depth p q p_closed q_closed).1
          ((AgreeAlways-parts p q).1
          (parts.0, paired_in Same AgreeAlways p.graph q.graph (λ v w. (every_depth (point p.graph v) (point q.graph w) p_closed q_closed).0) vs ws parts.1)),
    )
