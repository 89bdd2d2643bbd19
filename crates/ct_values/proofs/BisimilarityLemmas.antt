-- The blocks of the nodes as points are the classes of the nodes that agree at every depth.
use Rattle.std.proofs.Common.{◌≡◌, ℕ, zero, suc, ◌<◌, ◌≤◌, ◌⊎◌, Bool, true, List, [], ◌∷◌, length, map, nat_eq, slice_get, Some, refl, sym, ap, ap₂, subst, ◌∙◌, inl, inr, arith, eq-zero-or-pos}
use Rattle.std.specs.List.{AllZip, AllByRecursion}
use Rattle.std.specs.Cmp.Lexicographic.{pointwise}
use Rattle.std.proofs.lemmas.Bool.{eq-eqb}
use Rattle.std.proofs.lemmas.Option.{slice_get_within}
use Rattle.ct_lemmas.proofs.Booleans.{both_true}
use Rattle.ct_lemmas.proofs.Lists.{slice_get-there}
use Rattle.ct_sorts.specs.declared.ids.CtorId.{CtorId}
use Rattle.ct_values.specs.declared.node.NodeId.{NodeId}
use Rattle.ct_values.specs.declared.node.Node.{Node}
use Rattle.ct_values.specs.declared.node.Node.TheVariants as nodes
use Rattle.ct_values.specs.declared.node.Head.TheVariants.{Con}
use Rattle.ct_values.specs.Graph.{Nodes, IsClosed, node_head, node_children}
use Rattle.ct_values.specs.Agreement.{AgreeAlways}
use Rattle.ct_values.specs.Partition.{class_at, node_key, Alike}
use Rattle.ct_values.specs.Settled.{TellsTrees, AreSettled}
use Rattle.ct_values.specs.Sharing.{AreClasses}
use Rattle.ct_values.specs.Least.{AreLeast, ArePositive}
use Rattle.ct_values.specs.NodePoints.{label_of, row_of, ArePointsOf}
use Rattle.ct_values.proofs.GraphLemmas.{closed_children}
use Rattle.ct_values.proofs.NodeLemmas.{id, node_points, AgreeAlways-nodes}
use Rattle.ct_values.proofs.FiniteLemmas.{positive}
use Rattle.ct_values.proofs.ClassLemmas.{AgreeAlways-stable}
use Rattle.ct_partition.specs.Points.{Points}
use Rattle.ct_partition.specs.Bisimilarity.{agree}
use Rattle.ct_partition.specs.Partition.{IsStable, IsCoarsest, AreLeastPoints}

-- the classes of nodes as points
map_numbers : (f : ℕ → ℕ) (ns : List NodeId) → map f (map (λ n. n.0) ns) ≡ map (λ n. f n.0) ns
map_numbers f [] = refl
map_numbers f (n ∷ ns) = ap (λ (cs : List ℕ). f n.0 ∷ cs) (map_numbers f ns)

-- points of one label agree to one depth more where their children agree
agree-suc : (p : Points) (depth i j : ℕ) → p.label i ≡ p.label j → pointwise (agree p depth) (p.children i) (p.children j) ≡ true → agree p (suc depth) i j ≡ true
unfolding agree
agree-suc p depth i j labels each = both_true (nat_eq (p.label i) (p.label j)) (pointwise (agree p depth) (p.children i) (p.children j)) (eq-eqb (p.label i) (p.label j) labels) each

agree-zero : (p : Points) (i j : ℕ) → agree p zero i j ≡ true
unfolding agree
agree-zero p i j = refl

-- children of nodes of one class pass a test one for one, as points, where nodes that agree pass it
rows_agree : (g : Nodes) (test : ℕ → ℕ → Bool) (class : ℕ) (ms ns : List NodeId) → ((i j : ℕ) → i < length g → j < length g → Alike g i j → test i j ≡ true) → AllByRecursion (λ m. m.0 < length g) ms → AllByRecursion (λ n. n.0 < length g) ns → AllZip AgreeAlways (node_points g ms) (node_points g ns) → pointwise test (row_of class ms) (row_of class ns) ≡ true
rows_agree g test (suc class) ms ns each ms_in ns_in h = refl
rows_agree g test zero [] [] each ms_in ns_in h = refl
rows_agree g test zero [] (n ∷ ns) each ms_in ns_in h = absurd h
rows_agree g test zero (m ∷ ms) [] each ms_in ns_in h = absurd h
rows_agree g test zero (m ∷ ms) (n ∷ ns) each ms_in ns_in h =
    both_true (test m.0 n.0) (pointwise test (map (λ k. k.0) ms) (map (λ k. k.0) ns)) (each m.0 n.0 ms_in.0 ns_in.0 h.0) (rows_agree g test zero ms ns each ms_in.1 ns_in.1 h.1)

module _ (g : Nodes) (settled blocks : List ℕ) (p : Points) (closed : IsClosed g) (tells : TellsTrees g settled) (are : ArePointsOf g settled p) where
  -- nodes that agree at every depth agree as points
  points_agree : (depth i j : ℕ) → i < length g → j < length g → Alike g i j → agree p depth i j ≡ true
  points_agree zero i j i_in j_in alike = agree-zero p i j
  points_agree (suc depth) i j i_in j_in alike =
      let x = slice_get-there g i i_in in
      let y = slice_get-there g j j_in in
      let class : class_at settled i ≡ class_at settled j = tells.keeps.together i j i_in j_in alike in
      let parts = AgreeAlways-nodes g g (id i) (id j) x.0 y.0 x.1 y.1 alike in
      let rows = rows_agree g (agree p depth) (class_at settled i) (node_children x.0) (node_children y.0) (points_agree depth) (closed_children g i x.0 closed x.1) (closed_children g j y.0 closed y.1) parts.1 in
      let row_i : row_of (class_at settled i) (node_children x.0) ≡ p.children i = sym (are.rows i x.0 x.1) in
      let row_j : row_of (class_at settled i) (node_children y.0) ≡ p.children j = ap (λ c. row_of c (node_children y.0)) class ∙ sym (are.rows j y.0 y.1) in
      agree-suc p depth i j
      (are.labels i x.0 x.1 ∙ ap₂ label_of class parts.0 ∙ sym (are.labels j y.0 y.1))
      (subst (λ (r : List ℕ). pointwise (agree p depth) r (p.children j) ≡ true) row_i (subst (λ (r : List ℕ). pointwise (agree p depth) (row_of (class_at settled i) (node_children x.0)) r ≡ true) row_j rows))

  -- a settled node has its class as its label, and no children
  settled_point : (i class : ℕ) → i < length g → class_at settled i ≡ suc class → (p.label i ≡ suc class) × (p.children i ≡ [])
  settled_point i class i_in is =
      let x = slice_get-there g i i_in in
      (are.labels i x.0 x.1 ∙ ap (λ c. label_of c (node_head x.0)) is, are.rows i x.0 x.1 ∙ ap (λ c. row_of c (node_children x.0)) is)

  -- settled nodes of one class agree as points
  trees_agree : (depth i j class : ℕ) → i < length g → j < length g → class_at settled i ≡ suc class → class_at settled j ≡ suc class → agree p depth i j ≡ true
  trees_agree zero i j class i_in j_in at_i at_j = agree-zero p i j
  trees_agree (suc depth) i j class i_in j_in at_i at_j =
      let a = settled_point i class i_in at_i in
      let b = settled_point j class j_in at_j in
      agree-suc p depth i j (a.0 ∙ sym b.0) (ap₂ (pointwise (agree p depth)) a.1 b.1)

  -- a node that is not settled is a constructor, over at least one child
  not_settled : (i : ℕ) (x : Node) → slice_get g i ≡ Some x → class_at settled i ≡ 0 → (c : CtorId) × (n : NodeId) × (ns : List NodeId) × (x ≡ nodes.Con c (n ∷ ns))
  not_settled i (nodes.Con c []) at is = absurd (omega (arith, is, tells.tried i (nodes.Con c []) at tt))
  not_settled i (nodes.Con c (n ∷ ns)) at is = (c, n, ns, refl)
  not_settled i (nodes.Elem s n) at is = absurd (omega (arith, is, tells.tried i (nodes.Elem s n) at tt))

  module _ (stable : IsStable p blocks) (coarsest : IsCoarsest p blocks) (least : AreLeastPoints p blocks) (long : length blocks ≡ p.count) where
    -- a node is a point
    point_in : (i : ℕ) → i < length g → i < p.count
    point_in i within = omega (arith, within, are.many)

    -- settled nodes of the same classes are in the same blocks
    same_blocks : (ms ns : List NodeId) → AllByRecursion (λ m. m.0 < length g) ms → AllByRecursion (λ n. n.0 < length g) ns → AreSettled settled ms → map (λ m. class_at settled m.0) ms ≡ map (λ n. class_at settled n.0) ns → map (λ m. class_at blocks m.0) ms ≡ map (λ n. class_at blocks n.0) ns
    same_blocks [] [] ms_in ns_in all e = refl
    same_blocks [] (n ∷ ns) ms_in ns_in all e = cc
    same_blocks (m ∷ ms) [] ms_in ns_in all e = cc
    same_blocks (m ∷ ms) (n ∷ ns) ms_in ns_in all e =
        let class = positive (class_at settled m.0) all.0 in
        let same : class_at settled m.0 ≡ class_at settled n.0 = cc in
        let alike = λ (depth : ℕ). trees_agree depth m.0 n.0 class.0 ms_in.0 ns_in.0 class.1 (sym same ∙ class.1) in
        ap₂ (λ (c : ℕ) (cs : List ℕ). c ∷ cs) (coarsest.agreeing m.0 n.0 (point_in m.0 ms_in.0) (point_in n.0 ns_in.0) alike) (same_blocks ms ns ms_in.1 ns_in.1 all.1 (cc))

    -- a settled node is in no block with one that is not
    apart : (i j : ℕ) (x y : Node) → slice_get g i ≡ Some x → slice_get g j ≡ Some y → i < length g → j < length g → class_at settled i ≡ 0 → 0 < class_at settled j → class_at blocks i ≡ class_at blocks j → ⊥
    apart i j x y at_i at_j i_in j_in zero_i above_j one =
        let class = positive (class_at settled j) above_j in
        let none : p.children j ≡ [] = (settled_point j class.0 j_in class.1).1 in
        let x_is = not_settled i x at_i zero_i in
        let some : p.children i ≡ x_is.1.0 ∷ map (λ n. n.0) x_is.2 = are.rows i x at_i ∙ ap₂ (λ (c : ℕ) (z : Node). row_of c (node_children z)) zero_i x_is.3 in
        let same : map (class_at blocks) (x_is.1.0 ∷ map (λ n. n.0) x_is.2) ≡ map (class_at blocks) [] = ap (map (class_at blocks)) (sym some) ∙ stable.children i j (point_in i i_in) (point_in j j_in) one ∙ ap (map (class_at blocks)) none in
        cc

    -- nodes of one block have one head, and children in the same blocks
    keys : (i j : ℕ) (x y : Node) → slice_get g i ≡ Some x → slice_get g j ≡ Some y → i < length g → j < length g → class_at blocks i ≡ class_at blocks j → (class_at settled i ≡ 0) ⊎ (0 < class_at settled i) → (class_at settled j ≡ 0) ⊎ (0 < class_at settled j) → node_key blocks x ≡ node_key blocks y
    keys i j x y at_i at_j i_in j_in one (inl zero_i) (inr above_j) = absurd (apart i j x y at_i at_j i_in j_in zero_i above_j one)
    keys i j x y at_i at_j i_in j_in one (inr above_i) (inl zero_j) = absurd (apart j i y x at_j at_i j_in i_in zero_j above_i (sym one))
    keys i j x y at_i at_j i_in j_in one (inl zero_i) (inl zero_j) =
        let x_is = not_settled i x at_i zero_i in
        let y_is = not_settled j y at_j zero_j in
        let label_i : p.label i ≡ x_is.0.0 = are.labels i x at_i ∙ ap₂ (λ (c : ℕ) (z : Node). label_of c (node_head z)) zero_i x_is.3 in
        let label_j : p.label j ≡ y_is.0.0 = are.labels j y at_j ∙ ap₂ (λ (c : ℕ) (z : Node). label_of c (node_head z)) zero_j y_is.3 in
        let number : x_is.0.0 ≡ y_is.0.0 = sym label_i ∙ stable.labels i j (point_in i i_in) (point_in j j_in) one ∙ label_j in
        let heads : node_head x ≡ node_head y = ap node_head x_is.3 ∙ (λ t. Con (record { 0 = number t })) ∙ sym (ap node_head y_is.3) in
        let row_i : p.children i ≡ map (λ n. n.0) (node_children x) = are.rows i x at_i ∙ ap (λ c. row_of c (node_children x)) zero_i in
        let row_j : p.children j ≡ map (λ n. n.0) (node_children y) = are.rows j y at_j ∙ ap (λ c. row_of c (node_children y)) zero_j in
        let children = sym (ap (map (class_at blocks)) row_i ∙ map_numbers (class_at blocks) (node_children x)) ∙ stable.children i j (point_in i i_in) (point_in j j_in) one ∙ ap (map (class_at blocks)) row_j ∙ map_numbers (class_at blocks) (node_children y) in
        λ t. record { head = heads t; children = children t }
    keys i j x y at_i at_j i_in j_in one (inr above_i) (inr above_j) =
        let c = positive (class_at settled i) above_i in
        let d = positive (class_at settled j) above_j in
        let label = sym (settled_point i c.0 i_in c.1).0 ∙ stable.labels i j (point_in i i_in) (point_in j j_in) one ∙ (settled_point j d.0 j_in d.1).0 in
        let class : class_at settled i ≡ class_at settled j = c.1 ∙ label ∙ sym d.1 in
        let same = tells.keys i j x y at_i at_j above_i class in
        let children = same_blocks (node_children x) (node_children y) (closed_children g i x closed at_i) (closed_children g j y closed at_j) (tells.parts i x at_i above_i) (ap (λ key. key.children) same) in
        let heads = ap (λ key. key.head) same in
        λ t. record { head = heads t; children = children t }

    -- the blocks are the classes of the nodes
    pub AreClasses-blocks : AreClasses g blocks
    AreClasses-blocks = record {
      closed = closed;
      long = long ∙ are.many;
      named = λ n within.
          let low : class_at blocks n.0 ≤ n.0 = least.least n.0 (point_in n.0 within) in
          let first_in : class_at blocks n.0 < length g = omega (arith, low, within) in
          record {
            within = first_in;
            same = AgreeAlways-stable g blocks closed each (id (class_at blocks n.0)) n first_in within (least.member n.0 (point_in n.0 within));
            first = λ m m_in alike.
                let one : class_at blocks m.0 ≡ class_at blocks n.0 = coarsest.agreeing m.0 n.0 (point_in m.0 m_in) (point_in n.0 within) (λ depth. points_agree depth m.0 n.0 m_in within alike) in
                let early : class_at blocks m.0 ≤ m.0 = least.least m.0 (point_in m.0 m_in) in
                omega (arith, one, early);
          };
    }
      where
        each : (i j : ℕ) (x y : Node) → slice_get g i ≡ Some x → slice_get g j ≡ Some y → class_at blocks i ≡ class_at blocks j → node_key blocks x ≡ node_key blocks y
        each i j x y at_i at_j one =
            keys i j x y at_i at_j (slice_get_within g i x at_i) (slice_get_within g j y at_j) one (eq-zero-or-pos (class_at settled i)) (eq-zero-or-pos (class_at settled j))

-- where all nodes are settled, the least nodes with their classes name the classes
pub AreClasses-settled : (g : Nodes) (settled places : List ℕ) → IsClosed g → TellsTrees g settled → ArePositive settled → AreLeast settled places → AreClasses g places
AreClasses-settled g settled places closed tells positive least = record {
  closed = closed;
  long = least.long ∙ tells.keeps.long;
  named = λ n within.
      let found = least.named n.0 (settled_in n.0 within) in
      let low : class_at places n.0 ≤ n.0 = found.least n.0 (omega arith) (settled_in n.0 within) refl in
      let first_in : class_at places n.0 < length g = omega (arith, low, within) in
      record {
        within = first_in;
        same = AgreeAlways-stable g settled closed keys (id (class_at places n.0)) n first_in within found.same;
        first = λ m m_in alike. found.least m.0 (omega arith) (settled_in m.0 m_in) (tells.keeps.together m.0 n.0 m_in within alike);
      };
}
  where
    settled_in : (i : ℕ) → i < length g → i < length settled
    settled_in i within = omega (arith, within, tells.keeps.long)

    keys : (i j : ℕ) (x y : Node) → slice_get g i ≡ Some x → slice_get g j ≡ Some y → class_at settled i ≡ class_at settled j → node_key settled x ≡ node_key settled y
    keys i j x y at_i at_j one = tells.keys i j x y at_i at_j (positive i (settled_in i (slice_get_within g i x at_i))) one
