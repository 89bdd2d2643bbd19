-- The quotient of what a root reaches, by numbered classes of nodes that agree at every depth, is the minimal graph.
use Rattle.std.proofs.Common.{◌≡◌, ℕ, zero, suc, ◌+◌, ◌<◌, ◌≤◌, ◌⊎◌, true, false, cond, IsTrue, List, [], ◌∷◌, ◌++◌, length, map, take, drop, get_or, Some, option_map, slice_get, nat_eq, ◌↔◌, All, refl, sym, ap, ap₂, subst, ◌∙◌, inl, inr, arith, append_assoc, length-append}
use Rattle.std.specs.List.{AllZip, AllByRecursion}
use Rattle.std.proofs.Math.Seq.{take-length, drop-cons}
use Rattle.std.proofs.lemmas.Bool.{cases_lt}
use Rattle.std.proofs.lemmas.Bool.Decides.{nat_tests}
use Rattle.std.proofs.lemmas.List.{take_all, get_or_append_left, get_or_push}
use Rattle.std.proofs.lemmas.List.Elements.{All-nil, All-cons}
use Rattle.std.proofs.lemmas.Option.{same_Some, slice_get_within, get_or_from_slice_get}
use Rattle.ct_lemmas.proofs.Lists.{slice_get-there}
use Rattle.ct_values.specs.declared.node.NodeId.{NodeId}
use Rattle.ct_values.specs.declared.node.Node.{Node}
use Rattle.ct_values.specs.declared.node.Node.TheVariants.{Con, Elem}
use Rattle.ct_values.specs.declared.node.Head.{Head}
use Rattle.ct_values.specs.Graph.{Nodes, IsClosed, HasChildrenBelow, node_head, node_children}
use Rattle.ct_values.specs.Agreement.{Point, node_point, agree, AgreeAlways}
use Rattle.ct_values.specs.Minimal.{child_numbers, IsBreadthFirst, IsMinimal}
use Rattle.ct_values.specs.Numbering.{CountsUp, IsInOrder}
use Rattle.ct_values.specs.Partition.{class_at, Alike}
use Rattle.ct_values.specs.Sharing.{AreClasses}
use Rattle.ct_values.specs.Renumbering.{IsPart}
use Rattle.ct_values.specs.Packed.{node_of}
use Rattle.ct_values.specs.Quotient.{numbered_child, numbered_node, quotient_from, quotient, NumbersClasses, AreNumbered}
use Rattle.ct_values.proofs.AgreeLemmas.{agree-zero, AgreeAlways-across, AgreeAlways-trans}
use Rattle.ct_values.proofs.GraphLemmas.{closed_children}
use Rattle.ct_values.proofs.NodeLemmas.{id, node_points, agree-nodes, AgreeAlways-nodes}
use Rattle.ct_values.proofs.RenumberLemmas.{IsClosed-renumbered, AgreeAlways-renumbered}
use Rattle.ct_values.proofs.ClassLemmas.{alike_of_one, stored_together}
use Rattle.ct_values.proofs.CountLemmas.{CountsUp-rises, CountsUp-below, CountsUp-append}
use Rattle.ct_values.proofs.NumberedLemmas.{IsBreadthFirst-numbered, numbered-IsBreadthFirst, IsBreadthFirst-positive}

-- ---- numbers that count up, element by element

-- numbers have one count
CountsUp-one : (met a b : ℕ) (ns : List ℕ) → CountsUp met ns a → CountsUp met ns b → a ≡ b
CountsUp-one met a b [] first second = sym first ∙ second
CountsUp-one met a b (n ∷ ns) (inl first) (inl second) = CountsUp-one met a b ns first.1 second.1
CountsUp-one met a b (n ∷ ns) (inl first) (inr second) = absurd (omega (arith, first.0, second.0))
CountsUp-one met a b (n ∷ ns) (inr first) (inl second) = absurd (omega (arith, first.0, second.0))
CountsUp-one met a b (n ∷ ns) (inr first) (inr second) = CountsUp-one (suc met) a b ns first.1 second.1

-- a number among the first ones is below their count
first_below : (met count k i : ℕ) (ns : List ℕ) → CountsUp met (take k ns) count → i < k → i < length ns → class_at ns i < count
first_below met count zero i ns counts early within = absurd (omega arith)
first_below met count (suc k) i [] counts early within = absurd (omega arith)
first_below met count (suc k) zero (n ∷ ns) (inl h) early within =
    let rises = CountsUp-rises met count (take k ns) h.1 in omega (arith, h.0)
first_below met count (suc k) zero (n ∷ ns) (inr h) early within =
    let rises = CountsUp-rises (suc met) count (take k ns) h.1 in omega (arith, h.0)
first_below met count (suc k) (suc i) (n ∷ ns) (inl h) early within =
    first_below met count k i ns h.1 (omega arith) (omega arith)
first_below met count (suc k) (suc i) (n ∷ ns) (inr h) early within =
    first_below (suc met) count k i ns h.1 (omega arith) (omega arith)

-- each number is below the count of all
number_below : (count i : ℕ) (ns : List ℕ) → CountsUp 0 ns count → i < length ns → class_at ns i < count
number_below count i ns counts within =
    let all : CountsUp 0 (take (length ns) ns) count = subst (λ (ms : List ℕ). CountsUp 0 ms count) (sym (take-length ns)) counts in
    first_below 0 count (length ns) i ns all within within

-- a number that the first ones newly meet stands among them
first_stands : (met count k m : ℕ) (ns : List ℕ) → CountsUp met (take k ns) count → met ≤ m → m < count → (i : ℕ) × (i < k) × (i < length ns) × (class_at ns i ≡ m)
first_stands met count zero m ns counts low high = absurd (omega arith)
first_stands met count (suc k) m [] counts low high = absurd (omega arith)
first_stands met count (suc k) m (n ∷ ns) (inl h) low high =
    let later = first_stands met count k m ns h.1 low high in
    (suc later.0, omega (arith, later.1), omega (arith, later.2), later.3)
first_stands met count (suc k) m (n ∷ ns) (inr h) low high = elim (cases_lt met m) [
  | inl less ↦
      let later = first_stands (suc met) count k m ns h.1 (omega arith) high in
      (suc later.0, omega (arith, later.1), omega (arith, later.2), later.3)
  | inr le ↦ (0, omega arith, omega arith, omega (arith, h.0))
]

-- the number after the first ones was met, or is the next
abbrev IsNext : ℕ → ℕ → ℕ → List ℕ → Type 0
IsNext met count k ns = ((class_at ns k < count) × CountsUp met (take (suc k) ns) count) ⊎ ((class_at ns k ≡ count) × CountsUp met (take (suc k) ns) (suc count))

next_number : (met all count k : ℕ) (ns : List ℕ) → CountsUp met ns all → k < length ns → CountsUp met (take k ns) count → IsNext met count k ns
next_number met all count k [] whole within counts = absurd (omega arith)
next_number met all count zero (n ∷ ns) (inl h) within counts =
    inl (omega (arith, h.0), inl (h.0, counts))
next_number met all count zero (n ∷ ns) (inr h) within counts =
    inr (h.0 ∙ counts, inr (h.0, ap suc counts))
next_number met all count (suc k) (n ∷ ns) (inl h) within (inl counts) =
    elim (next_number met all count k ns h.1 (omega arith) counts.1) [
      | inl old ↦ inl (old.0, inl (h.0, old.1))
      | inr new ↦ inr (new.0, inl (h.0, new.1))
    ]
next_number met all count (suc k) (n ∷ ns) (inl h) within (inr counts) = absurd (omega (arith, h.0, counts.0))
next_number met all count (suc k) (n ∷ ns) (inr h) within (inl counts) = absurd (omega (arith, h.0, counts.0))
next_number met all count (suc k) (n ∷ ns) (inr h) within (inr counts) =
    elim (next_number (suc met) all count k ns h.1 (omega arith) counts.1) [
      | inl old ↦ inl (old.0, inr (h.0, old.1))
      | inr new ↦ inr (new.0, inr (h.0, new.1))
    ]

-- ---- what stands in the quotient

-- a node over numbers of classes has its head
head_numbered : (numbers : List ℕ) (x : Node) → node_head (numbered_node numbers x) ≡ node_head x
head_numbered numbers (Con c children) = refl
head_numbered numbers (Elem s n) = refl

-- and the numbers of its children's classes
children_numbered : (numbers : List ℕ) (x : Node) → node_children (numbered_node numbers x) ≡ map (numbered_child numbers) (node_children x)
children_numbered numbers (Con c children) = refl
children_numbered numbers (Elem s n) = refl

-- a node whose number is the next one is in the quotient
quotient_new : (count : ℕ) (all numbers : List ℕ) (number : ℕ) (node : Node) (nodes : Nodes) → number ≡ count → quotient_from count all (number ∷ numbers) (node ∷ nodes) ≡ numbered_node all node ∷ quotient_from (suc count) all numbers nodes
quotient_new count all numbers number node nodes e =
    let test : nat_eq number count ≡ true = grind (arith, nat_tests) in
    ap (λ b. cond b (numbered_node all node ∷ quotient_from (suc count) all numbers nodes) (quotient_from count all numbers nodes)) test

-- a node with another number is not
quotient_old : (count : ℕ) (all numbers : List ℕ) (number : ℕ) (node : Node) (nodes : Nodes) → (number ≡ count → ⊥) → quotient_from count all (number ∷ numbers) (node ∷ nodes) ≡ quotient_from count all numbers nodes
quotient_old count all numbers number node nodes other =
    let test : nat_eq number count ≡ false = grind (arith, nat_tests) in
    ap (λ b. cond b (numbered_node all node ∷ quotient_from (suc count) all numbers nodes) (quotient_from count all numbers nodes)) test

-- it has a node for each number
quotient_length : (count top : ℕ) (all numbers : List ℕ) (nodes : Nodes) → length numbers ≡ length nodes → CountsUp count numbers top → count + length (quotient_from count all numbers nodes) ≡ top
quotient_length count top all [] nodes long counts = omega arith
quotient_length count top all (number ∷ numbers) [] long counts = absurd (omega arith)
quotient_length count top all (number ∷ numbers) (node ∷ nodes) long (inl h) =
    let rest = quotient_length count top all numbers nodes (omega arith) h.1 in
    omega (arith, rest, ap length (quotient_old count all numbers number node nodes (omega (arith, h.0))))
quotient_length count top all (number ∷ numbers) (node ∷ nodes) long (inr h) =
    let rest = quotient_length (suc count) top all numbers nodes (omega arith) h.1 in
    omega (arith, rest, ap length (quotient_new count all numbers number node nodes h.0))

-- a number's node is that of a node with the number
quotient_at : (count top k : ℕ) (all numbers : List ℕ) (nodes : Nodes) → length numbers ≡ length nodes → CountsUp count numbers top → count + k < top → (i : ℕ) × (x : Node) × (slice_get nodes i ≡ Some x) × (class_at numbers i ≡ count + k) × (slice_get (quotient_from count all numbers nodes) k ≡ Some (numbered_node all x))
quotient_at count top k all [] nodes long counts high = absurd (omega arith)
quotient_at count top k all (number ∷ numbers) [] long counts high = absurd (omega arith)
quotient_at count top k all (number ∷ numbers) (node ∷ nodes) long (inl h) high =
    let rest = quotient_at count top k all numbers nodes (omega arith) h.1 high in
    (suc rest.0, rest.1, rest.2, rest.3, ap (λ (g : Nodes). slice_get g k) (quotient_old count all numbers number node nodes (omega (arith, h.0))) ∙ rest.4)
quotient_at count top zero all (number ∷ numbers) (node ∷ nodes) long (inr h) high =
    (0, node, refl, omega (arith, h.0), ap (λ (g : Nodes). slice_get g 0) (quotient_new count all numbers number node nodes h.0))
quotient_at count top (suc k) all (number ∷ numbers) (node ∷ nodes) long (inr h) high =
    let rest = quotient_at (suc count) top k all numbers nodes (omega arith) h.1 (omega arith) in
    (suc rest.0, rest.1, rest.2, omega (arith, rest.3), ap (λ (g : Nodes). slice_get g (suc k)) (quotient_new count all numbers number node nodes h.0) ∙ rest.4)

-- ---- children by numbers

-- where the node of a node's number is related to each node that agrees with that node, numbered children are related to children that agree
numbered_pairs : (R : Point → Point → Type 0) (h g : Nodes) (numbers : List ℕ) (ms ns : List NodeId) → ((m n : NodeId) → m.0 < length g → n.0 < length g → AgreeAlways (node_point g m) (node_point g n) → R (node_point h (numbered_child numbers m)) (node_point g n)) → AllByRecursion (λ m. m.0 < length g) ms → AllByRecursion (λ n. n.0 < length g) ns → AllZip AgreeAlways (node_points g ms) (node_points g ns) → AllZip R (node_points h (map (numbered_child numbers) ms)) (node_points g ns)
numbered_pairs R h g numbers [] [] each ms_in ns_in pairs = tt
numbered_pairs R h g numbers [] (n ∷ ns) each ms_in ns_in pairs = pairs
numbered_pairs R h g numbers (m ∷ ms) [] each ms_in ns_in pairs = pairs
numbered_pairs R h g numbers (m ∷ ms) (n ∷ ns) each ms_in ns_in pairs =
    (each m n ms_in.0 ns_in.0 pairs.0, numbered_pairs R h g numbers ms ns each ms_in.1 ns_in.1 pairs.1)

-- children that agree pairwise have the same numbers
same_numbers : (g : Nodes) (numbers : List ℕ) (ms ns : List NodeId) → ((i j : ℕ) → i < length g → j < length g → Alike g i j → class_at numbers i ≡ class_at numbers j) → AllByRecursion (λ m. m.0 < length g) ms → AllByRecursion (λ n. n.0 < length g) ns → AllZip AgreeAlways (node_points g ms) (node_points g ns) → map (numbered_child numbers) ms ≡ map (numbered_child numbers) ns
same_numbers g numbers [] [] same ms_in ns_in pairs = refl
same_numbers g numbers [] (n ∷ ns) same ms_in ns_in pairs = absurd pairs
same_numbers g numbers (m ∷ ms) [] same ms_in ns_in pairs = absurd pairs
same_numbers g numbers (m ∷ ms) (n ∷ ns) same ms_in ns_in pairs =
    let number = same m.0 n.0 ms_in.0 ns_in.0 pairs.0 in
    let first : numbered_child numbers m ≡ numbered_child numbers n = λ t. record { 0 = number t } in
    ap₂ (λ (x : NodeId) (xs : List NodeId). x ∷ xs) first (same_numbers g numbers ms ns same ms_in.1 ns_in.1 pairs.1)

-- where nodes below a bound have numbers below another one, so have numbered children
map_below : (numbers : List ℕ) (bound top : ℕ) (ns : List NodeId) → ((i : ℕ) → i < bound → class_at numbers i < top) → AllByRecursion (λ n. n.0 < bound) ns → All (λ n. n.0 < top) (map (numbered_child numbers) ns)
map_below numbers bound top [] each below = All-nil (λ n. n.0 < top)
map_below numbers bound top (n ∷ ns) each below =
    All-cons (λ m. m.0 < top) (numbered_child numbers n) (map (numbered_child numbers) ns) (each n.0 below.0) (map_below numbers bound top ns each below.1)

-- nodes whose numbers are below a bound
below_numbers : (top : ℕ) (ns : List NodeId) → AllByRecursion (λ n. n < top) (map (λ n. n.0) ns) → AllByRecursion (λ n. n.0 < top) ns
below_numbers top [] below = tt
below_numbers top (n ∷ ns) below = (below.0, below_numbers top ns below.1)

-- and with a larger one
below_more : (low high : ℕ) (ns : List NodeId) → low ≤ high → AllByRecursion (λ n. n.0 < low) ns → AllByRecursion (λ n. n.0 < high) ns
below_more low high [] le below = tt
below_more low high (n ∷ ns) le below = (omega (arith, below.0), below_more low high ns le below.1)

module _ (g : Nodes) (numbers : List ℕ) (closed : IsClosed g) (are : AreNumbered g numbers) where
  -- the number of a node is below the count
  number_in : (i : ℕ) → i < length g → class_at numbers i < are.count
  number_in i within = number_below are.count i numbers are.in_order (omega (arith, are.long))

  -- the quotient has as many nodes as there are numbers
  length-quotient : length (quotient numbers g) ≡ are.count
  length-quotient = omega (arith, quotient_length 0 are.count numbers numbers g are.long are.in_order)

  -- each of its nodes is that of a node with its number
  source : (k : ℕ) → k < are.count → (i : ℕ) × (x : Node) × (slice_get g i ≡ Some x) × (class_at numbers i ≡ k) × (slice_get (quotient numbers g) k ≡ Some (numbered_node numbers x))
  source k within =
      let from = quotient_at 0 are.count k numbers numbers g are.long are.in_order (omega arith) in
      (from.0, from.1, from.2, omega (arith, from.3), from.4)

  -- its children are nodes of it
  pub IsClosed-quotient : IsClosed (quotient numbers g)
  IsClosed-quotient k d within =
      let from = source k (omega (arith, length-quotient)) in
      let node = get_or (quotient numbers g) k d in
      let here : numbered_node numbers from.1 ≡ node = sym (get_or_from_slice_get (quotient numbers g) k (numbered_node numbers from.1) d from.4) in
      let below : All (λ n. n.0 < are.count) (node_children (numbered_node numbers from.1)) = subst (All (λ n. n.0 < are.count)) (sym (children_numbered numbers from.1)) (map_below numbers (length g) are.count (node_children from.1) number_in (closed_children g from.0 from.1 closed from.2)) in
      subst (λ top. HasChildrenBelow top node) (sym length-quotient) (subst (HasChildrenBelow are.count) here below)

  -- a node of the quotient agrees at every depth with each node that has its number
  AgreeAlways-quotient : (k n : NodeId) → n.0 < length g → class_at numbers n.0 ≡ k.0 → AgreeAlways (node_point (quotient numbers g) k) (node_point g n)
  AgreeAlways-quotient k n within e zero = agree-zero (node_point (quotient numbers g) k) (node_point g n)
  AgreeAlways-quotient k n within e (suc depth) =
      let h = quotient numbers g in
      let from = source k.0 (subst (λ m. m < are.count) e (number_in n.0 within)) in
      let y = slice_get-there g n.0 within in
      let alike = (are.same from.0 n.0 (slice_get_within g from.0 from.1 from.2) within).0 (from.3 ∙ sym e) in
      let parts = AgreeAlways-nodes g g (id from.0) (id n.0) from.1 y.0 from.2 y.1 alike in
      let R : Point → Point → Type 0 = λ p q. IsTrue (agree depth p q) in
      let pairs : AllZip R (node_points h (map (numbered_child numbers) (node_children from.1))) (node_points g (node_children y.0)) = numbered_pairs R h g numbers (node_children from.1) (node_children y.0) (λ a b a_in b_in both. AgreeAlways-quotient (numbered_child numbers a) b b_in (sym ((are.same a.0 b.0 a_in b_in).1 both)) depth) (closed_children g from.0 from.1 closed from.2) (closed_children g n.0 y.0 closed y.1) parts.1 in
      agree-nodes depth h g k n (numbered_node numbers from.1) y.0
      from.4
      y.1
      (head_numbered numbers from.1 ∙ parts.0)
      (subst (λ (ids : List NodeId). AllZip R (node_points h ids) (node_points g (node_children y.0))) (sym (children_numbered numbers from.1)) pairs)

  -- no two of its nodes agree at every depth
  apart-quotient : (m n : NodeId) → m.0 < length (quotient numbers g) → n.0 < length (quotient numbers g) → AgreeAlways (node_point (quotient numbers g) m) (node_point (quotient numbers g) n) → m ≡ n
  apart-quotient m n m_in n_in alike =
      let h = quotient numbers g in
      let a = source m.0 (omega (arith, length-quotient)) in
      let b = source n.0 (omega (arith, length-quotient)) in
      let a_in = slice_get_within g a.0 a.1 a.2 in
      let b_in = slice_get_within g b.0 b.1 b.2 in
      let before = (AgreeAlways-across (node_point h m) (node_point h n) (node_point g (id a.0)) (node_point g (id b.0)) (AgreeAlways-quotient m (id a.0) a_in a.3) (AgreeAlways-quotient n (id b.0) b_in b.3)).0 alike in
      let number : m.0 ≡ n.0 = sym a.3 ∙ (are.same a.0 b.0 a_in b_in).1 before ∙ b.3 in
      λ t. record { 0 = number t }

  -- ---- it is numbered breadth first

  -- the numbers of nodes that were met were met
  old_children : (met count : ℕ) (ns : List NodeId) → AllByRecursion (λ n. n.0 < met) ns → AllByRecursion (λ n. n.0 < length g) ns → CountsUp 0 (take met numbers) count → CountsUp count (map (λ n. n.0) (map (numbered_child numbers) ns)) count
  old_children met count [] below ns_in counts = refl
  old_children met count (n ∷ ns) below ns_in counts =
      inl (first_below 0 count met n.0 numbers counts below.0 (omega (arith, ns_in.0, are.long)), old_children met count ns below.1 ns_in.1 counts)

  -- where nodes count up, so do their numbers
  count_children : (met mid count : ℕ) (ns : List NodeId) → AllByRecursion (λ n. n.0 < length g) ns → CountsUp met (map (λ n. n.0) ns) mid → CountsUp 0 (take met numbers) count → (next : ℕ) × CountsUp count (map (λ n. n.0) (map (numbered_child numbers) ns)) next × CountsUp 0 (take mid numbers) next
  count_children met mid count [] ns_in steps counts =
      (count, refl, subst (λ k. CountsUp 0 (take k numbers) count) steps counts)
  count_children met mid count (n ∷ ns) ns_in (inl old) counts =
      let rest = count_children met mid count ns ns_in.1 old.1 counts in
      (rest.0, inl (first_below 0 count met n.0 numbers counts old.0 (omega (arith, ns_in.0, are.long)), rest.1), rest.2)
  count_children met mid count (n ∷ ns) ns_in (inr new) counts =
      let is : class_at numbers n.0 ≡ class_at numbers met = ap (class_at numbers) new.0 in
      elim (next_number 0 are.count count met numbers are.in_order (omega (arith, new.0, ns_in.0, are.long)) counts) [
        | inl had ↦
            let rest = count_children (suc met) mid count ns ns_in.1 new.1 had.1 in
            (rest.0, inl (omega (arith, is, had.0), rest.1), rest.2)
        | inr next ↦
            let rest = count_children (suc met) mid (suc count) ns ns_in.1 new.1 next.1 in
            (rest.0, inr (is ∙ next.0, rest.1), rest.2)
      ]

  -- the children of the nodes before this index were met
  abbrev AreMet : ℕ → ℕ → Type 0
  AreMet index met = (i : ℕ) (x : Node) → i < index → slice_get g i ≡ Some x → AllByRecursion (λ n. n.0 < met) (node_children x)

  -- one index more
  AreMet-next : (index met mid : ℕ) (node : Node) → AreMet index met → slice_get g index ≡ Some node → CountsUp met (child_numbers node) mid → AreMet (suc index) mid
  AreMet-next index met mid node before at counts i x early at_x = elim (cases_lt i index) [
    | inl less ↦ below_more met mid (node_children x) (CountsUp-rises met mid (child_numbers node) counts) (before i x less at_x)
    | inr le ↦
        let here : i ≡ index = omega arith in
        let is : node ≡ x = same_Some node x (sym at ∙ ap (slice_get g) (sym here) ∙ at_x) in
        subst (λ (y : Node). AllByRecursion (λ n. n.0 < mid) (node_children y)) is (below_numbers mid (node_children node) (CountsUp-below met mid (child_numbers node) counts))
  ]

  -- a node whose number was met meets none
  none_new : (index met mid count begun : ℕ) (node : Node) → slice_get g index ≡ Some node → AreMet index met → CountsUp 0 (take met numbers) count → CountsUp 0 (take index numbers) begun → class_at numbers index < begun → CountsUp count (map (λ n. n.0) (map (numbered_child numbers) (node_children node))) mid → mid ≡ count
  none_new index met mid count begun node at before counts so_far old steps =
      let first = first_stands 0 begun index (class_at numbers index) numbers so_far (omega arith) old in
      let first_in : first.0 < length g = omega (arith, first.2, are.long) in
      let x = slice_get-there g first.0 first_in in
      let alike = (are.same first.0 index first_in (slice_get_within g index node at)).0 first.3 in
      let parts = AgreeAlways-nodes g g (id first.0) (id index) x.0 node x.1 at alike in
      let x_in = closed_children g first.0 x.0 closed x.1 in
      let same = same_numbers g numbers (node_children x.0) (node_children node) (λ i j i_in j_in. (are.same i j i_in j_in).1) x_in (closed_children g index node closed at) parts.1 in
      let stays = old_children met count (node_children x.0) (before first.0 x.0 first.1 x.1) x_in counts in
      CountsUp-one count mid count (map (λ n. n.0) (map (numbered_child numbers) (node_children node))) steps (subst (λ (ns : List NodeId). CountsUp count (map (λ n. n.0) ns) count) same stays)

  -- where nodes from an index on are numbered when they are first met, so are those that the quotient has of them
  in_order-quotient : (met index count begun : ℕ) (left : List ℕ) (rest : Nodes) → length left ≡ length rest → ((i : ℕ) → slice_get left i ≡ slice_get numbers (index + i)) → ((i : ℕ) → slice_get rest i ≡ slice_get g (index + i)) → IsInOrder met index rest (length g) → AreMet index met → CountsUp 0 (take met numbers) count → CountsUp 0 (take index numbers) begun → IsInOrder count begun (quotient_from begun numbers left rest) are.count
  in_order-quotient met index count begun [] [] long left_at rest_at order before counts so_far =
      let all : take met numbers ≡ numbers = take_all met numbers (omega (arith, order, are.long)) in
      CountsUp-one 0 count are.count numbers (subst (λ (ns : List ℕ). CountsUp 0 ns count) all counts) are.in_order
  in_order-quotient met index count begun [] (node ∷ rest) long left_at rest_at order before counts so_far = absurd (omega arith)
  in_order-quotient met index count begun (number ∷ left) [] long left_at rest_at order before counts so_far = absurd (omega arith)
  in_order-quotient met index count begun (number ∷ left) (node ∷ rest) long left_at rest_at order before counts so_far =
      let here : index ≡ index + 0 = omega arith in
      let at : slice_get g index ≡ Some node = ap (slice_get g) here ∙ sym (rest_at 0) in
      let at_number : slice_get numbers index ≡ Some number = ap (slice_get numbers) here ∙ sym (left_at 0) in
      let is : class_at numbers index ≡ number = get_or_from_slice_get numbers index number 0 at_number in
      let within : index < length numbers = slice_get_within numbers index number at_number in
      let mid = order.1.0 in
      let next = count_children met mid count (node_children node) (closed_children g index node closed at) order.1.1 counts in
      let left_later : (i : ℕ) → slice_get left i ≡ slice_get numbers (suc index + i) = λ i. left_at (suc i) ∙ ap (slice_get numbers) (omega arith) in
      let rest_later : (i : ℕ) → slice_get rest i ≡ slice_get g (suc index + i) = λ i. rest_at (suc i) ∙ ap (slice_get g) (omega arith) in
      let now_met = AreMet-next index met mid node before at order.1.1 in
      elim (next_number 0 are.count begun index numbers are.in_order within so_far) [
        | inl old ↦
            let none = none_new index met next.0 count begun node at before counts so_far old.0 next.1 in
            let later = in_order-quotient mid (suc index) count begun left rest (omega arith) left_later rest_later order.1.2 now_met (subst (λ k. CountsUp 0 (take mid numbers) k) none next.2) old.1 in
            subst (λ (h : Nodes). IsInOrder count begun h are.count) (sym (quotient_old begun numbers left number node rest (omega (arith, is, old.0)))) later
        | inr new ↦
            let later = in_order-quotient mid (suc index) next.0 (suc begun) left rest (omega arith) left_later rest_later order.1.2 now_met next.2 new.1 in
            let low = first_below 0 count met index numbers counts order.0 within in
            let steps : CountsUp count (child_numbers (numbered_node numbers node)) next.0 = subst (λ (ns : List NodeId). CountsUp count (map (λ n. n.0) ns) next.0) (sym (children_numbered numbers node)) next.1 in
            subst (λ (h : Nodes). IsInOrder count begun h are.count) (sym (quotient_new begun numbers left number node rest (sym is ∙ new.0))) (omega (arith, low, new.0), (next.0, steps, later))
      ]

  -- the root's number is 0
  root_number : 0 < length g → (class_at numbers 0 ≡ 0) × CountsUp 0 (take 1 numbers) 1
  root_number positive = elim (next_number 0 are.count 0 0 numbers are.in_order (omega (arith, are.long)) refl) [
    | inl old ↦ absurd (omega (arith, old.0))
    | inr new ↦ new
  ]

  -- it is numbered breadth first where the graph is
  pub IsBreadthFirst-quotient : IsBreadthFirst g → IsBreadthFirst (quotient numbers g)
  IsBreadthFirst-quotient first =
      let root = root_number (IsBreadthFirst-positive g first) in
      let order = in_order-quotient 1 0 1 0 numbers g are.long (λ i. ap (slice_get numbers) (omega arith)) (λ i. ap (slice_get g) (omega arith)) (numbered-IsBreadthFirst g first) (λ i x early at. absurd (omega arith)) root.1 refl in
      IsBreadthFirst-numbered (quotient numbers g) (subst (λ k. IsInOrder 1 0 (quotient numbers g) k) (sym length-quotient) order)

-- the quotient of what the root reaches is the minimal graph
pub IsMinimal-quotient : (whole g : Nodes) (root : NodeId) (numbers : List ℕ) → IsPart whole root.0 g → IsBreadthFirst g → AreNumbered g numbers → IsMinimal whole root (quotient numbers g)
IsMinimal-quotient whole g root numbers of first are =
    let closed = IsClosed-renumbered whole of.ids g of.renumbered of.all in
    let positive = IsBreadthFirst-positive g first in
    let before = AgreeAlways-renumbered whole of.ids g of.renumbered of.all (id 0) root of.first in
    let now = AgreeAlways-quotient g numbers closed are (id 0) (id 0) positive (root_number g numbers closed are positive).0 in
    record {
      closed = IsClosed-quotient g numbers closed are;
      apart = apart-quotient g numbers closed are;
      same = AgreeAlways-trans (node_point (quotient numbers g) (id 0)) (node_point g (id 0)) (node_point whole root) now before;
      breadth_first = IsBreadthFirst-quotient g numbers closed are first;
    }

-- ---- the numbers, one class after another

-- no more are met than there are numbers
pub CountsUp-few : (met all : ℕ) (ns : List ℕ) → CountsUp met ns all → all ≤ met + length ns
CountsUp-few met all [] h = omega arith
CountsUp-few met all (n ∷ ns) (inl h) = let few = CountsUp-few met all ns h.1 in omega (arith, few)
CountsUp-few met all (n ∷ ns) (inr h) = let few = CountsUp-few (suc met) all ns h.1 in omega (arith, few)

-- the numbers of the indices before this one are equal where the classes are, and so many are met
pub record AreNumberedTo (classes numbers : List ℕ) (index count : ℕ) : Type 0 where
  pub long : length numbers ≡ index
  pub same : (i j : ℕ) → i < index → j < index → (class_at numbers i ≡ class_at numbers j) ↔ (class_at classes i ≡ class_at classes j)
  pub in_order : CountsUp 0 numbers count

-- one more number, which is equal to those before it where its class is
AreNumberedTo-push : (classes numbers : List ℕ) (index count number next : ℕ) → AreNumberedTo classes numbers index count → ((j : ℕ) → j < index → (number ≡ class_at numbers j) ↔ (class_at classes index ≡ class_at classes j)) → CountsUp count (number ∷ []) next → AreNumberedTo classes (numbers ++ number ∷ []) (index + 1) next
AreNumberedTo-push classes numbers index count number next before equal counts = record {
  long = omega (arith, length-append numbers (number ∷ []), before.long);
  same = λ i j i_in j_in. elim (cases_lt i index) [
    | inl i_old ↦ elim (cases_lt j index) [
      | inl j_old ↦ rw (old i i_old, old j j_old) (before.same i j i_old j_old)
      | inr j_new ↦
          let both = equal i i_old in
          let at : j ≡ index = omega arith in
          rw (at, old i i_old, new) (λ e. sym (both.0 (sym e)), λ e. sym (both.1 (sym e)))
    ]
    | inr i_new ↦
        let at : i ≡ index = omega arith in
        elim (cases_lt j index) [
          | inl j_old ↦ rw (at, old j j_old, new) (equal j j_old)
          | inr j_new ↦
              let is : i ≡ j = omega arith in
              (λ e. ap (class_at classes) is, λ e. ap (class_at (numbers ++ number ∷ [])) is)
        ]
  ];
  in_order = CountsUp-append 0 count next numbers (number ∷ []) before.in_order counts;
}
  where
    old : (i : ℕ) → i < index → class_at (numbers ++ number ∷ []) i ≡ class_at numbers i
    old i within = get_or_append_left numbers (number ∷ []) 0 i (omega (arith, before.long))

    new : class_at (numbers ++ number ∷ []) index ≡ number
    new = get_or_push numbers number 0 index before.long

-- a class that begins at this index has the next number
pub AreNumberedTo-new : (classes numbers : List ℕ) (index count : ℕ) → ((i : ℕ) → class_at classes i ≤ i) → class_at classes index ≡ index → AreNumberedTo classes numbers index count → AreNumberedTo classes (numbers ++ count ∷ []) (index + 1) (count + 1)
AreNumberedTo-new classes numbers index count early first before =
    AreNumberedTo-push classes numbers index count count (count + 1) before (λ j j_in. (λ e. absurd (other j j_in e), λ e. absurd (later j j_in e))) (inr (refl, omega arith))
  where
    other : (j : ℕ) → j < index → count ≡ class_at numbers j → ⊥
    other j j_in e =
        let below = number_below count j numbers before.in_order (omega (arith, before.long)) in omega (arith, below)

    later : (j : ℕ) → j < index → class_at classes index ≡ class_at classes j → ⊥
    later j j_in e = omega (arith, early j)

-- a node of a class that began has the number of the class
pub AreNumberedTo-old : (classes numbers : List ℕ) (index count class number : ℕ) → class < index → class_at classes index ≡ class → class_at classes class ≡ class → class_at numbers class ≡ number → AreNumberedTo classes numbers index count → AreNumberedTo classes (numbers ++ number ∷ []) (index + 1) count
AreNumberedTo-old classes numbers index count class number began is own at before =
    let equal : class_at classes index ≡ class_at classes class = is ∙ sym own in
    AreNumberedTo-push classes numbers index count number count before
    (λ j j_in. let both = before.same class j began j_in in (λ e. equal ∙ both.0 (at ∙ e), λ e. sym at ∙ both.1 (sym equal ∙ e)))
    (inl (below, refl))
  where
    below : number < count
    below =
        let less = number_below count class numbers before.in_order (omega (arith, before.long)) in omega (arith, less, at)

-- ---- the representatives, one after another

-- these nodes are those of the quotient that come from the indices before this one
abbrev pub IsStored : List ℕ → Nodes → ℕ → Nodes → Type 0
IsStored numbers g index nodes = nodes ++ quotient_from (length nodes) numbers (drop index numbers) (drop index g) ≡ quotient numbers g

-- what is left from an index on, element by element
quotient_step : (numbers : List ℕ) (g : Nodes) (index count : ℕ) (x : Node) → length numbers ≡ length g → slice_get g index ≡ Some x → quotient_from count numbers (drop index numbers) (drop index g) ≡ quotient_from count numbers (class_at numbers index ∷ drop (index + 1) numbers) (x ∷ drop (index + 1) g)
quotient_step numbers g index count x long at =
    let within : index < length g = slice_get_within g index x at in
    let next : suc index ≡ index + 1 = omega arith in
    let numbers_in : index < length numbers = omega arith in
    let left : drop index numbers ≡ class_at numbers index ∷ drop (index + 1) numbers = drop-cons numbers index 0 numbers_in ∙ ap (λ n. class_at numbers index ∷ drop n numbers) next in
    let rest : drop index g ≡ x ∷ drop (index + 1) g = drop-cons g index x within ∙ ap₂ (λ (y : Node) (n : ℕ). y ∷ drop n g) (get_or_from_slice_get g index x x at) next in
    ap₂ (λ (ns : List ℕ) (h : Nodes). quotient_from count numbers ns h) left rest

-- a class begins at this index
pub IsStored-new : (numbers : List ℕ) (g : Nodes) (index : ℕ) (nodes : Nodes) (x : Node) → length numbers ≡ length g → slice_get g index ≡ Some x → class_at numbers index ≡ length nodes → IsStored numbers g index nodes → IsStored numbers g (index + 1) (nodes ++ numbered_node numbers x ∷ [])
IsStored-new numbers g index nodes x long at new stored =
    let left = drop (index + 1) numbers in
    let rest = drop (index + 1) g in
    let count : length (nodes ++ numbered_node numbers x ∷ []) ≡ suc (length nodes) = omega (arith, length-append nodes (numbered_node numbers x ∷ [])) in
    let step : quotient_from (length nodes) numbers (drop index numbers) (drop index g) ≡ numbered_node numbers x ∷ quotient_from (suc (length nodes)) numbers left rest = quotient_step numbers g index (length nodes) x long at ∙ quotient_new (length nodes) numbers left (class_at numbers index) x rest new in
    append_assoc nodes (numbered_node numbers x ∷ []) (quotient_from (length (nodes ++ numbered_node numbers x ∷ [])) numbers left rest)
    ∙ ap (λ k. nodes ++ numbered_node numbers x ∷ quotient_from k numbers left rest) count
    ∙ ap (λ (h : Nodes). nodes ++ h) (sym step)
    ∙ stored

-- none begins
pub IsStored-old : (numbers : List ℕ) (g : Nodes) (index : ℕ) (nodes : Nodes) (x : Node) → length numbers ≡ length g → slice_get g index ≡ Some x → (class_at numbers index ≡ length nodes → ⊥) → IsStored numbers g index nodes → IsStored numbers g (index + 1) nodes
IsStored-old numbers g index nodes x long at other stored =
    let step = quotient_step numbers g index (length nodes) x long at ∙ quotient_old (length nodes) numbers (drop (index + 1) numbers) (class_at numbers index) x (drop (index + 1) g) other in
    ap (λ (h : Nodes). nodes ++ h) (sym step) ∙ stored

-- a head and the numbers of the children of the node at this index make its node in the quotient
pub numbered_at : (numbers : List ℕ) (g : Nodes) (index : ℕ) (x : Node) (top : Head) (children : List NodeId) → slice_get g index ≡ Some x → option_map node_head (slice_get g index) ≡ Some top → option_map node_children (slice_get g index) ≡ Some children → node_of top (map (numbered_child numbers) children) ≡ numbered_node numbers x
numbered_at numbers g index x top children at heads kids =
    let head_is : top ≡ node_head x = same_Some top (node_head x) (sym heads ∙ ap (option_map node_head) at) in
    let children_is : children ≡ node_children x = same_Some children (node_children x) (sym kids ∙ ap (option_map node_children) at) in
    ap₂ (λ (h : Head) (ns : List NodeId). node_of h (map (numbered_child numbers) ns)) head_is children_is

-- ---- numbers of classes

-- the numbers of the classes of nodes that agree at every depth are those of the nodes
pub AreNumbered-classes : (g : Nodes) (classes numbers : List ℕ) → AreClasses g classes → NumbersClasses classes numbers → AreNumbered g numbers
AreNumbered-classes g classes numbers are of = record {
  long = of.long ∙ are.long;
  same = λ i j i_in j_in.
      let same = of.same i j (omega (arith, are.long)) (omega (arith, are.long)) in (
        λ e. alike_of_one g classes are (id i) (id j) i_in j_in (same.0 e),
        λ alike. same.1 ((stored_together g classes are).together i j i_in j_in alike),
      );
  count = of.count;
  in_order = of.in_order;
}
