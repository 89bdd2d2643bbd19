-- Nodes that are numbered when they are first met are numbered breadth first, and the other way.
use Rattle.std.proofs.Common.{◌≡◌, ℕ, zero, suc, ◌+◌, ◌<◌, ◌≤◌, true, List, [], ◌∷◌, ◌++◌, length, map, flat_map, nat_eq, refl, sym, ap, subst, ◌∙◌, inl, inr, arith, append_assoc, length-append}
use Rattle.std.specs.List.{AllByRecursion, list_any}
use Rattle.std.proofs.lemmas.Bool.{cases_lt}
use Rattle.std.proofs.lemmas.List.{map-append}
use Rattle.std.proofs.lemmas.Option.{same_Some}
use Rattle.ct_values.specs.declared.node.NodeId.{NodeId}
use Rattle.ct_values.specs.declared.node.Node.{Node}
use Rattle.ct_values.specs.Graph.{Nodes}
use Rattle.ct_values.specs.Minimal.{child_numbers, HasChild, IsBreadthFirst}
use Rattle.ct_values.specs.Numbering.{CountsUp, IsInOrder}
use Rattle.ct_values.proofs.CountLemmas.{CountsUp-rises, CountsUp-below, CountsUp-has, CountsUp-append, CountsUp-split, first_occurrences-counts, counts-first_occurrences, has_below}

-- ---- numbered when first met

-- one more number
pub CountsUp-push : (met mid all : ℕ) (indices : List NodeId) (index : NodeId) → CountsUp met (map (λ p. p.0) indices) mid → CountsUp mid (index.0 ∷ []) all → CountsUp met (map (λ p. p.0) (indices ++ index ∷ [])) all
CountsUp-push met mid all indices index first last =
    subst (λ ns. CountsUp met ns all) (sym (map-append (λ p. p.0) indices (index ∷ []))) (CountsUp-append met mid all (map (λ p. p.0) indices) (index.0 ∷ []) first last)

-- one more node, which was met before
pub IsInOrder-push : (met index mid all : ℕ) (nodes : List Node) (node : Node) → IsInOrder met index nodes mid → index + length nodes < mid → CountsUp mid (child_numbers node) all → IsInOrder met index (nodes ++ node ∷ []) all
IsInOrder-push met index mid all [] node e before counts =
    (omega (arith, e), (all, subst (λ k. CountsUp k (child_numbers node) all) (sym e) counts, refl))
IsInOrder-push met index mid all (x ∷ xs) node h before counts =
    (h.0, (h.1.0, h.1.1, IsInOrder-push h.1.0 (suc index) mid all xs node h.1.2 (omega arith) counts))

-- the children of all count up
IsInOrder-counts : (met index all : ℕ) (nodes : List Node) → IsInOrder met index nodes all → CountsUp met (flat_map child_numbers nodes) all
IsInOrder-counts met index all [] h = h
IsInOrder-counts met index all (node ∷ nodes) h =
    CountsUp-append met h.1.0 all (child_numbers node) (flat_map child_numbers nodes) h.1.1 (IsInOrder-counts h.1.0 (suc index) all nodes h.1.2)

-- a number that is newly met is that of a child of a node before it
IsInOrder-has : (met index all n : ℕ) (nodes : List Node) → IsInOrder met index nodes all → met ≤ n → n < all → (m : ℕ) × (index + m < n) × HasChild nodes m n
IsInOrder-has met index all n [] h low high = absurd (omega arith)
IsInOrder-has met index all n (node ∷ nodes) h low high = elim (cases_lt n h.1.0) [
  | inl here ↦ (0, omega (arith, h.0), (node, refl, CountsUp-has met h.1.0 n (child_numbers node) h.1.1 low here))
  | inr after ↦
      let later = IsInOrder-has h.1.0 (suc index) all n nodes h.1.2 after high in
      (suc later.0, omega (arith, later.1), later.2)
]

pub IsBreadthFirst-numbered : (h : Nodes) → IsInOrder 1 0 h (length h) → IsBreadthFirst h
IsBreadthFirst-numbered h order = record {
  in_order = first_occurrences-counts (length h) (0 ∷ flat_map child_numbers h) (inr (refl, IsInOrder-counts 1 0 (length h) h order));
  reached = λ n positive within.
      let has = IsInOrder-has 1 0 (length h) n h order (omega arith) within in
      (has.0, omega (arith, has.1), has.2);
}

-- ---- the other way

-- the children of these nodes are below the count
abbrev AreMet : ℕ → List Node → Type 0
AreMet met nodes = AllByRecursion (λ node. AllByRecursion (λ n. n < met) (child_numbers node)) nodes

more_below : (low high : ℕ) (ns : List ℕ) → low ≤ high → AllByRecursion (λ n. n < low) ns → AllByRecursion (λ n. n < high) ns
more_below low high [] le h = tt
more_below low high (n ∷ ns) le h = (omega (arith, h.0), more_below low high ns le h.1)

AreMet-push : (low high : ℕ) (nodes : List Node) (node : Node) → low ≤ high → AreMet low nodes → AllByRecursion (λ n. n < high) (child_numbers node) → AreMet high (nodes ++ node ∷ [])
AreMet-push low high [] node le h last = (last, tt)
AreMet-push low high (x ∷ xs) node le h last =
    (more_below low high (child_numbers x) le h.0, AreMet-push low high xs node le h.1 last)

-- a child of one of the first nodes was met
child_met : (met : ℕ) (before rest : List Node) (m n : ℕ) → AreMet met before → m < length before → HasChild (before ++ rest) m n → n < met
child_met met [] rest m n h within has = absurd (omega arith)
child_met met (x ∷ xs) rest zero n h within has = has_below met n (child_numbers x) h.0 (subst (λ (y : Node). list_any (nat_eq n) (child_numbers y) ≡ true) (sym (same_Some x has.0 has.1)) has.2)
child_met met (x ∷ xs) rest (suc m) n h within has = child_met met xs rest m n h.1 (omega arith) has

-- where the nodes before these have met what they have as children, these are numbered when they are first met
in_order_from : (h : Nodes) (before rest : List Node) (met : ℕ) → ((n : ℕ) → 0 < n → n < length h → (m : ℕ) × (m < n) × HasChild h m n) → before ++ rest ≡ h → 0 < met → AreMet met before → CountsUp met (flat_map child_numbers rest) (length h) → IsInOrder met (length before) rest (length h)
in_order_from h before [] met reached whole positive met_before counts = counts
in_order_from h before (node ∷ rest) met reached whole positive met_before counts =
    let parts = CountsUp-split met (length h) (child_numbers node) (flat_map child_numbers rest) counts in
    let mid = parts.0 in
    let rises = CountsUp-rises met mid (child_numbers node) parts.1 in
    let next : (before ++ node ∷ []) ++ rest ≡ h = append_assoc before (node ∷ []) rest ∙ whole in
    let now_met = AreMet-push met mid before node rises met_before (CountsUp-below met mid (child_numbers node) parts.1) in
    let later = in_order_from h (before ++ node ∷ []) rest mid reached next (omega (arith, rises)) now_met parts.2 in
    let index : length (before ++ node ∷ []) ≡ suc (length before) = omega (arith, length-append before (node ∷ [])) in (
      elim (cases_lt (length before) met) [ inl less ↦ less | inr high ↦ absurd (none_new high) ],
      (mid, parts.1, subst (λ k. IsInOrder mid k rest (length h)) index later),
    )
  where
    none_new : met ≤ length before → ⊥
    none_new high =
        let within : length before < length h = omega (arith, ap length whole, length-append before (node ∷ rest)) in
        let has = reached met positive (omega arith) in
        let in_whole : HasChild (before ++ node ∷ rest) has.0 met = subst (λ (g : Nodes). HasChild g has.0 met) (sym whole) has.2 in
        omega (arith, child_met met before (node ∷ rest) has.0 met met_before (omega (arith, has.1)) in_whole)

pub numbered-IsBreadthFirst : (h : Nodes) → IsBreadthFirst h → IsInOrder 1 0 h (length h)
numbered-IsBreadthFirst h first =
    elim (counts-first_occurrences (length h) (0 ∷ flat_map child_numbers h) first.in_order) [
      | inl old ↦ absurd (omega (arith, old.0))
      | inr new ↦ in_order_from h [] h 1 first.reached refl (omega arith) tt new.1
    ]

-- it has a node
pub IsBreadthFirst-positive : (h : Nodes) → IsBreadthFirst h → 0 < length h
IsBreadthFirst-positive h first =
    elim (counts-first_occurrences (length h) (0 ∷ flat_map child_numbers h) first.in_order) [
      | inl old ↦ absurd (omega (arith, old.0))
      | inr new ↦ let rises = CountsUp-rises 1 (length h) (flat_map child_numbers h) new.1 in omega arith
    ]
