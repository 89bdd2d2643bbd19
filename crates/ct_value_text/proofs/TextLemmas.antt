-- What is written of a constructor over nodes, and of the nodes of a graph one by one.
use Rattle.std.proofs.Common.{◌≡◌, ℕ, suc, ◌+◌, ◌<◌, ◌≤◌, List, [], ◌∷◌, ◌++◌, length, map, take, get_or, slice_get, option_map, Some, refl, sym, ap, ◌∙◌, arith, append_assoc, codes}
use Rattle.std.proofs.lemmas.List.{append-nil, take_more, length-take, take_all}
use Rattle.std.proofs.lemmas.Option.{get_or_from_slice_get, same_Some}
use Rattle.ct_lemmas.proofs.Lists.{slice_get-there}
use Rattle.ct_sorts.specs.declared.ids.CtorId.{CtorId}
use Rattle.ct_sorts.specs.Declarations.{Declarations}
use Rattle.ct_sexpr.specs.Expression.{Expression}
use Rattle.ct_sexpr.specs.Written.{written, written_items, written_after}
use Rattle.ct_values.specs.declared.node.NodeId.{NodeId}
use Rattle.ct_values.specs.declared.node.Node.{Node}
use Rattle.ct_values.specs.declared.node.Node.TheVariants.{Con, Elem}
use Rattle.ct_values.specs.declared.node.Head.TheVariants as heads
use Rattle.ct_values.specs.Value.{reference, values_of, node_value}
use Rattle.ct_value_text.specs.ValueText.{node_name, applied, ctor_expression, expression, expressions, row, node_texts, graph_text}
use Rattle.ct_value_text.specs.Separation.{gap}
use Rattle.ct_values.specs.Graph.{Nodes, node_head, node_children}
use Rattle.ct_value_text.specs.Numeral.{numeral}

-- one more node after those that are written
names-push : (d : Declarations) (ns : List NodeId) (n : NodeId) → written_after (expressions d (values_of (map reference (ns ++ n ∷ [])))) ≡ written_after (expressions d (values_of (map reference ns))) ++ 32 ∷ written (node_name n.0)
names-push d [] n = ap (λ w. 32 ∷ w) (append-nil (written (node_name n.0)))
names-push d (m ∷ ms) n =
    ap (λ w. 32 ∷ (written (node_name m.0) ++ w)) (names-push d ms n)
    ∙ ap (λ w. 32 ∷ w) (sym (append_assoc (written (node_name m.0)) (written_after (expressions d (values_of (map reference ms)))) (32 ∷ written (node_name n.0))))

-- the same, as a program knows it
pub names-more : (d : Declarations) (ns : List NodeId) (i : ℕ) (z : NodeId) (old now space new : List ℕ) → i < length ns
    → now ≡ old ++ written_after (expressions d (values_of (map reference (take i ns)))) → space ≡ now ++ 32 ∷ [] → new ≡ space ++ written (node_name (get_or ns i z).0)
    → new ≡ old ++ written_after (expressions d (values_of (map reference (take (i + 1) ns))))
names-more d ns i z old now space new within p q r =
    let before = written_after (expressions d (values_of (map reference (take i ns)))) in
    let n = get_or ns i z in
    let word = written (node_name n.0) in
    let taken : take (i + 1) ns ≡ take i ns ++ n ∷ [] = take_more ns i z within in
    r
    ∙ ap (λ w. w ++ word) (q ∙ ap (λ w. w ++ 32 ∷ []) p)
    ∙ append_assoc (old ++ before) (32 ∷ []) word
    ∙ append_assoc old before (32 ∷ word)
    ∙ ap (λ w. old ++ w) (sym (names-push d (take i ns) n) ∙ ap (λ (ms : List NodeId). written_after (expressions d (values_of (map reference ms)))) (sym taken))

-- a constructor with arguments, from its parts
pub written-constructor : (d : Declarations) (head : Expression) (ns : List NodeId) (old begun named all new : List ℕ) → 0 < length ns
    → begun ≡ old ++ 40 ∷ [] → named ≡ begun ++ written head → all ≡ named ++ written_after (expressions d (values_of (map reference ns))) → new ≡ all ++ 41 ∷ []
    → new ≡ old ++ written (applied head (expressions d (values_of (map reference ns))))
written-constructor d head [] old begun named all new some p q r s = absurd (omega arith)
written-constructor d head (n ∷ ns) old begun named all new some p q r s =
    let args = written_after (expressions d (values_of (map reference (n ∷ ns)))) in
    s
    ∙ ap (λ w. w ++ 41 ∷ []) (r ∙ ap (λ w. w ++ args) (q ∙ ap (λ w. w ++ written head) p))
    ∙ ap (λ w. (w ++ args) ++ 41 ∷ []) (append_assoc old (40 ∷ []) (written head))
    ∙ ap (λ w. w ++ 41 ∷ []) (append_assoc old (40 ∷ written head) args)
    ∙ append_assoc old (40 ∷ (written head ++ args)) (41 ∷ [])

-- what stands at a node with a constructor at its head: the constructor over the children
constructor-node : (d : Declarations) (node : Node) (c : CtorId) (ns : List NodeId) → node_head node ≡ heads.Con c → node_children node ≡ ns → applied (ctor_expression d c) (expressions d (values_of (map reference ns))) ≡ expression d (node_value node)
constructor-node d (Con k children) c ns head_is below =
    let same : c ≡ k = cc in
    ap (λ (e : CtorId). applied (ctor_expression d e) (expressions d (values_of (map reference ns)))) same
    ∙ ap (λ (ms : List NodeId). applied (ctor_expression d k) (expressions d (values_of (map reference ms)))) (sym below)
constructor-node d (Elem s n) c ns head_is below = absurd cc

-- the same, as a program knows it
pub constructor-at : (d : Declarations) (g : Nodes) (n : ℕ) (c : CtorId) (ns : List NodeId) (node : Node) → option_map node_head (slice_get g n) ≡ Some (heads.Con c) → option_map node_children (slice_get g n) ≡ Some ns → slice_get g n ≡ Some node
    → applied (ctor_expression d c) (expressions d (values_of (map reference ns))) ≡ expression d (node_value node)
constructor-at d g n c ns node head_is below at =
    constructor-node d node c ns
    (same_Some (node_head node) (heads.Con c) (sym (ap (option_map node_head) at) ∙ head_is))
    (same_Some (node_children node) ns (sym (ap (option_map node_children) at) ∙ below))

-- one more row after those that are written
rows_after-push : (d : Declarations) (n : ℕ) (xs : List Node) (x : Node) → written_after (node_texts d n (xs ++ x ∷ [])) ≡ written_after (node_texts d n xs) ++ 32 ∷ written (row d (n + length xs) x)
rows_after-push d n [] x =
    let at : n ≡ n + 0 = omega arith in
    ap (λ w. 32 ∷ w) (append-nil (written (row d n x))) ∙ ap (λ k. 32 ∷ written (row d k x)) at
rows_after-push d n (y ∷ ys) x =
    let at : suc n + length ys ≡ n + suc (length ys) = omega arith in
    ap (λ w. 32 ∷ (written (row d n y) ++ w)) (rows_after-push d (suc n) ys x ∙ ap (λ k. written_after (node_texts d (suc n) ys) ++ 32 ∷ written (row d k x)) at)
    ∙ ap (λ w. 32 ∷ w) (sym (append_assoc (written (row d n y)) (written_after (node_texts d (suc n) ys)) (32 ∷ written (row d (n + suc (length ys)) x))))

rows-push : (d : Declarations) (xs : List Node) (x : Node) → written_items (node_texts d 0 (xs ++ x ∷ [])) ≡ written_items (node_texts d 0 xs) ++ (gap (length xs) ++ written (row d (length xs) x))
rows-push d [] x = append-nil (written (row d 0 x))
rows-push d (y ∷ ys) x =
    let at : 1 + length ys ≡ suc (length ys) = omega arith in
    ap (λ w. written (row d 0 y) ++ w) (rows_after-push d 1 ys x ∙ ap (λ k. written_after (node_texts d 1 ys) ++ 32 ∷ written (row d k x)) at)
    ∙ sym (append_assoc (written (row d 0 y)) (written_after (node_texts d 1 ys)) (32 ∷ written (row d (suc (length ys)) x)))

-- the same, as a program knows it
pub rows-more : (d : Declarations) (g : Nodes) (i : ℕ) (start now new : List ℕ) → i < length g → now ≡ start ++ written_items (node_texts d 0 (take i g))
    → ((x : Node) → slice_get g i ≡ Some x → new ≡ now ++ (gap i ++ written (row d i x)))
    → new ≡ start ++ written_items (node_texts d 0 (take (i + 1) g))
rows-more d g i start now new within p q =
    let x = slice_get-there g i within in
    let long : length (take i g) ≡ i = omega (arith, length-take {A = Node}) in
    let taken : take (i + 1) g ≡ take i g ++ x.0 ∷ [] = take_more g i x.0 within ∙ ap (λ e. take i g ++ e ∷ []) (get_or_from_slice_get g i x.0 x.0 x.1) in
    let pushed = rows-push d (take i g) x.0 in
    let at_i : written_items (node_texts d 0 (take (i + 1) g)) ≡ written_items (node_texts d 0 (take i g)) ++ (gap i ++ written (row d i x.0)) =
    ap (λ (xs : List Node). written_items (node_texts d 0 xs)) taken ∙ pushed ∙ ap (λ k. written_items (node_texts d 0 (take i g)) ++ (gap k ++ written (row d k x.0))) long in
    q x.0 x.1
    ∙ ap (λ w. w ++ (gap i ++ written (row d i x.0))) p
    ∙ append_assoc start (written_items (node_texts d 0 (take i g))) (gap i ++ written (row d i x.0))
    ∙ ap (λ w. start ++ w) (sym at_i)

-- the text of a graph, from its rows
pub written-graph : (d : Declarations) (g : Nodes) (n : ℕ) (now new : List ℕ) → length g ≤ n → now ≡ codes "(@graph (" ++ written_items (node_texts d 0 (take n g)) → new ≡ now ++ codes ") @0)" → new ≡ written (graph_text d g)
written-graph d g n now new all p q =
    let rows = written_items (node_texts d 0 g) in
    let root : List ℕ = 32 ∷ (64 ∷ (numeral 0 ++ [])) in
    let taken : take n g ≡ g = take_all n g all in
    let zero_is : numeral 0 ≡ 48 ∷ [] = refl in
    let tail : codes ") @0)" ≡ 41 ∷ ((32 ∷ (64 ∷ (numeral 0 ++ []))) ++ 41 ∷ []) = ap (λ (w : List ℕ). 41 ∷ ((32 ∷ (64 ∷ (w ++ []))) ++ 41 ∷ [])) (sym zero_is) in
    q
    ∙ ap (λ w. w ++ codes ") @0)") (p ∙ ap (λ (xs : List Node). codes "(@graph (" ++ written_items (node_texts d 0 xs)) taken)
    ∙ append_assoc (codes "(@graph (") rows (codes ") @0)")
    ∙ ap (λ w. codes "(@graph (" ++ (rows ++ w)) tail
    ∙ ap (λ w. codes "(@graph (" ++ w) (sym (append_assoc (rows ++ 41 ∷ []) root (41 ∷ []) ∙ append_assoc rows (41 ∷ []) (root ++ 41 ∷ [])))
