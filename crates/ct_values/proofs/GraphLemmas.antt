-- Graphs: children of a closed graph, and nodes added after it.
use Rattle.std.proofs.Common.{◌≡◌, ℕ, zero, suc, ◌<◌, Bool, List, [], ◌∷◌, ◌++◌, length, map, slice_get, Option, Some, None, option_map, unwrap_or, refl, ap, ap₂, ◌∙◌, ◌&&◌, arith}
use Rattle.std.specs.List.{AllByRecursion}
use Rattle.std.specs.Option.{option_eq}
use Rattle.std.proofs.lemmas.List.Elements.{recursion_from_All}
use Rattle.std.specs.Cmp.Lexicographic.{pointwise}
use Rattle.std.proofs.lemmas.List.{length-append}
use Rattle.ct_lemmas.proofs.Each.{All-at}
use Rattle.ct_values.specs.declared.node.NodeId.{NodeId}
use Rattle.ct_values.specs.declared.node.Node.{Node}
use Rattle.ct_values.specs.Graph.{Nodes, IsClosed, HasChildrenBelow, node_head, node_children}
use Rattle.ct_values.specs.Value.{Value, Values, reference, element, construct, no_values, with_value, list_of, IsOver, AreOver}
use Rattle.ct_values.specs.Agreement.{Point, point, head, head_of, children, children_of, same_head, agree}

-- the children of a node of a closed graph are nodes of it
pub closed_children : (g : Nodes) (i : ℕ) (node : Node) → IsClosed g → slice_get g i ≡ Some node → AllByRecursion (λ child. child.0 < length g) (node_children node)
closed_children g i node closed e =
    recursion_from_All (λ child. child.0 < length g) (node_children node) (All-at (HasChildrenBelow (length g)) g i node closed e)

-- references to such children are over the graph
references_over : (g : Nodes) (ids : List NodeId) → AllByRecursion (λ child. child.0 < length g) ids → AllByRecursion (IsOver g) (map reference ids)
references_over g [] h = tt
references_over g (n ∷ ns) h = (h.0, references_over g ns h.1)

list_over : (g : Nodes) (vs : Values) → AreOver g vs → AllByRecursion (IsOver g) (list_of vs)
list_over g no_values h = tt
list_over g (with_value v vs) h = (h.0, list_over g vs h.1)

-- the children of a value over a closed graph are over it
pub children_are_over : (g : Nodes) (v : Value) → IsClosed g → IsOver g v → AllByRecursion (IsOver g) (children_of g v)
children_are_over g (reference n) closed h = at (slice_get g n.0) refl
  where
    at : (found : Option Node) → slice_get g n.0 ≡ found → AllByRecursion (IsOver g) (map reference (unwrap_or (option_map node_children found) []))
    at None e = tt
    at (Some node) e = references_over g (node_children node) (closed_children g n.0 node closed e)
children_are_over g (element s n) closed h = tt
children_are_over g (construct c vs) closed h = list_over g vs h

-- what stands at a node stands there with more after it
grown_at : (g more : Nodes) (n : ℕ) → n < length g → slice_get (g ++ more) n ≡ slice_get g n
grown_at [] more n h = absurd (omega arith)
grown_at (x ∷ xs) more zero h = refl
grown_at (x ∷ xs) more (suc n) h = grown_at xs more n (omega arith)

-- a value keeps its head and its children
pub head_of-grown : (g more : Nodes) (v : Value) → IsOver g v → head_of (g ++ more) v ≡ head_of g v
head_of-grown g more (reference n) h = ap (option_map node_head) (grown_at g more n.0 h)
head_of-grown g more (element s n) h = refl
head_of-grown g more (construct c vs) h = refl

pub children_of-grown : (g more : Nodes) (v : Value) → IsOver g v → children_of (g ++ more) v ≡ children_of g v
children_of-grown g more (reference n) h =
    ap (λ found. map reference (unwrap_or (option_map node_children found) [])) (grown_at g more n.0 h)
children_of-grown g more (element s n) h = refl
children_of-grown g more (construct c vs) h = refl

mutual
  -- it is over the longer graph
  pub over-grown : (g more : Nodes) (v : Value) → IsOver g v → IsOver (g ++ more) v
  over-grown g more (reference n) h = omega (arith, h, length-append g more)
  over-grown g more (element s n) h = tt
  over-grown g more (construct c vs) h = all_over-grown g more vs h

  all_over-grown : (g more : Nodes) (vs : Values) → AreOver g vs → AreOver (g ++ more) vs
  all_over-grown g more no_values h = tt
  all_over-grown g more (with_value v vs) h = (over-grown g more v h.0, all_over-grown g more vs h.1)

-- a test that does not see the nodes after a graph gives one answer over lists of values
all-grown : (test : Point → Point → Bool) (g more : Nodes) → ((v : Value) (q : Point) → IsOver g v → test (point (g ++ more) v) q ≡ test (point g v) q) → (vs : List Value) (qs : List Point) → AllByRecursion (IsOver g) vs → pointwise test (map (point (g ++ more)) vs) qs ≡ pointwise test (map (point g) vs) qs
all-grown test g more one [] [] over = refl
all-grown test g more one [] (q ∷ qs) over = refl
all-grown test g more one (v ∷ vs) [] over = refl
all-grown test g more one (v ∷ vs) (q ∷ qs) over =
    ap₂ (λ a b. a && b) (one v q over.0) (all-grown test g more one vs qs over.1)

-- nodes after a closed graph change nothing for a value over it
pub agree-grown : (k : ℕ) (g more : Nodes) (v : Value) (q : Point) → IsClosed g → IsOver g v → agree k (point (g ++ more) v) q ≡ agree k (point g v) q
unfolding agree
agree-grown zero g more v q closed over = refl
agree-grown (suc k) g more v q closed over =
    let heads = ap (λ h. option_eq same_head h (head q)) (head_of-grown g more v over) in
    let same_children = ap (λ vs. pointwise (agree k) (map (point (g ++ more)) vs) (children q)) (children_of-grown g more v over) in
    let each = all-grown (agree k) g more (λ u r u_over. agree-grown k g more u r closed u_over) (children_of g v) (children q) (children_are_over g v closed over) in
    ap₂ (λ a b. a && b) heads (same_children ∙ each)
