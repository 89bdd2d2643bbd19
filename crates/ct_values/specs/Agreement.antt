-- Equality of values: they agree at every depth, and a bounded depth decides it. It is the bisimilarity of codatatypes
-- (Reynolds and Blanchette 2015), and on finite trees plain equality.
use Rattle.std.specs.Prelude.{ℕ, zero, suc, ◌+◌, ◌*◌, Bool, true, false, ◌&&◌, IsTrue, List, [], length, map, Option, Some, option_map, unwrap_or, slice_get, nat_eq}
use Rattle.std.specs.Option.{option_eq}
use Rattle.std.specs.Cmp.Lexicographic.{pointwise}
use Rattle.ct_values.specs.declared.node.NodeId.{NodeId}
use Rattle.ct_values.specs.declared.node.Head.{Head}
use Rattle.ct_values.specs.declared.node.Head.TheVariants.{Con, Elem}
use Rattle.ct_values.specs.Graph.{Nodes, node_head, node_children}
use Rattle.ct_values.specs.Value.{Value, reference, element, construct, list_of, subterms}

-- a value with the graph that it is over
pub record Point : Type 0 where
  pub graph : Nodes
  pub value : Value

-- a value in a graph
abbrev pub point : Nodes → Value → Point
point g v = record { graph = g; value = v }

-- a node of a graph
abbrev pub node_point : Nodes → NodeId → Point
node_point g n = point g (reference n)

-- the head of a value: its constructor or its element, which a reference has from its node; a reference to no node has none
abbrev pub head_of : Nodes → Value → Option Head
head_of g (reference n) = option_map node_head (slice_get g n.0)
head_of g (element s n) = Some (Elem s n)
head_of g (construct c vs) = Some (Con c)

-- the children of a value; those of a reference are references
abbrev pub children_of : Nodes → Value → List Value
children_of g (reference n) = map reference (unwrap_or (option_map node_children (slice_get g n.0)) [])
children_of g (element s n) = []
children_of g (construct c vs) = list_of vs

-- the head of a point
abbrev pub head : Point → Option Head
head p = head_of p.graph p.value

-- the children of a point, in its graph
abbrev pub children : Point → List Point
children p = map (point p.graph) (children_of p.graph p.value)

-- two heads are one constructor, or one element of one sort
abbrev pub same_head : Head → Head → Bool
same_head (Con c) (Con d) = nat_eq c.0 d.0
same_head (Con c) (Elem s n) = false
same_head (Elem s n) (Con c) = false
same_head (Elem s m) (Elem t n) = nat_eq s.0 t.0 && nat_eq m n

-- the points agree to this depth: their heads are equal, and as many children agree, each to a depth one less
unfoldable pub agree : ℕ → Point → Point → Bool
agree zero p q = true
agree (suc k) p q = option_eq same_head (head p) (head q) && pointwise (agree k) (children p) (children q)

-- the number of nodes of the graph and of subterms of the value
abbrev pub size : Point → ℕ
size p = length p.graph + length (subterms p.value)

-- the points are equal: they agree to the product of their sizes
unfoldable pub same : Point → Point → Bool
same p q = agree (size p * size q) p q

-- they agree at every depth
abbrev pub AgreeAlways : Point → Point → Type 0
AgreeAlways p q = (k : ℕ) → IsTrue (agree k p q)
