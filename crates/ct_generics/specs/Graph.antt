-- Graphs of expressions, by the indices of their vertices.
use Rattle.std.specs.Prelude.{◌≡◌, ℕ, ◌<◌, ◌⊎◌, List, length, Some, slice_get}
use Rattle.std.specs.List.{flat_map}
use Rattle.ct_generics.specs.declared.kind.Kind.{Kind}
use Rattle.ct_generics.specs.declared.kind.Kind.TheVariants.{Data, Codata}
use Rattle.ct_generics.specs.declared.graph.Vertex.{Vertex}

-- the vertices of all fields of a vertex, one constructor after the other
abbrev pub arcs_of : Vertex → List ℕ
arcs_of v = flat_map (λ fields. fields) v.ctors

-- the second is the vertex of a field of the first
abbrev pub HasArc : List Vertex → ℕ → ℕ → Type 0
HasArc g i j = (v : Vertex) × (slice_get g i ≡ Some v) × ((k : ℕ) × (slice_get (arcs_of v) k ≡ Some j))

-- each arc ends at a vertex
abbrev pub IsClosedGraph : List Vertex → Type 0
IsClosedGraph g = (i j : ℕ) → HasArc g i j → j < length g

-- the first leads to the second
pub data Leads (g : List Vertex) (i : ℕ) : ℕ → Type 0 where
  here : Leads g i i
  onward : (j k : ℕ) → Leads g i j → HasArc g j k → Leads g i k

-- each vertex that is no datatype, and each that has a constructor all of whose fields are well founded
pub data IsFoundedAt (g : List Vertex) : ℕ → Type 0 where
  other : (i : ℕ) (v : Vertex) → slice_get g i ≡ Some v → (v.kind ≡ Some Data → ⊥) → IsFoundedAt g i
  built : (i : ℕ) (v : Vertex) (a : ℕ) (fields : List ℕ) → slice_get g i ≡ Some v → slice_get v.ctors a ≡ Some fields → ((b j : ℕ) → slice_get fields b ≡ Some j → IsFoundedAt g j) → IsFoundedAt g i

-- the vertex is of this kind
abbrev pub IsVertexOf : List Vertex → Kind → ℕ → Type 0
IsVertexOf g kind i = (v : Vertex) × (slice_get g i ≡ Some v) × (v.kind ≡ Some kind)

-- a datatype and a codatatype lead to each other
abbrev pub IsMixedGraph : List Vertex → Type 0
IsMixedGraph g = (d c : ℕ) × IsVertexOf g Data d × IsVertexOf g Codata c × Leads g d c × Leads g c d

-- only datatypes and codatatypes have fields
abbrev pub HasPlainEnds : List Vertex → Type 0
HasPlainEnds g = (i j : ℕ) → HasArc g i j → IsVertexOf g Data i ⊎ IsVertexOf g Codata i
