-- A search through a graph of expressions: which vertices are marked, and which of these wait on a stack.
use Rattle.std.specs.Prelude.{◌≡◌, ℕ, ◌+◌, ◌<◌, ◌≤◌, ◌⊎◌, Bool, true, List, length, Some, slice_get}
use Rattle.ct_generics.specs.declared.kind.Kind.TheVariants.{Data, Codata}
use Rattle.ct_generics.specs.declared.graph.Vertex.{Vertex}
use Rattle.ct_generics.specs.Graph.{Leads, HasArc, IsVertexOf}
use Rattle.ct_generics.specs.Marks.{marked, unmarked}

-- the number stands in the list
abbrev pub On : List ℕ → ℕ → Type 0
On xs i = (k : ℕ) × (slice_get xs k ≡ Some i)

-- these vertices were marked, and those that were not marked before came onto the stack
pub record IsMarking (before : List Bool) (stack wanted : List ℕ) (after : List Bool) (grown : List ℕ) : Type 0 where
  pub long : length after ≡ length before
  pub stay : (i : ℕ) → marked before i ≡ true → marked after i ≡ true
  pub wait : (i : ℕ) → On stack i → On grown i
  pub new : (i : ℕ) → marked after i ≡ true → (marked before i ≡ true) ⊎ (On wanted i × On grown i)
  pub stacked : (i : ℕ) → On grown i → On stack i ⊎ (marked after i ≡ true)
  pub done : (i : ℕ) → On wanted i → i < length before → marked after i ≡ true
  pub less : unmarked after + length grown ≤ unmarked before + length stack

-- a marked datatype with a field of the vertex
abbrev pub IsSource : List Vertex → List Bool → ℕ → ℕ → Type 0
IsSource g marks y x = IsVertexOf g Data x × HasArc g x y × (marked marks x ≡ true)

-- the vertex is a codatatype that leads to a datatype with a field of it
abbrev pub IsBack : List Vertex → ℕ → Type 0
IsBack g y = IsVertexOf g Codata y × ((x : ℕ) × IsVertexOf g Data x × HasArc g x y × Leads g y x)

-- a search that has begun at a vertex: what is marked it leads to, and where a marked vertex does not wait, the vertices of
-- its fields are marked
pub record IsSearch (g : List Vertex) (start : ℕ) (marks : List Bool) (stack : List ℕ) : Type 0 where
  pub long : length marks ≡ length g
  pub sound : (i : ℕ) → marked marks i ≡ true → Leads g start i
  pub begun : marked marks start ≡ true
  pub stacked : (i : ℕ) → On stack i → marked marks i ≡ true
  pub closed : (i : ℕ) → marked marks i ≡ true → On stack i ⊎ ((j : ℕ) → HasArc g i j → marked marks j ≡ true)
