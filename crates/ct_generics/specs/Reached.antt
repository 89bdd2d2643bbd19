-- The graph of what an expression reaches, as it is built: numbers of expressions that were met, and the vertices of the
-- first of them.
use Rattle.ct_generics.specs.Founded.{IsFounded}
use Rattle.ct_generics.specs.Mixed.{IsMixed}
use Rattle.ct_generics.specs.Graph.{IsClosedGraph, HasPlainEnds, IsFoundedAt, IsMixedGraph}
use Rattle.std.specs.Prelude.{◌↔◌, ◌≡◌, ℕ, ◌<◌, ◌≤◌, List, length, Some, option_map, slice_get}
use Rattle.std.specs.List.{AllZip}
use Rattle.ct_generics.specs.declared.nodes.ExprId.{ExprId}
use Rattle.ct_generics.specs.declared.nodes.Node.{Node}
use Rattle.ct_generics.specs.declared.graph.Vertex.{Vertex}
use Rattle.ct_generics.specs.Expression.{Expression}
use Rattle.ct_generics.specs.Declarations.{Head, head_at}
use Rattle.ct_generics.specs.Nodes.{Stands}
use Rattle.ct_generics.specs.Reach.{Reaches, AreDifferent, fields_of}

-- the number at this index stands for the expression
abbrev pub StandsAt : List Node → List ExprId → ℕ → Expression → Type 0
StandsAt nodes ids i e = (id : ExprId) × (slice_get ids i ≡ Some id) × Stands nodes id.0 e

-- the vertex is that of the expression: the fields of its constructors stand at these indices
pub record IsVertexFor (heads : List Head) (nodes : List Node) (ids : List ExprId) (v : Vertex) (e : Expression) : Type 0 where
  pub kind_is : v.kind ≡ option_map (λ head. head.kind) (head_at heads e)
  pub fields : AllZip (AllZip (StandsAt nodes ids)) v.ctors (fields_of heads e)

-- one of these expressions reaches it
abbrev pub ReachedFrom : List Head → List Expression → Expression → Type 0
ReachedFrom heads roots f = (k : ℕ) × (e : Expression) × (slice_get roots k ≡ Some e) × Reaches heads e f

-- together these reach more than so many
abbrev pub ReachMoreThan : List Head → List Expression → ℕ → Type 0
ReachMoreThan heads roots bound = (es : List Expression) × AreDifferent es × (bound < length es) × ((i : ℕ) (f : Expression) → slice_get es i ≡ Some f → ReachedFrom heads roots f)

-- The numbers are of what these expressions reach, which stand at the indices `starts`, and the vertices are those of the
-- first of the numbers.
pub record IsReached (heads : List Head) (nodes : List Node) (ids : List ExprId) (graph : List Vertex) (starts : List ℕ) (roots : List Expression) : Type 0 where
  pub begun : AllZip (StandsAt nodes ids) starts roots
  pub reached : (i : ℕ) (id : ExprId) → slice_get ids i ≡ Some id → (f : Expression) × Stands nodes id.0 f × ReachedFrom heads roots f
  pub within : length graph ≤ length ids
  pub vertices : (i : ℕ) (v : Vertex) (f : Expression) → slice_get graph i ≡ Some v → StandsAt nodes ids i f → IsVertexFor heads nodes ids v f

-- one of these expressions is mixed
abbrev pub IsSomeMixed : List Head → List Expression → Type 0
IsSomeMixed heads roots = (k : ℕ) × (e : Expression) × (slice_get roots k ≡ Some e) × IsMixed heads e

-- the graph is one for the searches, the vertex of each of the expressions is well founded exactly where this is, and the
-- graph is mixed exactly where one of them is
pub record TellsOf (heads : List Head) (graph : List Vertex) (starts : List ℕ) (roots : List Expression) : Type 0 where
  pub closed : IsClosedGraph graph
  pub ends : HasPlainEnds graph
  pub founded : (k i : ℕ) (e : Expression) → slice_get starts k ≡ Some i → slice_get roots k ≡ Some e → IsFoundedAt graph i ↔ IsFounded heads e
  pub mixed : IsMixedGraph graph ↔ IsSomeMixed heads roots
