-- Topological orders and cycles of a directed graph.
use Rattle.std.specs.Prelude.{◌≡◌, ℕ, ◌+◌, ◌-◌, ◌<◌, List, length, Some, slice_get, All}
use Rattle.ct_ordering.specs.declared.hop.Hop.{Hop}
use Rattle.ct_ordering.specs.declared.ordering.Ordered.{Ordered}
use Rattle.ct_ordering.specs.declared.ordering.Ordered.TheVariants as ordered
use Rattle.ct_ordering.specs.Graph.{Graph, HasKid}

-- the point stands in the list at this index
abbrev pub StandsAt : List ℕ → ℕ → ℕ → Type 0
StandsAt list index point = slice_get list index ≡ Some point

-- a topological order: each point stands in it, once, and nothing else, and the kids of a point stand before it
pub record IsOrder (g : Graph) (list : List ℕ) : Type 0 where
  pub within : All (λ point. point < g.count) list
  pub each : (point : ℕ) → point < g.count → (index : ℕ) × StandsAt list index point
  pub once : (point first second : ℕ) → StandsAt list first point → StandsAt list second point → first ≡ second
  pub before : (point place kid earlier later : ℕ) → HasKid g point place kid → StandsAt list earlier kid → StandsAt list later point → earlier < later

-- the hop goes along an edge to this point: it is the kid of the hop's point at the hop's place
abbrev pub GoesTo : Graph → Hop → ℕ → Type 0
GoesTo g hop point = HasKid g hop.point hop.place point

-- each hop but the last goes to the point of the next
abbrev pub IsPath : Graph → List Hop → Type 0
IsPath g hops = (index : ℕ) (hop next : Hop) → slice_get hops index ≡ Some hop → slice_get hops (index + 1) ≡ Some next → GoesTo g hop next.point

-- a cycle: at least one hop, each from a point, and each to the point of the next, the last to that of the first
pub record IsCycle (g : Graph) (hops : List Hop) : Type 0 where
  pub some : 0 < length hops
  pub within : All (λ hop. hop.point < g.count) hops
  pub path : IsPath g hops
  pub closed : (first last : Hop) → slice_get hops 0 ≡ Some first → slice_get hops (length hops - 1) ≡ Some last → GoesTo g last first.point

-- it is a topological order of the graph, or a cycle of it
abbrev pub IsOrdered : Graph → Ordered → Type 0
IsOrdered g (ordered.Order list) = IsOrder g list.items
IsOrdered g (ordered.Cycle hops) = IsCycle g hops.items
