-- Depth-first search: what holds while it is under way.
use Rattle.std.specs.Prelude.{◌≡◌, ℕ, ◌+◌, ◌-◌, ◌<◌, ◌↔◌, List, [], ◌∷◌, length, drop, Option, Some, None, slice_get}
use Rattle.ct_ordering.specs.declared.hop.Hop.{Hop}
use Rattle.ct_ordering.specs.declared.search.Colour.{Colour}
use Rattle.ct_ordering.specs.declared.search.Colour.TheVariants.{White, Grey, Black}
use Rattle.ct_ordering.specs.Graph.{Graph, HasKid}
use Rattle.ct_ordering.specs.Order.{StandsAt, IsPath, IsCycle}

-- the point has this colour
abbrev pub HasColour : List Colour → ℕ → Colour → Type 0
HasColour colours point colour = slice_get colours point ≡ Some colour

-- the point stands somewhere in the list
abbrev pub StandsIn : List ℕ → ℕ → Type 0
StandsIn list point = (index : ℕ) × StandsAt list index point

-- the hop at this depth of the stack is from this point
abbrev pub IsAtDepth : List Hop → ℕ → ℕ → Type 0
IsAtDepth stack depth point = (hop : Hop) × (slice_get stack depth ≡ Some hop) × (hop.point ≡ point)

-- the hop by which a point goes onto the stack: no kid of it was looked at
abbrev pub first_hop : ℕ → Hop
first_hop point = record { point = point; place = 0 }

-- the hop with the next place
abbrev pub next_hop : Hop → Hop
next_hop hop = record { point = hop.point; place = hop.place + 1 }

-- an order of some points: each stands once, and its kids stand before it
pub record IsPartialOrder (g : Graph) (list : List ℕ) : Type 0 where
  pub once : (point first second : ℕ) → StandsAt list first point → StandsAt list second point → first ≡ second
  pub before : (point place kid later : ℕ) → HasKid g point place kid → StandsAt list later point → (earlier : ℕ) × (earlier < later) × StandsAt list earlier kid

-- the kids of each hop's point before the hop's place stand in the list
abbrev pub ArePassed : Graph → List ℕ → List Hop → Type 0
ArePassed g list stack = (depth : ℕ) (hop : Hop) → slice_get stack depth ≡ Some hop → (place kid : ℕ) → place < hop.place → HasKid g hop.point place kid → StandsIn list kid

-- the points of the order are black, and those of the stack are grey with their depths; the stack is a path, and all kids
-- that were passed are done
pub record IsUnderWay (g : Graph) (colours : List Colour) (order : List ℕ) (stack : List Hop) : Type 0 where
  pub long : length colours ≡ g.count
  pub black : (point : ℕ) → HasColour colours point Black ↔ StandsIn order point
  pub grey : (point depth : ℕ) → HasColour colours point (Grey depth) ↔ IsAtDepth stack depth point
  pub partial : IsPartialOrder g order
  pub path : IsPath g stack
  pub passed : ArePassed g order stack

-- points that are not white stay so
abbrev pub StayMet : List Colour → List Colour → Type 0
StayMet old new = (point : ℕ) → HasColour new point White → HasColour old point White

-- how much is still to be done for white points, the first of which has this number: two steps for each, and one for each kid
abbrev pub room : (ℕ → List ℕ) → ℕ → List Colour → ℕ
room kids point [] = 0
room kids point (White ∷ colours) = length (kids point) + 2 + room kids (point + 1) colours
room kids point (Grey depth ∷ colours) = room kids (point + 1) colours
room kids point (Black ∷ colours) = room kids (point + 1) colours

-- how much is still to be done for a hop: one step for each kid that is left, and one for the end
abbrev pub left_of : (ℕ → List ℕ) → Hop → ℕ
left_of kids hop = length (kids hop.point) - hop.place + 1

-- the same for all hops of a stack
abbrev pub left : (ℕ → List ℕ) → List Hop → ℕ
left kids [] = 0
left kids (hop ∷ hops) = left_of kids hop + left kids hops

-- a bound on the steps that are still to be taken
abbrev pub steps_left : Graph → List Colour → List Hop → ℕ
steps_left g colours stack = room g.kids 0 colours + left g.kids stack

-- the search goes on from the first colours and stack, with less to be done
pub record IsStep (g : Graph) (colours_old colours_new : List Colour) (order : List ℕ) (stack_old stack_new : List Hop) : Type 0 where
  pub under_way : IsUnderWay g colours_new order stack_new
  pub stay : StayMet colours_old colours_new
  pub less : steps_left g colours_new stack_new < steps_left g colours_old stack_old

-- the search goes on, or the stack from some depth on is a cycle
abbrev pub IsStepOrCycle : Graph → List Colour → List Colour → List ℕ → List Hop → List Hop → Option ℕ → Type 0
IsStepOrCycle g colours_old colours_new order stack_old stack_new None = IsStep g colours_old colours_new order stack_old stack_new
IsStepOrCycle g colours_old colours_new order stack_old stack_new (Some depth) = (depth < length stack_new) × IsCycle g (drop depth stack_new)

-- a walk from this point is under way with this stack: what was met stays so, and so was the point
pub record IsWalk (g : Graph) (from : ℕ) (colours_old colours_new : List Colour) (order : List ℕ) (stack : List Hop) : Type 0 where
  pub under_way : IsUnderWay g colours_new order stack
  pub stay : StayMet colours_old colours_new
  pub met : HasColour colours_new from White → ⊥
