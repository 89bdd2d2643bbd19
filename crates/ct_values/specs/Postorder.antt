-- Lists of nodes in which every node of a graph stands, and walks that make them from a stack of visits.
use Rattle.std.specs.Prelude.{◌≡◌, ℕ, ◌+◌, ◌<◌, ◌≤◌, ◌⊎◌, Bool, true, false, List, [], ◌∷◌, ◌++◌, length, Some, slice_get, All}
use Rattle.ct_values.specs.declared.node.NodeId.{NodeId}
use Rattle.ct_values.specs.declared.postorder.Visit.{Visit}
use Rattle.ct_values.specs.declared.postorder.Visit.TheVariants.{Meet, Turn}
use Rattle.ct_values.specs.Graph.{Nodes, node_children}

-- this stands in the list
abbrev pub StandsIn : {X : Type 0} → X → List X → Type 0
StandsIn x xs = (index : ℕ) × (slice_get xs index ≡ Some x)

-- the node with this number
abbrev pub numbered : ℕ → NodeId
numbered n = record { 0 = n }

-- each number below this one stands in the list
abbrev pub HasEach : ℕ → List NodeId → Type 0
HasEach count order = (n : ℕ) → n < count → StandsIn (numbered n) order

-- the node of a visit
abbrev pub visited : Visit → NodeId
visited (Meet n) = n
visited (Turn n) = n

-- the nodes of all these visits have numbers below the bound
abbrev pub AreVisits : ℕ → List Visit → Type 0
AreVisits count stack = (visit : Visit) → StandsIn visit stack → (visited visit).0 < count

-- the second stack is the first with visits after it, of nodes below the bound, and at most this many
abbrev pub AreAdded : ℕ → ℕ → List Visit → List Visit → Type 0
AreAdded count most old new = (more : List Visit) × (new ≡ old ++ more) × AreVisits count more × (length more ≤ most)

-- this node was met
abbrev pub IsMet : List Bool → ℕ → Type 0
IsMet met n = slice_get met n ≡ Some true

-- each node that was met stands in the order
abbrev pub EachMetStands : List Bool → List NodeId → Type 0
EachMetStands met order = (n : ℕ) → IsMet met n → StandsIn (numbered n) order

-- what was met stays so
abbrev pub StayMet : List Bool → List Bool → Type 0
StayMet old new = (n : ℕ) → IsMet old n → IsMet new n

-- a bound on how much the stack may still grow, by the turn and the children of each node that was not met, and one more for
-- each, so that to meet it makes less
abbrev pub room : Nodes → List Bool → ℕ
room [] met = 0
room (node ∷ g) [] = 0
room (node ∷ g) (true ∷ met) = room g met
room (node ∷ g) (false ∷ met) = length (node_children node) + 2 + room g met

-- within a walk each node that was met stands in the order, or its turn is on the stack
pub record IsUnderWay (count : ℕ) (met : List Bool) (order : List NodeId) (stack : List Visit) : Type 0 where
  pub within : All (λ n. n.0 < count) order
  pub visits : AreVisits count stack
  pub each : (n : ℕ) → IsMet met n → StandsIn (numbered n) order ⊎ StandsIn (Turn (numbered n)) stack

-- a node was met, or is to be met
abbrev pub WillBeMet : List Bool → List Visit → NodeId → Type 0
WillBeMet met stack n = IsMet met n.0 ⊎ StandsIn (Meet n) stack

-- the node is met: what was met stays so, each other node that is met now has its turn on the stack, and what the stack
-- grew by there is less room for
pub record IsMeeting (g : Nodes) (n : NodeId) (met_old met_new : List Bool) (stack_old stack_new : List Visit) : Type 0 where
  pub long : length met_new ≡ length met_old
  pub stay : StayMet met_old met_new
  pub done : IsMet met_new n.0
  pub each : (i : ℕ) → IsMet met_new i → IsMet met_old i ⊎ StandsIn (Turn (numbered i)) stack_new
  pub grown : (more : List Visit) × (stack_new ≡ stack_old ++ more) × AreVisits (length g) more
  pub less : room g met_new + length stack_new ≤ room g met_old + length stack_old

-- one step of a walk, where the visit was on top of the first stack
pub record IsStep (g : Nodes) (visit : Visit) (met_old met_new : List Bool) (order_old order_new : List NodeId) (stack_old stack_new : List Visit) : Type 0 where
  pub long : length met_new ≡ length met_old
  pub stay : StayMet met_old met_new
  pub under_way : IsUnderWay (length g) met_old order_old (stack_old ++ visit ∷ []) → IsUnderWay (length g) met_new order_new stack_new
  pub will : (n : NodeId) → WillBeMet met_old (stack_old ++ visit ∷ []) n → WillBeMet met_new stack_new n
  pub less : room g met_new + length stack_new ≤ room g met_old + length stack_old
