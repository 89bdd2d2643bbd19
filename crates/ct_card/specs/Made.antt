-- Values of infinite sorts that were made before, around which others are put.
use Rattle.std.specs.Prelude.{◌≡◌, ℕ, ◌+◌, ◌<◌, ◌^◌, List, get_or, Some, Option, slice_get}
use Rattle.ct_sorts.specs.declared.ids.CtorId.{CtorId}
use Rattle.ct_sorts.specs.Declarations.{Declarations}
use Rattle.ct_values.specs.declared.node.NodeId.{NodeId}
use Rattle.ct_values.specs.Graph.{Nodes}
use Rattle.ct_values.specs.Agreement.{node_point}
use Rattle.ct_values.specs.Fitting.{HasNodeSort}
use Rattle.ct_card.specs.declared.departure.Departure.{Departure}
use Rattle.ct_card.specs.declared.departure.Layer.{Layer}
use Rattle.ct_card.specs.declared.made.Made.{Made}
use Rattle.ct_card.specs.Defaults.{AreRanked}
use Rattle.ct_card.specs.Nth.{IsNthIn}
use Rattle.ct_card.specs.Rules.{IsDerived}
use Rattle.ct_card.specs.Signs.{HasAllDefaults, HasAllSeconds}
use Rattle.ct_card.specs.Sizes.{Table}

-- the value with this number of the sort was made, with this node
abbrev pub IsMade : List (Option Made) → ℕ → ℕ → NodeId → Type 0
IsMade made s n k = (i : ℕ) × (slice_get made i ≡ Some (Some (record { sort = s; number = n; node = k })))

-- the nodes of the values have their sorts in the graph
abbrev pub HaveMadeSorts : Declarations → Nodes → List (Option Made) → Type 0
HaveMadeSorts d g made = (s n : ℕ) (k : NodeId) → IsMade made s n k → HasNodeSort d g k (record { 0 = s })

-- and are the values with these numbers
abbrev pub AreMadeNth : Declarations → List CtorId → List Departure → List Layer → Nodes → List (Option Made) → Type 0
AreMadeNth d ctors seconds layers g made = (s n : ℕ) (k : NodeId) → IsMade made s n k → IsNthIn d ctors seconds layers s n (node_point g k)

-- where default values and second values of all sorts begin in a graph, and the values that were made there
pub record Prepared : Type 0 where
  pub base : ℕ
  pub second : ℕ
  pub made : List (Option Made)

-- the graph has the default values and the second values of all sorts, and the values that were made are what they are taken for
pub record IsPrepared (d : Declarations) (table : Table) (g : Nodes) (prepared : Prepared) : Type 0 where
  pub defaults : HasAllDefaults d table.ranks table.ctors prepared.base g
  pub ranked : AreRanked table.ranks prepared.base
  pub seconds : HasAllSeconds d table.several table.ctors table.seconds prepared.second g
  pub room : (t : ℕ) → IsDerived table.several t → prepared.second + get_or table.several t 0 < 2 ^ 64
  pub sorted : HaveMadeSorts d g prepared.made
  pub nth : AreMadeNth d table.ctors table.seconds table.layers g prepared.made
