-- The sizes of all sorts of declarations, and how their default values are built.
use Rattle.std.specs.Prelude.{◌≡◌, ℕ, List, [], length, Some, slice_get, get_or, if◌then◌else◌, ◌==◌}
use Rattle.ct_sorts.specs.declared.ids.CtorId.{CtorId}
use Rattle.ct_sorts.specs.declared.ids.SortId.{SortId}
use Rattle.ct_sorts.specs.Declarations.{Declarations}
use Rattle.ct_card.specs.declared.size.Size.{Size}
use Rattle.ct_card.specs.declared.size.Size.TheVariants.{One, Finite, Infinite}
use Rattle.ct_card.specs.Cardinality.{HasSize}
use Rattle.ct_card.specs.declared.departure.Departure.{Departure}
use Rattle.ct_card.specs.declared.departure.Layer.{Layer}
use Rattle.ct_card.specs.Ranked.{AreSeveral, AreSmall}
use Rattle.ct_card.specs.Rules.{IsOrder}
use Rattle.ct_values.specs.declared.node.NodeId.{NodeId}
use Rattle.ct_values.specs.Graph.{Nodes}
use Rattle.ct_values.specs.Fitting.{HasNodeSort}
use Rattle.ct_card.specs.Defaults.{node_of_sort, HasDefaults, IsPlan}
use Rattle.ct_card.specs.Departures.{AreSeconds, AreLayers}

-- for each sort: its size, its rank among the sorts of several values (0 for a single one), its rank among the sorts as they
-- are well founded, the constructor of its default value, how its second value departs from that, and the layer by which
-- its values are built where it is infinite; the sorts in the order of the one and of the other ranks; and the ranks of the sorts
-- that are not infinite, with these in their order
pub record Table : Type 0 where
  pub sizes : List Size
  pub several : List ℕ
  pub queue : List ℕ
  pub ranks : List ℕ
  pub order : List ℕ
  pub ctors : List CtorId
  pub seconds : List Departure
  pub layers : List Layer
  pub small : List ℕ
  pub settled : List ℕ

-- the table of no sorts
abbrev pub no_sizes : Table
no_sizes = record { sizes = []; several = []; queue = []; ranks = []; order = []; ctors = []; seconds = []; layers = []; small = []; settled = [] }

-- the table is of these declarations: each size is that of the sort
pub record AreSizes (d : Declarations) (table : Table) : Type 0 where
  pub long : length table.sizes ≡ length d.sorts
  pub each : (s : ℕ) (size : Size) → slice_get table.sizes s ≡ Some size → HasSize d s size
  pub several : AreSeveral d table.several
  pub queued : IsOrder table.several table.queue
  pub plan : IsPlan d table.ranks table.order table.ctors
  pub departures : AreSeconds d table.several table.ctors table.seconds
  pub layered : AreLayers d table.several table.layers
  pub small : AreSmall d table.several table.small
  pub settled : IsOrder table.small table.settled

-- the size of a sort by its ranks among the sorts of several values and among the small ones
abbrev pub size_by : ℕ → ℕ → Size
size_by several small = if several == 0 then One else (if small == 0 then Infinite else Finite)

-- the size is that by the ranks of the sort
abbrev pub IsSizeBy : List ℕ → List ℕ → ℕ → Size → Type 0
IsSizeBy several small s size = size ≡ size_by (get_or several s 0) (get_or small s 0)

-- the node is that of the sort's default value, and those of all sorts stand in the graph
pub record IsDefaultValue (d : Declarations) (table : Table) (g : Nodes) (s : ℕ) (n : NodeId) : Type 0 where
  pub base : ℕ
  pub stand : HasDefaults d table.ranks table.ctors g base
  pub node : n ≡ node_of_sort base table.ranks s

-- for each sort, in order, a node of the sort with its default value
pub record AreDefaultValues (d : Declarations) (table : Table) (g : Nodes) (nodes : List NodeId) : Type 0 where
  pub long : length nodes ≡ length d.sorts
  pub sorted : (s : SortId) (n : NodeId) → slice_get nodes s.0 ≡ Some n → HasNodeSort d g n s
  pub value : (s : ℕ) (n : NodeId) → slice_get nodes s ≡ Some n → IsDefaultValue d table g s n
