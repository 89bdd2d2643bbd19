-- Default values: one node for each sort, in the order in which sorts are well founded.
use Rattle.std.specs.Prelude.{◌≡◌, ℕ, ◌+◌, ◌-◌, ◌<◌, ◌^◌, Bool, true, false, List, map, length, Some, slice_get, get_or, if◌then◌else◌, option_map, unwrap_or}
use Rattle.ct_sorts.specs.declared.ids.CtorId.{CtorId}
use Rattle.ct_sorts.specs.declared.ids.Kind.{Kind}
use Rattle.ct_sorts.specs.declared.ids.Kind.TheVariants.{Bool as BoolKind, Free, Data, Codata}
use Rattle.ct_sorts.specs.Declarations.{Declarations, Sort}
use Rattle.ct_values.specs.declared.node.NodeId.{NodeId}
use Rattle.ct_values.specs.declared.node.Node.{Node}
use Rattle.ct_values.specs.declared.node.Node.TheVariants.{Con, Elem}
use Rattle.ct_values.specs.Graph.{Nodes}
use Rattle.ct_card.specs.Fields.{ctor_fields}
use Rattle.ct_card.specs.Founding.{AreFounded, HasLowerFields}

-- it is the kind of uninterpreted sorts
abbrev pub is_free : Kind → Bool
is_free BoolKind = false
is_free Free = true
is_free Data = false
is_free Codata = false

-- the sort of this number is uninterpreted
abbrev pub is_free_sort : Declarations → ℕ → Bool
is_free_sort d s = unwrap_or (option_map (λ sort. is_free sort.kind) (slice_get d.sorts s)) false

-- the constructor may stand at the top of the sort's default value: it is one of the sort, and if that is a datatype its fields have lower ranks
pub record IsChoice (d : Declarations) (ranks : List ℕ) (s : ℕ) (sort : Sort) (c : CtorId) : Type 0 where
  pub index : ℕ
  pub listed : slice_get sort.ctors index ≡ Some c
  pub lower : sort.kind ≡ Data → HasLowerFields d ranks s c

-- for each sort that has constructors there is such a constructor
pub record AreChosen (d : Declarations) (ranks : List ℕ) (ctors : List CtorId) : Type 0 where
  pub long : length ctors ≡ length d.sorts
  pub each : (s : ℕ) (sort : Sort) (c : CtorId) → slice_get d.sorts s ≡ Some sort → slice_get ctors s ≡ Some c → 0 < length sort.ctors → IsChoice d ranks s sort c

-- the node of a sort, where those of all sorts stand from a number on in the order of ranks
abbrev pub node_of_sort : ℕ → List ℕ → ℕ → NodeId
node_of_sort base ranks s = record { 0 = base + (get_or ranks s 0 - 1) }

-- the nodes of all sorts, in their order
pub record AreNodesOfSorts (base : ℕ) (ranks : List ℕ) (nodes : List NodeId) : Type 0 where
  pub long : length nodes ≡ length ranks
  pub each : (s : ℕ) (n : NodeId) → slice_get nodes s ≡ Some n → n ≡ node_of_sort base ranks s

-- the node of the default value of a sort: its chosen constructor over the nodes of its fields' sorts, or the element 0
abbrev pub default_node : Declarations → List ℕ → ℕ → ℕ → CtorId → Node
default_node d ranks base s c =
    if is_free_sort d s then Elem (record { 0 = s }) 0 else Con c (map (node_of_sort base ranks) (ctor_fields d c))

-- the constructors of the default values, and the order of the sorts, are of these declarations
pub record IsPlan (d : Declarations) (ranks order : List ℕ) (ctors : List CtorId) : Type 0 where
  pub founded : AreFounded d ranks order
  pub chosen : AreChosen d ranks ctors

-- the default nodes of all sorts, in their order
pub record AreDefaultNodes (d : Declarations) (ranks order : List ℕ) (ctors : List CtorId) (base : ℕ) (nodes : List Node) : Type 0 where
  pub long : length nodes ≡ length order
  pub each : (i s : ℕ) (c : CtorId) (node : Node) → slice_get nodes i ≡ Some node → slice_get order i ≡ Some s → slice_get ctors s ≡ Some c → node ≡ default_node d ranks base s c

-- the default nodes of all sorts stand in the graph, from the base on
abbrev pub HasDefaults : Declarations → List ℕ → List CtorId → Nodes → ℕ → Type 0
HasDefaults d ranks ctors g base = (s : ℕ) (c : CtorId) → s < length d.sorts → slice_get ctors s ≡ Some c → slice_get g (node_of_sort base ranks s).0 ≡ Some (default_node d ranks base s c)

-- each sort has a rank, and the numbers of the nodes of the sorts from the base on are machine numbers
abbrev pub AreRanked : List ℕ → ℕ → Type 0
AreRanked ranks base = (s : ℕ) → s < length ranks → (0 < get_or ranks s 0) × (base + get_or ranks s 0 < 2 ^ 64)

-- all of these have ranks below the bound
abbrev pub AreLower : List ℕ → List ℕ → ℕ → Type 0
AreLower ranks fields bound = (k t : ℕ) → slice_get fields k ≡ Some t → get_or ranks t 0 < bound
