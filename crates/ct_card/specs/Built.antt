-- Nodes over default values, and nodes that depart from them.
use Rattle.std.specs.Prelude.{◌≡◌, ℕ, ◌+◌, ◌<◌, ◌^◌, ◌⊎◌, true, false, List, map, length, get_or, slice_get, slice_set, Option, None, Some}
use Rattle.ct_sorts.specs.declared.ids.CtorId.{CtorId}
use Rattle.ct_sorts.specs.Declarations.{Declarations, IsConstructor}
use Rattle.ct_values.specs.declared.node.NodeId.{NodeId}
use Rattle.ct_values.specs.declared.node.Node.{Node}
use Rattle.ct_values.specs.declared.node.Node.TheVariants.{Con, Elem}
use Rattle.ct_values.specs.Graph.{Nodes}
use Rattle.ct_values.specs.Fitting.{HasNodeSort}
use Rattle.ct_card.specs.declared.departure.Step.{Step}
use Rattle.ct_card.specs.declared.departure.Departure.{Departure}
use Rattle.ct_card.specs.declared.departure.Departure.TheVariants.{Nowhere, Constructor, Field}
use Rattle.ct_card.specs.Fields.{ctor_fields}
use Rattle.ct_card.specs.Rules.{IsDerived}
use Rattle.ct_card.specs.Defaults.{is_free_sort, node_of_sort}
use Rattle.ct_card.specs.Departures.{IsDigitField}

-- the nodes from the base on, in the order of ranks, have the sorts
abbrev pub HaveTheirSorts : Declarations → List ℕ → ℕ → Nodes → Type 0
HaveTheirSorts d ranks base g = (s : ℕ) → s < length d.sorts → HasNodeSort d g (node_of_sort base ranks s) (record { 0 = s })

-- the constructor over default values
abbrev pub node_over : Declarations → List ℕ → ℕ → CtorId → Node
node_over d ranks base c = Con c (map (node_of_sort base ranks) (ctor_fields d c))

-- the constructor of the step over default values, but with this node in the place of the step
abbrev pub node_with : Declarations → List ℕ → ℕ → Step → NodeId → Node
node_with d ranks base step child = Con step.ctor (slice_set (map (node_of_sort base ranks) (ctor_fields d step.ctor)) step.place child)

-- the second value in the place of the field that is set, if one is
abbrev pub with_second : List ℕ → ℕ → Option Step → List NodeId → List NodeId
with_second several second None nodes = nodes
with_second several second (Some other) nodes = slice_set nodes other.place (node_of_sort second several other.next)

-- the same constructor over default values and this node, but with the second value in the field that is set
abbrev pub node_of_layer : Declarations → List ℕ → List ℕ → ℕ → ℕ → Step → Option Step → NodeId → Node
node_of_layer d several ranks base second step set child = Con step.ctor (with_second several second set (slice_set (map (node_of_sort base ranks) (ctor_fields d step.ctor)) step.place child))

-- the node departs so from default values: by another constructor, or by the second value of a field's sort
abbrev pub IsDepartingNode : Declarations → List ℕ → List ℕ → ℕ → ℕ → Departure → Node → Type 0
IsDepartingNode d several ranks base second Nowhere node = ⊥
IsDepartingNode d several ranks base second (Constructor other) node = node ≡ node_over d ranks base other
IsDepartingNode d several ranks base second (Field step) node = node ≡ node_with d ranks base step (node_of_sort second several step.next)

-- the element with this number of an uninterpreted sort, and else a node that departs so
abbrev pub IsEndNode : Declarations → List ℕ → List ℕ → ℕ → ℕ → ℕ → ℕ → Departure → Node → Type 0
IsEndNode d several ranks base second s number departure node =
    ((is_free_sort d s ≡ true) × (node ≡ Elem (record { 0 = s }) number))
    ⊎ ((is_free_sort d s ≡ false) × IsDepartingNode d several ranks base second departure node)

-- a node can depart so: the constructor is there, and so is the second value
abbrev pub CanDepart : Declarations → List ℕ → ℕ → Nodes → Departure → Type 0
CanDepart d several second g Nowhere = ⊥
CanDepart d several second g (Constructor other) = IsConstructor d other
CanDepart d several second g (Field step) =
    IsConstructor d step.ctor × (slice_get (ctor_fields d step.ctor) step.place ≡ Some step.next) × IsDerived several step.next
    × (second + get_or several step.next 0 < 2 ^ 64) × HasNodeSort d g (node_of_sort second several step.next) (record { 0 = step.next })

-- the second value can be put into the field of the other step, beside the node in the place of the step
pub record CanSet (d : Declarations) (several : List ℕ) (second : ℕ) (g : Nodes) (step other : Step) : Type 0 where
  pub field : IsDigitField d several step other
  pub room : second + get_or several other.next 0 < 2 ^ 64
  pub sorted : HasNodeSort d g (node_of_sort second several other.next) (record { 0 = other.next })
