-- The sort of a value over a graph, and the paths and chains through values of datatypes.
use Rattle.std.specs.Prelude.{◌≡◌, List, [], ◌∷◌, Contains, Some, slice_get}
use Rattle.ct_sorts.specs.declared.ids.SelId.{SelId}
use Rattle.ct_sorts.specs.declared.ids.SortId.{SortId}
use Rattle.ct_sorts.specs.declared.ids.Kind.TheVariants.{Data}
use Rattle.ct_sorts.specs.Declarations.{Declarations, Sort, Constructor, Selector}
use Rattle.ct_values.specs.Graph.{Nodes}
use Rattle.ct_values.specs.Value.{Value, Values, reference, element, construct, no_values}
use Rattle.ct_values.specs.Value.{with_value}
use Rattle.ct_values.specs.Agreement.{point, children_of, AgreeAlways}
use Rattle.ct_values.specs.Fitting.{HasNodeSort, IsElement}

abbrev mutual
  -- a reference has the sort of its node, an element that of its uninterpreted sort, and a constructor its
  -- own over values of its fields
  pub HasValueSort : Declarations → Nodes → Value → SortId → Type 0
  HasValueSort d g (reference n) sort = HasNodeSort d g n sort
  HasValueSort d g (element s n) sort = IsElement d s.0 × (s ≡ sort)
  HasValueSort d g (construct c vs) sort =
      (ctor : Constructor) × (slice_get d.ctors c.0 ≡ Some ctor) × (ctor.sort ≡ sort)
      × AreOfFields d g vs ctor.sels

  -- the values have the sorts of the selectors' fields, one for one
  pub AreOfFields : Declarations → Nodes → Values → List SelId → Type 0
  AreOfFields d g no_values [] = Unit {0}
  AreOfFields d g no_values (s ∷ ss) = ⊥
  AreOfFields d g (with_value v vs) [] = ⊥
  AreOfFields d g (with_value v vs) (s ∷ ss) =
      ((selector : Selector) × (slice_get d.sels s.0 ≡ Some selector)
      × HasValueSort d g v selector.sort) × AreOfFields d g vs ss

-- the value is of a datatype
abbrev pub IsOfData : Declarations → Nodes → Value → Type 0
IsOfData d g v =
    (s : SortId) × (sort : Sort) × HasValueSort d g v s × (slice_get d.sorts s.0 ≡ Some sort)
    × (sort.kind ≡ Data)

-- a path through datatypes from this value on: each value of it is a child of the one before, and
-- all are of datatypes
abbrev pub IsDataPath : Declarations → Nodes → Value → List Value → Type 0
IsDataPath d g v [] = IsOfData d g v
IsDataPath d g v (w ∷ path) = IsOfData d g v × Contains (children_of g v) w × IsDataPath d g w path

-- the second value is the same as a child of the first
abbrev pub IsLinked : Nodes → Value → Value → Type 0
IsLinked g v w =
    (child : Value) × Contains (children_of g v) child × AgreeAlways (point g child) (point g w)

-- a chain through datatypes from this value on: each value of it is the same as a child of the
-- one before, and all are of datatypes
abbrev pub IsDataChain : Declarations → Nodes → Value → List Value → Type 0
IsDataChain d g v [] = IsOfData d g v
IsDataChain d g v (w ∷ chain) = IsOfData d g v × IsLinked g v w × IsDataChain d g w chain
