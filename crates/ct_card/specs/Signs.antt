-- Signs of default values: what the default value of a sort has at the end of a path, and its second value has not.
use Rattle.std.specs.Prelude.{◌≡◌, ℕ, ◌≤◌, ◌⊎◌, true, false, List, [], ◌∷◌, Some, slice_get, get_or}
use Rattle.ct_sorts.specs.declared.ids.CtorId.{CtorId}
use Rattle.ct_sorts.specs.Declarations.{Declarations}
use Rattle.ct_values.specs.declared.node.NodeId.{NodeId}
use Rattle.ct_values.specs.declared.node.Head.{Head}
use Rattle.ct_values.specs.declared.node.Head.TheVariants.{Con, Elem}
use Rattle.ct_values.specs.Graph.{Nodes}
use Rattle.ct_values.specs.Agreement.{Point, node_point}
use Rattle.ct_values.specs.Fitting.{HasNodeSort}
use Rattle.ct_card.specs.declared.departure.Step.{Step}
use Rattle.ct_card.specs.declared.departure.Departure.{Departure}
use Rattle.ct_card.specs.declared.departure.Departure.TheVariants.{Constructor, Field}
use Rattle.ct_card.specs.Defaults.{is_free_sort, node_of_sort, HasDefaults}
use Rattle.ct_card.specs.Rules.{IsDerived}
use Rattle.ct_card.specs.Paths.{HasHeadAt}
use Rattle.ct_card.specs.Built.{HaveTheirSorts}

-- the head of the default value, where the second value has another one: the element 0, or a constructor of several
abbrev pub IsTopSign : Declarations → List CtorId → List Departure → ℕ → Head → Type 0
IsTopSign d ctors seconds s h =
    ((is_free_sort d s ≡ true) × (h ≡ Elem (record { 0 = s }) 0))
    ⊎ ((is_free_sort d s ≡ false) × (c : CtorId) × (other : CtorId) × (slice_get seconds s ≡ Some (Constructor other)) × (slice_get ctors s ≡ Some c) × (h ≡ Con c))

-- the default value of the sort has this head at the end of the path, which goes down where the second value departs
abbrev pub IsSign : Declarations → List CtorId → List Departure → ℕ → List ℕ → Head → Type 0
IsSign d ctors seconds s [] h = IsTopSign d ctors seconds s h
IsSign d ctors seconds s (place ∷ path) h =
    (step : Step) × (is_free_sort d s ≡ false) × (slice_get seconds s ≡ Some (Field step)) × (place ≡ step.place) × IsSign d ctors seconds step.next path h

-- there is a sign of the sort's default value that the value does not have
abbrev pub LacksSign : Declarations → List CtorId → List Departure → ℕ → Point → Type 0
LacksSign d ctors seconds s p = (path : List ℕ) × (h : Head) × IsSign d ctors seconds s path h × (HasHeadAt path h p → ⊥)

-- the node is a second value of the sort
pub record IsSecondValue (d : Declarations) (ctors : List CtorId) (seconds : List Departure) (g : Nodes) (s : ℕ) (n : NodeId) : Type 0 where
  pub sorted : HasNodeSort d g n (record { 0 = s })
  pub lacks : LacksSign d ctors seconds s (node_point g n)

-- the default values of all sorts stand in the graph, from the base on
pub record HasAllDefaults (d : Declarations) (ranks : List ℕ) (ctors : List CtorId) (base : ℕ) (g : Nodes) : Type 0 where
  pub stand : HasDefaults d ranks ctors g base
  pub sorted : HaveTheirSorts d ranks base g

-- and second values of the sorts of several values up to this rank, from the second number on
abbrev pub HasSeconds : Declarations → List ℕ → List CtorId → List Departure → ℕ → Nodes → ℕ → Type 0
HasSeconds d several ctors seconds second g rank = (s : ℕ) → IsDerived several s → get_or several s 0 ≤ rank → IsSecondValue d ctors seconds g s (node_of_sort second several s)

-- and of all sorts of several values
abbrev pub HasAllSeconds : Declarations → List ℕ → List CtorId → List Departure → ℕ → Nodes → Type 0
HasAllSeconds d several ctors seconds second g = (s : ℕ) → IsDerived several s → IsSecondValue d ctors seconds g s (node_of_sort second several s)
