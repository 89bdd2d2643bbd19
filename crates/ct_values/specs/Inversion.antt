-- What a value of a sort is: an element of an uninterpreted sort, or a constructor over values of
-- its fields' sorts.
use Rattle.std.specs.Prelude.{◌≡◌, ℕ, [], Some, slice_get}
use Rattle.std.specs.List.{AllZip}
use Rattle.ct_sorts.specs.declared.ids.CtorId.{CtorId}
use Rattle.ct_sorts.specs.declared.ids.SelId.{SelId}
use Rattle.ct_sorts.specs.declared.ids.SortId.{SortId}
use Rattle.ct_sorts.specs.Declarations.{Declarations, Constructor, Selector}
use Rattle.ct_values.specs.declared.node.Head.TheVariants.{Con, Elem}
use Rattle.ct_values.specs.Graph.{Nodes}
use Rattle.ct_values.specs.Value.{Value}
use Rattle.ct_values.specs.Agreement.{head_of, children_of}
use Rattle.ct_values.specs.Fitting.{IsElement}
use Rattle.ct_values.specs.ValueSort.{HasValueSort}

-- the value has the sort of the selector's field
pub record IsValueOfField (d : Declarations) (g : Nodes) (v : Value) (s : SelId) : Type 0 where
  pub selector : Selector
  pub declared : slice_get d.sels s.0 ≡ Some selector
  pub sorted : HasValueSort d g v selector.sort

-- the value is the element with this number of the sort, which is uninterpreted
pub record IsElementOf (d : Declarations) (g : Nodes) (v : Value) (number : ℕ)
    (sort : SortId) : Type 0 where
  pub headed : head_of g v ≡ Some (Elem sort number)
  pub childless : children_of g v ≡ []
  pub uninterpreted : IsElement d sort.0

-- the value is built by this constructor of the sort, with children of the fields' sorts, one for
-- one
pub record IsConstructed (d : Declarations) (g : Nodes) (v : Value) (c : CtorId)
    (sort : SortId) : Type 0 where
  pub headed : head_of g v ≡ Some (Con c)
  pub ctor : Constructor
  pub declared : slice_get d.ctors c.0 ≡ Some ctor
  pub of_sort : ctor.sort ≡ sort
  pub fields : AllZip (IsValueOfField d g) (children_of g v) ctor.sels
