-- Closed values: trees of constructors alone (SMT-LIB 2.7, section 4.2.3, on the values of datatypes).
use Rattle.std.specs.Prelude.{◌≡◌, List, [], ◌∷◌, Some, slice_get}
use Rattle.ct_sorts.specs.declared.ids.CtorId.{CtorId}
use Rattle.ct_sorts.specs.declared.ids.SelId.{SelId}
use Rattle.ct_sorts.specs.declared.ids.SortId.{SortId}
use Rattle.ct_sorts.specs.Declarations.{Declarations, Constructor, Selector}
use Rattle.ct_values.specs.Value.{Value, Values, construct, no_values, with_value}
use Rattle.ct_terms.specs.CoreTree.{CoreTree, CoreTrees, con, no_trees, with_tree}

mutual
  -- a constructor over closed values
  pub data ClosedValue : Type 0 where
    build : CtorId → ClosedValues → ClosedValue

  -- the closed values under a constructor, in order
  pub data ClosedValues : Type 0 where
    no_closed : ClosedValues
    with_closed : ClosedValue → ClosedValues → ClosedValues

-- the closed values as a list
abbrev pub closed_list : ClosedValues → List ClosedValue
closed_list no_closed = []
closed_list (with_closed v vs) = v ∷ closed_list vs

-- closed values in a list as those under a constructor
abbrev pub closed_of : List ClosedValue → ClosedValues
closed_of [] = no_closed
closed_of (v ∷ vs) = with_closed v (closed_of vs)

abbrev mutual
  -- the closed value has this sort: its constructor is of the sort, and what stands under it has the sorts of the fields
  pub IsClosedOf : Declarations → ClosedValue → SortId → Type 0
  IsClosedOf d (build c vs) sort =
      (ctor : Constructor) × (slice_get d.ctors c.0 ≡ Some ctor) × (ctor.sort ≡ sort) × AreClosedOf d vs ctor.sels

  -- the closed values have the sorts of the selectors' fields, one for one
  pub AreClosedOf : Declarations → ClosedValues → List SelId → Type 0
  AreClosedOf d no_closed [] = Unit {0}
  AreClosedOf d no_closed (s ∷ ss) = ⊥
  AreClosedOf d (with_closed v vs) [] = ⊥
  AreClosedOf d (with_closed v vs) (s ∷ ss) =
      ((selector : Selector) × (slice_get d.sels s.0 ≡ Some selector) × IsClosedOf d v selector.sort) × AreClosedOf d vs ss

abbrev mutual
  -- a closed value as a value, over any graph
  pub value_of : ClosedValue → Value
  value_of (build c vs) = construct c (values_under vs)

  -- several closed values as those under a constructor
  pub values_under : ClosedValues → Values
  values_under no_closed = no_values
  values_under (with_closed v vs) = with_value (value_of v) (values_under vs)

abbrev mutual
  -- a closed value as a term
  pub term_of : ClosedValue → CoreTree
  term_of (build c vs) = con c (terms_under vs)

  -- several closed values as the arguments of a term
  pub terms_under : ClosedValues → CoreTrees
  terms_under no_closed = no_trees
  terms_under (with_closed v vs) = with_tree (term_of v) (terms_under vs)
