-- Values: trees of constructors over a graph, whose leaves are nodes of the graph and elements.
use Rattle.std.specs.Prelude.{ℕ, ◌<◌, List, [], ◌∷◌, ◌++◌, length, map}
use Rattle.ct_sorts.specs.declared.ids.CtorId.{CtorId}
use Rattle.ct_sorts.specs.declared.ids.SortId.{SortId}
use Rattle.ct_values.specs.declared.node.NodeId.{NodeId}
use Rattle.ct_values.specs.declared.node.Node.{Node}
use Rattle.ct_values.specs.declared.node.Node.TheVariants.{Con, Elem}
use Rattle.ct_values.specs.Graph.{Nodes}

mutual
  -- a reference to a node, an element of a sort, or a constructor over values
  pub data Value : Type 0 where
    reference : NodeId → Value
    element : SortId → ℕ → Value
    construct : CtorId → Values → Value

  -- the values under a constructor, in order
  pub data Values : Type 0 where
    no_values : Values
    with_value : Value → Values → Values

-- the values as a list
abbrev pub list_of : Values → List Value
list_of no_values = []
list_of (with_value v vs) = v ∷ list_of vs

-- a list of values as those under a constructor
abbrev pub values_of : List Value → Values
values_of [] = no_values
values_of (v ∷ vs) = with_value v (values_of vs)

-- what stands at a node, over references to its children
abbrev pub node_value : Node → Value
node_value (Con c children) = construct c (values_of (map reference children))
node_value (Elem s n) = element s n

abbrev mutual
  -- the subterms of a value, itself among them; what stands at a node is none
  pub subterms : Value → List Value
  subterms (reference n) = reference n ∷ []
  subterms (element s n) = element s n ∷ []
  subterms (construct c vs) = construct c vs ∷ subterms_of_all vs

  -- the subterms of several values
  pub subterms_of_all : Values → List Value
  subterms_of_all no_values = []
  subterms_of_all (with_value v vs) = subterms v ++ subterms_of_all vs

abbrev mutual
  -- every reference in the value is to a node of the graph
  pub IsOver : Nodes → Value → Type 0
  IsOver g (reference n) = n.0 < length g
  IsOver g (element s n) = Unit {0}
  IsOver g (construct c vs) = AreOver g vs

  -- the same of several values
  pub AreOver : Nodes → Values → Type 0
  AreOver g no_values = Unit {0}
  AreOver g (with_value v vs) = IsOver g v × AreOver g vs
