-- Truth values, and by which constructor a value is built.
use Rattle.std.specs.Prelude.{◌≡◌, Bool, true, false, ◌==◌, [], Option, Some, None}
use Rattle.ct_sorts.specs.declared.ids.CtorId.{CtorId}
use Rattle.ct_values.specs.declared.node.Head.{Head}
use Rattle.ct_values.specs.declared.node.Head.TheVariants as heads
use Rattle.ct_values.specs.Graph.{Nodes}
use Rattle.ct_values.specs.Value.{Value, construct, no_values}
use Rattle.ct_values.specs.Agreement.{head_of, children_of}

-- `true` is constructor 0 and `false` is constructor 1
abbrev pub truth_ctor : Bool → CtorId
truth_ctor true = record { 0 = 0 }
truth_ctor false = record { 0 = 1 }

-- a truth value, which has no arguments
abbrev pub truth : Bool → Value
truth b = construct (truth_ctor b) no_values

-- the head is this constructor
abbrev pub is_head : CtorId → Option Head → Bool
is_head c None = false
is_head c (Some (heads.Con k)) = k.0 == c.0
is_head c (Some (heads.Elem s n)) = false

-- the value is built by this constructor
abbrev pub is_built : Nodes → CtorId → Value → Bool
is_built g c v = is_head c (head_of g v)

-- the value is `true`
abbrev pub is_true : Nodes → Value → Bool
is_true g v = is_built g (truth_ctor true) v

-- the value has the head of this truth value, and no children
pub record IsTruth (g : Nodes) (v : Value) (b : Bool) : Type 0 where
  pub headed : head_of g v ≡ Some (heads.Con (truth_ctor b))
  pub childless : children_of g v ≡ []
