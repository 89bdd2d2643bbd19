-- Shared expressions: in a list of nodes, each made of earlier ones, an expression has one number.
use Rattle.std.specs.Prelude.{◌≡◌, ℕ, ◌<◌, List, length, All, Option, Some, slice_get}
use Rattle.std.specs.List.{AllZip}
use Rattle.ct_generics.specs.declared.nodes.ExprId.{ExprId}
use Rattle.ct_generics.specs.declared.nodes.Node.{Node}
use Rattle.ct_generics.specs.declared.nodes.Node.TheVariants.{Param, Head, Apply}
use Rattle.ct_generics.specs.Expression.{Expression, parameter, named, applied, substitute, head_of, args_of}

-- the node with this number stands for the expression
abbrev pub Stands : List Node → ℕ → Expression → Type 0
Stands nodes n (parameter i) = slice_get nodes n ≡ Some (Param i)
Stands nodes n (named h) = slice_get nodes n ≡ Some (Head (record { 0 = h }))
Stands nodes n (applied e a) = (m k : ExprId) × (slice_get nodes n ≡ Some (Apply m k)) × Stands nodes m.0 e × Stands nodes k.0 a

-- the nodes that it is made of come before it
abbrev pub HasPartsBelow : ℕ → Node → Type 0
HasPartsBelow n (Param i) = Unit {0}
HasPartsBelow n (Head h) = Unit {0}
HasPartsBelow n (Apply m k) = (m.0 < n) × (k.0 < n)

-- each node is made of earlier ones
abbrev pub AreOrdered : List Node → Type 0
AreOrdered nodes = (n : ℕ) (node : Node) → slice_get nodes n ≡ Some node → HasPartsBelow n node

-- no node stands twice
abbrev pub AreSingle : List Node → Type 0
AreSingle nodes = (m n : ℕ) (node : Node) → slice_get nodes m ≡ Some node → slice_get nodes n ≡ Some node → m ≡ n

-- what stands at a number stays there
abbrev pub Stay : {X : Type 0} → List X → List X → Type 0
Stay {X} old new = (n : ℕ) (x : X) → slice_get old n ≡ Some x → slice_get new n ≡ Some x

-- each number stands for its expression, one for one
abbrev pub StandFor : List Node → List ExprId → List Expression → Type 0
StandFor nodes = AllZip (λ id e. Stands nodes id.0 e)

-- each number is one of a node
abbrev pub AreWithin : List Node → List ExprId → Type 0
AreWithin nodes = All (λ id. id.0 < length nodes)

-- the numbers stand for the expressions of a template, in order, with these arguments in place of the parameters
abbrev pub AreImages : List Node → List Node → List ExprId → List Expression → Type 0
AreImages template nodes images args = (k : ℕ) (id : ExprId) (e : Expression) → slice_get images k ≡ Some id → Stands template k e → Stands nodes id.0 (substitute args e)

-- no number stands twice
abbrev pub AreUnlike : List ExprId → Type 0
AreUnlike ids = (i j : ℕ) (id : ExprId) → slice_get ids i ≡ Some id → slice_get ids j ≡ Some id → i ≡ j

-- the sort or generic at the head of an expression, and its arguments
pub record IsSpine (nodes : List Node) (head : Option ℕ) (args : List ExprId) (e : Expression) : Type 0 where
  pub top : head ≡ head_of e
  pub under : StandFor nodes args (args_of e)

-- the node is a parameter, or a sort or generic
abbrev pub IsNoApply : Node → Type 0
IsNoApply (Param i) = Unit {0}
IsNoApply (Head h) = Unit {0}
IsNoApply (Apply m k) = ⊥
