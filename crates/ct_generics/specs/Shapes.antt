-- What is kept of an expression to tell whether the names of a block stand in it at the parameters.
use Rattle.std.specs.Prelude.{◌↔◌, ◌≡◌, ℕ, Bool, false, not, ◌&&◌, ◌||◌, ◌==◌, List, ◌++◌, length, Option, Some, None, slice_get, IsTrue}
use Rattle.ct_generics.specs.declared.nodes.ExprId.{ExprId}
use Rattle.ct_generics.specs.declared.nodes.Node.{Node}
use Rattle.ct_generics.specs.declared.shape.Shape.{Shape}
use Rattle.ct_generics.specs.Expression.{Expression, args_of, parameters}
use Rattle.ct_generics.specs.Nodes.{Stands}
use Rattle.ct_generics.specs.Uniform.{KeepsTo}

-- the shape of an expression, which may come before further arguments
pub record IsShape (first params : ℕ) (shape : Shape) (e : Expression) : Type 0 where
  pub keeping : (args : List Expression) → KeepsTo first params args e ↔ (IsTrue shape.inner × (IsTrue shape.own → args_of e ++ args ≡ parameters params))
  pub in_order : IsTrue shape.ordered ↔ (args_of e ≡ parameters shape.count)
  pub counted : shape.count ≡ length (args_of e)

-- the shapes of the first nodes
abbrev pub AreShapes : ℕ → ℕ → List Node → List Shape → Type 0
AreShapes first params nodes shapes = (k : ℕ) (shape : Shape) (e : Expression) → slice_get shapes k ≡ Some shape → Stands nodes k e → IsShape first params shape e

-- an expression of this shape, with no further arguments, keeps to so many parameters
abbrev pub keeps : Shape → ℕ → Bool
keeps shape params = shape.inner && (not shape.own || (shape.ordered && (shape.count == params)))

abbrev pub keeps_if_there : ℕ → Option Shape → Bool
keeps_if_there params None = false
keeps_if_there params (Some shape) = keeps shape params

-- so does that of this number
abbrev pub keeps_at : List Shape → ℕ → ExprId → Bool
keeps_at shapes params id = keeps_if_there params (slice_get shapes id.0)
