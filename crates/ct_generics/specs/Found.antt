-- Expressions of one table in another.
use Rattle.std.specs.Prelude.{◌≡◌, ℕ, List, Option, Some, None, slice_get}
use Rattle.ct_generics.specs.declared.nodes.ExprId.{ExprId}
use Rattle.ct_generics.specs.declared.nodes.Node.{Node}
use Rattle.ct_generics.specs.Expression.{Expression}
use Rattle.ct_generics.specs.Nodes.{Stands}

-- the expression stands at this number, or nowhere
abbrev pub IsFoundAs : List Node → Expression → Option ExprId → Type 0
IsFoundAs target e None = (n : ℕ) → Stands target n e → ⊥
IsFoundAs target e (Some n) = Stands target n.0 e

-- so it is for each of the first expressions of the source
abbrev pub AreFoundAs : List Node → List Node → List (Option ExprId) → Type 0
AreFoundAs target source found = (k : ℕ) (e : Expression) (n : Option ExprId) → slice_get found k ≡ Some n → Stands source k e → IsFoundAs target e n
