-- What is found out about the sorts and generics of a block from the graph of what they reach.
use Rattle.std.specs.Prelude.{◌≡◌, ◌↔◌, ℕ, ◌+◌, ◌<◌, ◌≤◌, false, List, length, Some, slice_get, IsTrue}
use Rattle.ct_generics.specs.declared.findings.Findings.{Findings}
use Rattle.ct_generics.specs.Expression.{Expression, at_own_parameters}
use Rattle.ct_generics.specs.Declarations.{Head}
use Rattle.ct_generics.specs.Founded.{IsFounded}
use Rattle.ct_generics.specs.Mixed.{IsMixed}
use Rattle.ct_generics.specs.Block.{IsTooLarge}

-- the expression is the sort or generic of this number at its own parameters
abbrev pub IsOwn : List Head → ℕ → Expression → Type 0
IsOwn heads h e = (head : Head) × (slice_get heads h ≡ Some head) × (e ≡ at_own_parameters h head.params)

-- the expressions are the sorts and generics with these numbers at their own parameters
pub record AreOwn (from end : ℕ) (heads : List Head) (es : List Expression) : Type 0 where
  pub long : from + length es ≡ end
  pub own : (k : ℕ) (e : Expression) → slice_get es k ≡ Some e → IsOwn heads (from + k) e

-- of one of these expressions this holds
abbrev pub SomeOf : List Expression → (Expression → Type 0) → Type 0
SomeOf es P = (k : ℕ) × (e : Expression) × (slice_get es k ≡ Some e) × P e

-- of one of the sorts and generics with these numbers, at its own parameters, this holds
abbrev pub SomeIn : ℕ → ℕ → List Head → (Expression → Type 0) → Type 0
SomeIn from end heads P = (h : ℕ) × (head : Head) × (from ≤ h) × (h < end) × (slice_get heads h ≡ Some head) × P (at_own_parameters h head.params)

-- what is found is so: where nothing is too large, it tells exactly whether one is mixed and whether one is not well founded
pub record AreFindings (from end : ℕ) (heads : List Head) (f : Findings) : Type 0 where
  pub size : IsTrue f.large ↔ SomeIn from end heads (IsTooLarge heads)
  pub mixing : f.large ≡ false → IsTrue f.mixed ↔ SomeIn from end heads (IsMixed heads)
  pub founding : f.large ≡ false → IsTrue f.unfounded ↔ SomeIn from end heads (λ e. IsFounded heads e → ⊥)
