-- Uniform recursion: a block's own names stand in a field with the parameters of the declaration as arguments.
use Rattle.std.specs.Prelude.{◌≡◌, ℕ, ◌≤◌, List, [], ◌∷◌, Some, slice_get}
use Rattle.ct_generics.specs.Expression.{Expression, parameter, named, applied, parameters}
use Rattle.ct_generics.specs.Declarations.{Head}

-- With these arguments after it each name with a number from `first` on stands at so many parameters, in order. The
-- arguments of the head come one by one to its name.
abbrev pub KeepsTo : ℕ → ℕ → List Expression → Expression → Type 0
KeepsTo first params args (parameter i) = Unit {0}
KeepsTo first params args (named h) = first ≤ h → args ≡ parameters params
KeepsTo first params args (applied e a) = KeepsTo first params (a ∷ args) e × KeepsTo first params [] a

-- in each field of the sort or generic each name from `first` on stands at the parameters of the declaration
abbrev pub IsUniform : ℕ → Head → Type 0
IsUniform first head = (i j : ℕ) (ctor : List Expression) (field : Expression) → slice_get head.ctors i ≡ Some ctor → slice_get ctor j ≡ Some field → KeepsTo first head.params [] field

-- the sorts and generics from `first` on are uniform
abbrev pub AreUniform : ℕ → List Head → Type 0
AreUniform first heads = (h : ℕ) (head : Head) → first ≤ h → slice_get heads h ≡ Some head → IsUniform first head
