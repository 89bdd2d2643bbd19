-- Parameters in sort expressions.
use Rattle.std.specs.Prelude.{◌≡◌, ℕ, ◌<◌, ◌⊎◌, Bool, true, List, Some, slice_get}
use Rattle.ct_generics.specs.declared.nodes.Node.{Node}
use Rattle.ct_generics.specs.declared.nodes.Node.TheVariants.{Param}
use Rattle.ct_generics.specs.Expression.{Expression, parameter, named, applied}
use Rattle.ct_generics.specs.Marks.{marked}
use Rattle.ct_generics.specs.Nodes.{Stands}

-- the parameter occurs in the expression
abbrev pub Occurs : ℕ → Expression → Type 0
Occurs i (parameter j) = i ≡ j
Occurs i (named h) = ⊥
Occurs i (applied e a) = Occurs i e ⊎ Occurs i a

-- the parameter occurs in one of these expressions
abbrev pub OccursIn : List Expression → ℕ → Type 0
OccursIn row i = (j : ℕ) × (e : Expression) × (slice_get row j ≡ Some e) × Occurs i e

-- each of so many parameters occurs in one of these expressions
abbrev pub OccurAll : ℕ → List Expression → Type 0
OccurAll params row = (i : ℕ) → i < params → OccursIn row i

-- the parameter occurs in the expression of a marked node before this number
abbrev pub OccursBelow : List Node → ℕ → List Bool → ℕ → Type 0
OccursBelow nodes end marks i = (n : ℕ) × (e : Expression) × (n < end) × (marked marks n ≡ true) × Stands nodes n e × Occurs i e

-- the node of the parameter is marked
abbrev pub IsParamMarked : List Node → List Bool → ℕ → Type 0
IsParamMarked nodes marks i = (n : ℕ) × (slice_get nodes n ≡ Some (Param i)) × (marked marks n ≡ true)

-- Only what occurs in these expressions occurs in those of marked nodes, and all of it does: in a marked node before this
-- number, or as a marked node of its own.
pub record ArePartMarks (nodes : List Node) (row : List Expression) (end : ℕ) (marks : List Bool) : Type 0 where
  pub only : (n i : ℕ) (e : Expression) → marked marks n ≡ true → Stands nodes n e → Occurs i e → OccursIn row i
  pub all : (i : ℕ) → OccursIn row i → OccursBelow nodes end marks i ⊎ IsParamMarked nodes marks i
