-- Constructors whose fields determine the arguments of the sort.
use Rattle.std.specs.Prelude.{◌≡◌, ◌↔◌, ℕ, ◌≤◌, Bool, List, length, Some, slice_get, IsTrue}
use Rattle.ct_generics.specs.Declarations.{Head}
use Rattle.ct_generics.specs.Expression.{Expression, head_of}
use Rattle.ct_generics.specs.Occurrence.{OccurAll}
use Rattle.ct_sorts.specs.declared.ids.CtorId.{CtorId}
use Rattle.ct_sorts.specs.Declarations.{Declarations, Sort}

-- it is constructor i of a sort that is the head h, with arguments or without
pub record IsCtorAt (d : Declarations) (c : CtorId) (h i : ℕ) : Type 0 where
  pub s : ℕ
  pub sort : Sort
  pub origin : Expression
  pub sort_at : slice_get d.sorts s ≡ Some sort
  pub origin_at : slice_get d.origins s ≡ Some origin
  pub head_is : head_of origin ≡ Some h
  pub at : slice_get sort.ctors i ≡ Some c

-- each parameter occurs in the fields of constructor i
abbrev pub DetermineArguments : Head → ℕ → Type 0
DetermineArguments head i = (row : List Expression) → slice_get head.ctors i ≡ Some row → OccurAll head.params row

-- it is marked for each constructor of these whether its fields determine the arguments
pub record AreMarked (heads : List Head) (marks : List (List Bool)) : Type 0 where
  pub one_each : length marks ≡ length heads
  pub enough : (h : ℕ) (head : Head) (ctors : List Bool) → slice_get heads h ≡ Some head → slice_get marks h ≡ Some ctors → length head.ctors ≤ length ctors
  pub right : (h i : ℕ) (head : Head) (ctors : List Bool) (mark : Bool)
      → slice_get heads h ≡ Some head → slice_get marks h ≡ Some ctors → slice_get ctors i ≡ Some mark → IsTrue mark ↔ DetermineArguments head i
