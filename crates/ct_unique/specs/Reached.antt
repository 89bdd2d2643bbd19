-- The pairs that are reached from one pair of constructor terms by arguments that are not equal.
use Rattle.std.specs.Prelude.{◌≡◌, ℕ, List, Some, slice_get}
use Rattle.ct_sorts.specs.declared.ids.CtorId.{CtorId}
use Rattle.ct_terms.specs.declared.ids.TermId.{TermId}
use Rattle.ct_terms.specs.declared.term.Core.TheVariants.{Con}
use Rattle.ct_terms.specs.Terms.{Has}
use Rattle.ct_rules.specs.declared.equation.Equation.{Equation}
use Rattle.ct_congr.specs.State.{State, AreEqual, IsConstructorTerm}

-- what two terms need that are not equal: constructor terms of their classes
pub record IsPairFor (state : State) (x y : TermId) (pair : Equation) : Type 0 where
  pub apart : AreEqual state x y → ⊥
  pub left : IsConstructorTerm state.terms pair.left
  pub right : IsConstructorTerm state.terms pair.right
  pub left_equal : AreEqual state x pair.left
  pub right_equal : AreEqual state y pair.right

-- what two terms at one index of the lists need
pub record IsPairAmong (state : State) (xs ys : List TermId) (pair : Equation) : Type 0 where
  pub place : ℕ
  pub x : TermId
  pub y : TermId
  pub left_at : slice_get xs place ≡ Some x
  pub right_at : slice_get ys place ≡ Some y
  pub needed : IsPairFor state x y pair

-- what two arguments, at one index, of a pair of terms with one constructor need
pub record IsArgumentPair (state : State) (of pair : Equation) : Type 0 where
  pub ctor : CtorId
  pub xs : List TermId
  pub ys : List TermId
  pub left_stands : Has state.terms (Con ctor xs) of.left.0
  pub right_stands : Has state.terms (Con ctor ys) of.right.0
  pub among : IsPairAmong state xs ys pair

-- the least set of pairs that has the asked one and, with a pair, those that its arguments need
pub data IsReached (state : State) (asked : Equation) : Equation → Type 0 where
  by_asking : IsReached state asked asked
  by_arguments : (of pair : Equation) → IsReached state asked of → IsArgumentPair state of pair → IsReached state asked pair
