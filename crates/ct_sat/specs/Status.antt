-- What a clause is under the literals made true.
use Rattle.std.specs.Prelude.{◌≡◌, ℕ, ◌⊎◌, List, ◌++◌, Option, None, Some, slice_get, All, Contains}
use Rattle.ct_terms.specs.declared.ids.Lit.{Lit}
use Rattle.ct_terms.specs.Literal.{opposite}
use Rattle.ct_terms.specs.Clause.{Clause}
use Rattle.ct_terms.specs.Propagation.{AreFalseIn}
use Rattle.ct_sat.specs.declared.clause.StepClause.{StepClause}
use Rattle.ct_sat.specs.declared.status.Status.{Status}
use Rattle.ct_sat.specs.declared.status.Status.TheVariants.{Settled, Forces, False}
use Rattle.ct_sat.specs.Up.{IsForced}
use Rattle.ct_sat.specs.Assigned.{Assigned, HaveReasons, implied}

-- neither the literal nor its opposite is in the set
abbrev pub IsUnset : List Lit → Lit → Type 0
IsUnset set l = (Contains set l → ⊥) × (Contains set (opposite l) → ⊥)

-- two different literals of the clause have no value
pub record HasTwoUnset (set : List Lit) (clause : Clause) : Type 0 where
  pub one : Lit
  pub other : Lit
  pub has_one : Contains clause one
  pub has_other : Contains clause other
  pub differ : one ≡ other → ⊥
  pub one_unset : IsUnset set one
  pub other_unset : IsUnset set other

-- some literal is true
pub record HasTrue (set : List Lit) (clause : Clause) : Type 0 where
  pub literal : Lit
  pub has : Contains clause literal
  pub holds : Contains set literal

-- nothing follows from the clause, and it is not false
abbrev pub IsSettled : List Lit → Clause → Type 0
IsSettled set clause = HasTrue set clause ⊎ HasTwoUnset set clause

-- the literal has no value, and the clause forces it
pub record IsOpenUnit (set : List Lit) (clause : Clause) (l : Lit) : Type 0 where
  pub unset : IsUnset set l
  pub forced : IsForced set clause l

abbrev pub IsStatus : List Lit → Clause → Status → Type 0
IsStatus set clause Settled = IsSettled set clause
IsStatus set clause (Forces l) = IsOpenUnit set clause l
IsStatus set clause False = AreFalseIn set clause

-- the part of a clause that was looked at has no true literal: all are false, or all but the one that has no value
abbrev pub IsSeen : List Lit → Clause → Option Lit → Type 0
IsSeen set clause None = AreFalseIn set clause
IsSeen set clause (Some l) = IsOpenUnit set clause l

-- a clause that is settled stays as it is; of a unit clause the literal is put into the trail
pub data Examined (old new : Assigned) (clause : Clause) (index : ℕ) : Type 0 where
  stays : new ≡ old → IsSettled old.literals clause → Examined old new clause index
  grows : (l : Lit) → new ≡ implied old l index → IsOpenUnit old.literals clause l → Examined old new clause index

-- literals were put at the end, each with its reason; the decisions stay
pub record Propagated (clauses : List StepClause) (old new : Assigned) : Type 0 where
  pub more : List Lit
  pub literals : new.literals ≡ old.literals ++ more
  pub decided : new.decided ≡ old.decided
  pub room : new.room ≡ old.room
  pub reasons : HaveReasons clauses old.literals old.reasons → HaveReasons clauses new.literals new.reasons
  pub over : All (λ l. (c : StepClause) × Contains clauses c × Contains c.literals l) more

-- the index of a clause that is false
abbrev pub IsFalseAt : List StepClause → List Lit → ℕ → Type 0
IsFalseAt clauses set i = (c : StepClause) × (slice_get clauses i ≡ Some c) × AreFalseIn set c.literals
