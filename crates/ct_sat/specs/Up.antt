-- What follows by units from clauses and decided literals (unit propagation of Davis, Logemann and Loveland 1962).
use Rattle.std.specs.Prelude.{◌≡◌, ◌<◌, ◌⊎◌, true, false, List, All, Contains}
use Rattle.ct_terms.specs.declared.ids.TermId.{TermId}
use Rattle.ct_terms.specs.declared.ids.Lit.{Lit}
use Rattle.ct_terms.specs.Literal.{opposite}
use Rattle.ct_terms.specs.Clause.{Clause}
use Rattle.ct_terms.specs.Propagation.{IsFalseIn}

-- the literal is in the clause and every other one is false in the set; equal literals count once
pub record IsForced (set : List Lit) (clause : Clause) (l : Lit) : Type 0 where
  pub inside : Contains clause l
  pub others_false : All (λ k. (k ≡ l) ⊎ IsFalseIn set k) clause

-- the set holds the decided literals and each literal that a clause forces in it
pub record IsClosed (clauses : List Clause) (decided set : List Lit) : Type 0 where
  pub holds_decided : All (Contains set) decided
  pub holds_forced : (clause : Clause) (l : Lit) → Contains clauses clause → IsForced set clause l → Contains set l

-- the literal is in the least such set: in each of them
abbrev pub Up : List Clause → List Lit → Lit → Type 0
Up clauses decided l = (set : List Lit) → IsClosed clauses decided set → Contains set l

-- the literals of a term, in each sign
abbrev pub positive_of : TermId → Lit
positive_of t = record { term = t; positive = true }

abbrev pub negative_of : TermId → Lit
negative_of t = record { term = t; positive = false }

-- where the true literals are those that `has` tells: some literal and its opposite are true, or every literal of
-- some clause is false
abbrev pub IsContradictory : List Clause → (Lit → Type 0) → Type 0
IsContradictory clauses has =
    ((l : Lit) × has l × has (opposite l)) ⊎ ((clause : Clause) × Contains clauses clause × All (λ l. has (opposite l)) clause)

-- one of the variable's literals is true
abbrev pub IsAssigned : (Lit → Type 0) → TermId → Type 0
IsAssigned has t = has (positive_of t) ⊎ has (negative_of t)

-- the variable with the lowest number among those without a value
pub record IsLowest (variables : List TermId) (has : Lit → Type 0) (t : TermId) : Type 0 where
  pub variable : Contains variables t
  pub unset : IsAssigned has t → ⊥
  pub lowest : (u : TermId) → Contains variables u → u.0 < t.0 → IsAssigned has u
