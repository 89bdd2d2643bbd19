-- Unit propagation, and the clauses that follow by it (reverse unit propagation; Goldberg and Novikov 2003).
use Rattle.std.specs.Prelude.{◌≡◌, ℕ, ◌+◌, ◌⊎◌, List, [], ◌∷◌, ◌++◌, Some, slice_get, All, Contains}
use Rattle.ct_terms.specs.declared.ids.Lit.{Lit}
use Rattle.ct_terms.specs.Literal.{opposite}
use Rattle.ct_terms.specs.Clause.{Clause, opposites}

-- the literal is false where those of the set are true: its opposite is in the set
abbrev pub IsFalseIn : List Lit → Lit → Type 0
IsFalseIn set l = Contains set (opposite l)

-- every literal of the clause is false
abbrev pub AreFalseIn : List Lit → Clause → Type 0
AreFalseIn set clause = All (IsFalseIn set) clause

-- the literal is the one of the clause that is not false, however often it stands there
pub record IsUnit (set : List Lit) (clause : Clause) (l : Lit) : Type 0 where
  pub inside : Contains clause l
  pub not_false : IsFalseIn set l → ⊥
  pub others_false : All (λ k. (k ≡ l) ⊎ IsFalseIn set k) clause

-- the clause has this number among the clauses, counted from 1
abbrev pub IsNumbered : List Clause → ℕ → Clause → Type 0
IsNumbered clauses number clause = (index : ℕ) × (number ≡ index + 1) × (slice_get clauses index ≡ Some clause)

-- each hint in turn is the number of a clause with exactly one literal that is not false, and this is put into the set
abbrev pub Propagates : List Clause → List ℕ → List Lit → List Lit → Type 0
Propagates clauses [] before after = after ≡ before
Propagates clauses (hint ∷ hints) before after = (clause : Clause) × (l : Lit) × IsNumbered clauses hint clause × IsUnit before clause l × Propagates clauses hints (before ++ l ∷ []) after

-- the clause follows from the clauses by the hints: from the opposites of its literals, all hints but the last propagate,
-- and every literal of the last is false then
pub record Rup (clauses : List Clause) (hints : List ℕ) (clause : Clause) : Type 0 where
  pub units : List ℕ
  pub last : ℕ
  pub are_hints : hints ≡ units ++ last ∷ []
  pub set : List Lit
  pub propagates : Propagates clauses units (opposites clause) set
  pub refuted : Clause
  pub numbered : IsNumbered clauses last refuted
  pub false : AreFalseIn set refuted
