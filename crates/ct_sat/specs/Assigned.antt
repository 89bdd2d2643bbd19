-- What contracts see of the literals made true, with why each is.
use Rattle.std.specs.Prelude.{◌≡◌, ℕ, List, [], ◌∷◌, ◌++◌, length, take, Option, None, Some, slice_get, Contains}
use Rattle.ct_terms.specs.declared.ids.Lit.{Lit}
use Rattle.ct_sat.specs.declared.clause.StepClause.{StepClause}
use Rattle.ct_sat.specs.declared.decided.Decided.{Decided}
use Rattle.ct_sat.specs.Up.{IsForced}

-- the literals in order; beside each the index of the clause that forced it, or none where it was decided; the decided
-- ones; and below which number the terms are
pub record Assigned : Type 0 where
  pub literals : List Lit
  pub reasons : List (Option ℕ)
  pub decided : List Decided
  pub room : ℕ

-- one more literal, which the clause with this index forces
abbrev pub implied : Assigned → Lit → ℕ → Assigned
implied a l clause = record a { literals = a.literals ++ l ∷ []; reasons = a.reasons ++ Some clause ∷ [] }

-- one more literal, decided
abbrev pub decided_on : Assigned → Lit → Assigned
decided_on a l = record a {
  literals = a.literals ++ l ∷ [];
  reasons = a.reasons ++ None ∷ [];
  decided = a.decided ++ record { literal = l; index = length a.literals } ∷ [];
}

-- the first decisions, and the literals before the next one
abbrev pub cut_before : Assigned → ℕ → Decided → Assigned
cut_before a keep next = record a {
  literals = take next.index a.literals;
  reasons = take next.index a.reasons;
  decided = take keep a.decided;
}

-- the literal at the index is forced by the clause and the literals before it
pub record IsReason (clauses : List StepClause) (literals : List Lit) (i : ℕ) (c : StepClause) : Type 0 where
  pub clause : Contains clauses c
  pub literal : Lit
  pub stands : slice_get literals i ≡ Some literal
  pub forces : IsForced (take i literals) c.literals literal

-- beside each literal stands a reason or none, and the clause that is its reason forces it
pub record HaveReasons (clauses : List StepClause) (literals : List Lit) (reasons : List (Option ℕ)) : Type 0 where
  pub long : length reasons ≡ length literals
  pub each : (i r : ℕ) → slice_get reasons i ≡ Some (Some r) → (c : StepClause) × (slice_get clauses r ≡ Some c) × IsReason clauses literals i c
