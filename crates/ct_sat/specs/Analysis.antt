-- How far the analysis of a conflict has come. Each index of the trail has a mark, set where the literal is still to be
-- explained; the hints are those of the reasons so far, the last first.
use Rattle.std.specs.Prelude.{◌≡◌, ℕ, ◌+◌, ◌<◌, ◌≤◌, ◌⊎◌, true, List, [], ◌++◌, length, take, reverse, Bool, Some, slice_get, All, Contains}
use Rattle.ct_terms.specs.declared.ids.Lit.{Lit}
use Rattle.ct_terms.specs.Clause.{Clause}
use Rattle.ct_terms.specs.Propagation.{AreFalseIn}
use Rattle.ct_sat.specs.declared.clause.StepClause.{StepClause}
use Rattle.ct_sat.specs.declared.decided.Decided.{Decided}
use Rattle.ct_sat.specs.Learning.{PropagatesBy, FollowsBy, IsAsserting}

abbrev pub IsMarked : List Bool → ℕ → Type 0
IsMarked marks k = slice_get marks k ≡ Some true

-- the index is that of the literal's variable
abbrev pub IsIndexOf : List Lit → Lit → ℕ → Type 0
IsIndexOf trail l k = (m : Lit) × (slice_get trail k ≡ Some m) × (m.term.0 ≡ l.term.0)

-- the indices of the clause's variables were marked, and no others
pub record MarksClause (trail : List Lit) (clause : Clause) (old new : List Bool) : Type 0 where
  pub long : length new ≡ length old
  pub stored : (k : ℕ) → IsMarked old k → IsMarked new k
  pub done : (l : Lit) (k : ℕ) → Contains clause l → IsIndexOf trail l k → IsMarked new k
  pub only : (k : ℕ) → IsMarked new k → IsMarked old k ⊎ ((l : Lit) × Contains clause l × IsIndexOf trail l k)

-- the hints refute the conflict, from this set on
pub record Refutes (clauses : List StepClause) (hints : List ℕ) (set : List Lit) (conflict : Clause) : Type 0 where
  pub after : List Lit
  pub propagates : PropagatesBy clauses hints set after
  pub false : AreFalseIn after conflict

-- a part of the trail that makes the clause so far false and holds the marked literals before the index
pub record IsBase (trail : List Lit) (marks : List Bool) (p : ℕ) (put : Clause) (set : List Lit) : Type 0 where
  pub inside : All (Contains trail) set
  pub false : AreFalseIn set put
  pub marked : (k : ℕ) (l : Lit) → k < p → IsMarked marks k → slice_get trail k ≡ Some l → Contains set l

-- from each such part the hints refute the conflict
pub record Leads (clauses : List StepClause) (trail : List Lit) (marks : List Bool) (hints : List ℕ) (p : ℕ) (put conflict : Clause) : Type 0 where
  pub leads : (set : List Lit) → IsBase trail marks p put set → Refutes clauses (reverse hints) set conflict

-- the analysis went down from one index to another
abbrev pub GoesDown : List StepClause → List Lit → List Bool → List ℕ → ℕ → List Bool → List ℕ → ℕ → Type 0
GoesDown clauses trail marks hints p marks' hints' p' =
    (put conflict : Clause) → Leads clauses trail marks hints p put conflict → Leads clauses trail marks' hints' p' put conflict

-- no index from the first up to the second has a mark
abbrev pub HasNoMark : List Bool → ℕ → ℕ → Type 0
HasNoMark marks from to = (k : ℕ) → from ≤ k → k < to → IsMarked marks k → ⊥

-- no decision stands from the first index up to the second
abbrev pub HasNoDecision : List Decided → ℕ → ℕ → Type 0
HasNoDecision decided from to = (j : ℕ) (d : Decided) → slice_get decided j ≡ Some d → from ≤ d.index → d.index < to → ⊥

-- so many decisions stand before the index
pub record StandBefore (decided : List Decided) (index n : ℕ) : Type 0 where
  pub fits : n ≤ length decided
  pub before : (j : ℕ) (d : Decided) → slice_get decided j ≡ Some d → j < n → d.index < index
  pub after : (j : ℕ) (d : Decided) → slice_get decided j ≡ Some d → n ≤ j → index ≤ d.index

-- the literals put since then are false by the trail before the index
pub record Collects (trail : List Lit) (above : ℕ) (old new : Clause) : Type 0 where
  pub more : Clause
  pub put : new ≡ old ++ more
  pub false : AreFalseIn (take above trail) more

-- the index is lowered to that of each of the clause's variables from `start` on, where it is lower
pub record Lowers (trail : List Lit) (clause : Clause) (start old new : ℕ) : Type 0 where
  pub at_most : new ≤ old
  pub at_least : start ≤ old → start ≤ new
  pub below : (l : Lit) (k : ℕ) → Contains clause l → IsIndexOf trail l k → start ≤ k → new ≤ k

-- the index is raised above that of each of the clause's variables
pub record Raises (trail : List Lit) (clause : Clause) (old new : ℕ) : Type 0 where
  pub at_least : old ≤ new
  pub inside : old ≤ length trail → new ≤ length trail
  pub above : (l : Lit) (k : ℕ) → Contains clause l → IsIndexOf trail l k → k < new

-- no literal was put from the index on: either none was, or those that were stand before `above`
abbrev pub IsAbove : ℕ → ℕ → ℕ → Type 0
IsAbove p above start = (above ≡ 0) ⊎ ((p < above) × (above ≤ start))

-- some decision has this index
abbrev pub IsStart : List Decided → ℕ → Type 0
IsStart decided start = (j : ℕ) × (d : Decided) × (slice_get decided j ≡ Some d) × (d.index ≡ start)

-- the analysis has come down to one literal from the decision at `start` on: what it needs besides stands before that
-- decision
pub record IsLocated (clauses : List StepClause) (trail : List Lit) (decided : List Decided) (marks : List Bool) (hints : List ℕ) (conflict : Clause) (start unique : ℕ) : Type 0 where
  pub leads : Leads clauses trail marks hints (unique + 1) [] conflict
  pub long : length marks ≡ length trail
  pub decision : IsStart decided start
  pub from : start ≤ unique
  pub fits : unique < length trail
  pub unmarked : HasNoMark marks start unique

-- what a conflict teaches: the clause follows by the hints; before the decision that is the first not stored all its
-- literals but one are false, and the variable of that one has no value
pub record IsAnalysed (clauses : List StepClause) (trail : List Lit) (decided : List Decided) (lits : Clause) (hints : List ℕ) (keep : ℕ) : Type 0 where
  pub follows : FollowsBy clauses hints lits
  pub false : AreFalseIn trail lits
  pub next : Decided
  pub stands : slice_get decided keep ≡ Some next
  pub asserted : Lit
  pub asserting : IsAsserting (take next.index trail) lits asserted
