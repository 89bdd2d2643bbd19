-- What a conflict teaches (conflict-driven clause learning; Marques-Silva and Sakallah 1999).
use Rattle.std.specs.Prelude.{◌≡◌, ℕ, ◌⊎◌, false, List, [], ◌∷◌, ◌++◌, take, Some, slice_get, All, Contains}
use Rattle.ct_terms.specs.declared.ids.Lit.{Lit}
use Rattle.ct_terms.specs.Clause.{Clause, opposites}
use Rattle.ct_terms.specs.Propagation.{IsFalseIn, AreFalseIn, IsUnit, IsNumbered}
use Rattle.ct_sat.specs.declared.clause.StepClause.{StepClause}
use Rattle.ct_sat.specs.declared.decided.Decided.{Decided}
use Rattle.ct_sat.specs.declared.learned.Learned.{Learned}
use Rattle.ct_sat.specs.declared.learned.Learned.TheVariants.{Clause as Learnt, Empty}
use Rattle.ct_sat.specs.Up.{IsAssigned}
use Rattle.ct_sat.specs.State.{SearchState, AreOver}

-- the clause is one of these and has this step
abbrev pub HasStep : List StepClause → ℕ → StepClause → Type 0
HasStep clauses step c = Contains clauses c × (c.step ≡ step)

-- each hint in turn is the step of a clause with exactly one literal that is not false, and this is put into the set
abbrev pub PropagatesBy : List StepClause → List ℕ → List Lit → List Lit → Type 0
PropagatesBy clauses [] before after = after ≡ before
PropagatesBy clauses (hint ∷ hints) before after = (c : StepClause) × (l : Lit) × HasStep clauses hint c × IsUnit before c.literals l × PropagatesBy clauses hints (before ++ l ∷ []) after

-- the clause follows from the clauses by the hints, which are steps: from the opposites of its literals, all hints but
-- the last propagate, and every literal of the last is false then (reverse unit propagation; Goldberg and Novikov 2003)
pub record FollowsBy (clauses : List StepClause) (hints : List ℕ) (clause : Clause) : Type 0 where
  pub units : List ℕ
  pub last : ℕ
  pub are_hints : hints ≡ units ++ last ∷ []
  pub set : List Lit
  pub propagates : PropagatesBy clauses units (opposites clause) set
  pub refuted : StepClause
  pub has_step : HasStep clauses last refuted
  pub false : AreFalseIn set refuted.literals

-- in the list of all clauses each of these has the number of its step
abbrev pub StandAtSteps : List StepClause → List Clause → Type 0
StandAtSteps clauses all = (c : StepClause) → Contains clauses c → IsNumbered all c.step c.literals

-- all literals of the clause but one are false, and the variable of that one has no value
pub record IsAsserting (set : List Lit) (clause : Clause) (l : Lit) : Type 0 where
  pub inside : Contains clause l
  pub unset : IsAssigned (Contains set) l.term → ⊥
  pub others_false : All (λ k. (k ≡ l) ⊎ IsFalseIn set k) clause

-- the clause follows; before the decision `next`, which is the first not stored, it is asserting; the trail ends there,
-- and the clause is added
pub record LearnsClause (old new : SearchState) (step : ℕ) (lits : Clause) (hints : List ℕ) (keep : ℕ) : Type 0 where
  pub follows : FollowsBy old.clauses hints lits
  pub over : AreOver old.variables lits
  pub next : Decided
  pub stands : slice_get old.decided keep ≡ Some next
  pub asserted : Lit
  pub asserting : IsAsserting (take next.index old.trail) lits asserted
  pub after : new ≡ record old {
    clauses = old.clauses ++ record { step = step; literals = lits } ∷ [];
    trail = take next.index old.trail;
    decided = take keep old.decided;
    propagated = false;
  }

-- no decision stands and the empty clause follows; nothing changes
pub record LearnsEmpty (old new : SearchState) (hints : List ℕ) : Type 0 where
  pub follows : FollowsBy old.clauses hints []
  pub none : old.decided ≡ []
  pub after : new ≡ old

abbrev pub Learns : SearchState → SearchState → ℕ → Learned → Type 0
Learns old new step (Learnt lits hints keep) = LearnsClause old new step lits hints keep
Learns old new step (Empty hints) = LearnsEmpty old new hints
