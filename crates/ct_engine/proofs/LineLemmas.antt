-- Lines for clauses that are added to a search.
use Rattle.std.proofs.Common.{ℕ, Bool, false, List, [], ◌∷◌, ◌++◌, All, Contains, refl}
use Rattle.std.proofs.lemmas.List.Elements.{All-contains, All-weaker, All-nil, Contains-push}
use Rattle.ct_sorts.specs.Declarations.{Declarations}
use Rattle.ct_terms.specs.declared.ids.TermId.{TermId}
use Rattle.ct_terms.specs.declared.ids.Lit.{Lit}
use Rattle.ct_terms.specs.Literal.{opposite, IsStripped}
use Rattle.ct_terms.specs.Clause.{Clause}
use Rattle.ct_terms.specs.Propagation.{Rup}
use Rattle.ct_terms.specs.Terms.{Terms}
use Rattle.ct_log.specs.declared.rules.EqStep.{EqStep}
use Rattle.ct_log.specs.declared.rules.Close.{Close}
use Rattle.ct_log.specs.declared.line.Step.TheVariants as step
use Rattle.ct_log.specs.Acceptance.{IsAccepted, clauses_of}
use Rattle.ct_log.specs.Recorded.{Derived}
use Rattle.ct_sat.specs.declared.clause.StepClause.{StepClause}
use Rattle.ct_sat.specs.State.{SearchState, AreVariables, AreOver, IsSound, IsConflict}
use Rattle.ct_sat.specs.Learning.{FollowsBy, StandAtSteps}
use Rattle.ct_theory.specs.Entailment.{IsConflictOf}
use Rattle.ct_engine.specs.declared.verdict.Move.{Move}
use Rattle.ct_engine.specs.Progress.{IsAccounted}

-- literals over variables are over Boolean terms that are no negations
stripped_over : (terms : Terms) (variables : List TermId) (lits : List Lit) → AreVariables terms variables → AreOver variables lits → All (λ (l : Lit). IsStripped terms l.term) lits
stripped_over terms variables lits are over =
    All-weaker (λ (l : Lit). Contains variables l.term) (λ (l : Lit). IsStripped terms l.term)
    (λ l h. All-contains (IsStripped terms) variables l.term are.boolean h) lits over

-- the literals of the trail are
pub stripped_trail : (search : SearchState) (terms : Terms) → AreVariables terms search.variables → IsSound search → (l : Lit) → Contains search.trail l → IsStripped terms l.term
stripped_trail search terms are sound l h =
    All-contains (λ (k : Lit). IsStripped terms k.term) search.trail l (stripped_over terms search.variables search.trail are sound.trail_over) h

-- a clause whose literals are false in the trail is over the variables
pub over_false : (search : SearchState) (clause : Clause) → IsSound search → All (λ l. Contains search.trail (opposite l)) clause → AreOver search.variables clause
over_false search clause sound false_ones =
    All-weaker (λ (l : Lit). Contains search.trail (opposite l)) (λ (l : Lit). Contains search.variables l.term)
    (λ l h. All-contains (λ (k : Lit). Contains search.variables k.term) search.trail (opposite l) sound.trail_over h) clause false_ones

-- the line of a conflict of the theory is accepted
pub accepted_conflict : (search : SearchState) (d : Declarations) (terms : Terms) (asserts : List TermId) (earlier : List Clause) (clause : Clause) (steps : List EqStep) (close : Close) → AreVariables terms search.variables → IsSound search → IsConflictOf d terms search.trail clause steps close → IsAccepted d terms asserts earlier (record { clause = clause; step = step.Theory steps close })
accepted_conflict search d terms asserts earlier clause steps close are sound conflict = record {
  literals = stripped_over terms search.variables clause are (over_false search clause sound conflict.false);
  justified = conflict.refuted;
}

-- and its clause is a conflict of the search to which it is added
pub conflict_added : (search : SearchState) (number : ℕ) (clause : Clause) → All (λ l. Contains search.trail (opposite l)) clause → IsConflict (record search { clauses = search.clauses ++ record { step = number; literals = clause } ∷ []; propagated = false }) number
conflict_added search number clause false_ones =
    let new : StepClause = record { step = number; literals = clause } in
    (new, refl, Contains-push search.clauses new, false_ones)

-- the line of a learned clause is accepted
pub accepted_learned : ((clauses : List StepClause) (all : List Clause) (hints : List ℕ) (clause : Clause) → StandAtSteps clauses all → FollowsBy clauses hints clause → Rup all hints clause) → (recorded : Bool) (search : SearchState) (derived : Derived) (begun : ℕ) (moves : List Move) (lits : Clause) (hints : List ℕ) → IsAccounted recorded search derived begun moves → FollowsBy search.clauses hints lits → AreOver search.variables lits → IsAccepted derived.declarations derived.rec.terms derived.asserts (clauses_of derived.rec.lines) (record { clause = lits; step = step.Learn hints })
accepted_learned listed recorded search derived begun moves lits hints is follows over = record {
  literals = stripped_over derived.rec.terms search.variables lits is.variables over;
  justified = listed search.clauses (clauses_of derived.rec.lines) hints lits is.numbered follows;
}

-- so is that of the empty clause
pub accepted_empty : ((clauses : List StepClause) (all : List Clause) (hints : List ℕ) (clause : Clause) → StandAtSteps clauses all → FollowsBy clauses hints clause → Rup all hints clause) → (recorded : Bool) (search : SearchState) (derived : Derived) (begun : ℕ) (moves : List Move) (hints : List ℕ) → IsAccounted recorded search derived begun moves → FollowsBy search.clauses hints [] → IsAccepted derived.declarations derived.rec.terms derived.asserts (clauses_of derived.rec.lines) (record { clause = []; step = step.Learn hints })
accepted_empty listed recorded search derived begun moves hints is follows =
    accepted_learned listed recorded search derived begun moves [] hints is follows (All-nil (λ (l : Lit). Contains search.variables l.term))
