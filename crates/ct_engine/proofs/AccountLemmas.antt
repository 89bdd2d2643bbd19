-- A search stays accounted for: with each step its clauses, its lines and its moves go on belonging together.
use Rattle.std.proofs.Common.{◌≡◌, ℕ, Bool, true, false, ◌+◌, List, [], ◌∷◌, ◌++◌, length, map, take, All, Contains, refl, sym, ap, subst, ◌∙◌, append_assoc, true≢false}
use Rattle.std.proofs.lemmas.List.{append-nil, map-append}
use Rattle.std.proofs.lemmas.Option.{none-some}
use Rattle.std.proofs.lemmas.List.Elements.{All-nil, All-push, Contains-append_left}
use Rattle.ct_terms.specs.declared.ids.TermId.{TermId}
use Rattle.ct_terms.specs.declared.ids.Lit.{Lit}
use Rattle.ct_terms.specs.Literal.{opposite}
use Rattle.ct_terms.specs.Clause.{Clause}
use Rattle.ct_log.specs.declared.line.Line.{Line}
use Rattle.ct_log.specs.declared.line.Step.TheVariants as step
use Rattle.ct_log.specs.Acceptance.{clauses_of}
use Rattle.ct_log.specs.Recorded.{Derived}
use Rattle.ct_sat.specs.declared.clause.StepClause.{StepClause}
use Rattle.ct_sat.specs.declared.decided.Decided.{Decided}
use Rattle.ct_sat.specs.Up.{negative_of, IsLowest}
use Rattle.ct_sat.specs.State.{SearchState, clauses_of as clauses_in, begun, AreVariables, IsSound, IsConflict, IsQuiet, AppendsTo}
use Rattle.ct_sat.specs.Decision.{Takes, with_decision}
use Rattle.ct_sat.specs.Learning.{LearnsClause, StandAtSteps}
use Rattle.ct_engine.specs.declared.verdict.Move.{Move}
use Rattle.ct_engine.specs.declared.verdict.Move.TheVariants as move
use Rattle.ct_clauses.specs.Initial.{AreInitialLines}
use Rattle.ct_engine.specs.Moves.{Replay, IsTaught, first_state}
use Rattle.ct_engine.specs.Progress.{IsReplayed, IsAccounted, IsBegunOver, IsSearchOver}
use Rattle.ct_engine.specs.Theorems.{UnitTheorems}
use Rattle.ct_engine.proofs.MoveLemmas.{AreLegal-longer, AreLegal-push, count-decision, count-addition, count-learning, StandAtSteps-line}
use Rattle.ct_engine.proofs.ReplayLemmas.{IsReplayOf-appended, IsReplayOf-added, IsReplayOf-decided, IsReplayOf-learned, adds, decides, learns}

-- literals were put at the end of the trail
appended : (recorded : Bool) (search : SearchState) (more : List Lit) (propagated : Bool) (derived : Derived) (begun : ℕ) (moves : List Move) → IsSound search → IsAccounted recorded search derived begun moves → IsAccounted recorded (record search { trail = search.trail ++ more; propagated = propagated }) derived begun moves
appended recorded search more propagated derived begun moves sound is = record {
  variables = is.variables;
  initial = is.initial;
  taught = is.taught;
  in_order = is.in_order;
  long = is.long;
  are_initial = is.are_initial;
  are_taught = is.are_taught;
  numbered = is.numbered;
  stored = is.stored;
  replayed = λ e. (let old = is.replayed e in record {
    replay = old.replay;
    replays = IsReplayOf-appended search more propagated old.replay sound old.replays;
    legal = old.legal;
    counted = old.counted;
  });
}

pub IsAccounted-propagated : (recorded : Bool) (old new : SearchState) (derived : Derived) (begun : ℕ) (moves : List Move) → IsSound old → AppendsTo old new → IsAccounted recorded old derived begun moves → IsAccounted recorded new derived begun moves
IsAccounted-propagated recorded old new derived begun moves sound (more, is) before =
    subst (λ (s : SearchState). IsAccounted recorded s derived begun moves) (sym is) (appended recorded old more new.propagated derived begun moves sound before)

-- the search is not recorded, and its clauses stay
pub IsAccounted-unrecorded : (recorded : Bool) (old new : SearchState) (derived : Derived) (begun : ℕ) (moves : List Move) → recorded ≡ false → new.variables ≡ old.variables → new.clauses ≡ old.clauses → IsAccounted recorded old derived begun moves → IsAccounted recorded new derived begun moves
IsAccounted-unrecorded recorded old new derived begun moves not_recorded variables clauses is = record {
  variables = subst (λ (vs : List TermId). AreVariables derived.rec.terms vs) (sym variables) is.variables;
  initial = is.initial;
  taught = is.taught;
  in_order = is.in_order;
  long = is.long;
  are_initial = is.are_initial;
  are_taught = is.are_taught;
  numbered = subst (λ (cs : List StepClause). StandAtSteps cs (clauses_of derived.rec.lines)) (sym clauses) is.numbered;
  stored = λ clause h. subst (λ (cs : List StepClause). Contains (clauses_in cs) clause) (sym clauses) (is.stored clause h);
  replayed = λ e. absurd (true≢false (sym e ∙ not_recorded));
}

-- the lines in their order with one more
pub in_order_with : (lines initial taught : List Line) (line : Line) → lines ≡ initial ++ taught → lines ++ line ∷ [] ≡ initial ++ (taught ++ line ∷ [])
in_order_with lines initial taught line is = ap (λ (ls : List Line). ls ++ line ∷ []) is ∙ append_assoc initial taught (line ∷ [])

-- the stored clauses with one more
pub stored_with : (clauses : List StepClause) (c : StepClause) (clause : Clause) → Contains (clauses_in clauses) clause → Contains (clauses_in (clauses ++ c ∷ [])) clause
stored_with clauses c clause h =
    subst (λ (cs : List Clause). Contains cs clause) (sym (map-append (λ (d : StepClause). d.literals) clauses (c ∷ [])))
    (Contains-append_left (clauses_in clauses) (c.literals ∷ []) clause h)

-- the moves with that of a clause of the theory
replayed_added : UnitTheorems → (search : SearchState) (initial lines : List Line) (moves : List Move) (number : ℕ) (line : Line) → IsSound search → number ≡ length lines + 1 → IsTaught line.step → All (λ l. Contains search.trail (opposite l)) line.clause → IsReplayed search initial lines moves → IsReplayed (record search { clauses = search.clauses ++ record { step = number; literals = line.clause } ∷ []; propagated = false }) initial (lines ++ line ∷ []) (moves ++ move.Add number ∷ [])
replayed_added theorems search initial lines moves number line sound numbered taught false_ones old =
    let after : Replay = record old.replay { clauses = old.replay.clauses ++ line.clause ∷ [] } in
    record {
      replay = after;
      replays = IsReplayOf-added search old.replay number line.clause old.replays;
      legal = AreLegal-push search.variables (lines ++ line ∷ []) (first_state initial) old.replay after moves (move.Add number)
          (AreLegal-longer search.variables lines (line ∷ []) (first_state initial) old.replay moves old.legal)
          (adds theorems search old.replay lines number line sound old.replays numbered taught false_ones);
      counted = count-addition moves number ∙ old.counted;
    }

-- a clause of the theory was added
pub IsAccounted-added : UnitTheorems → (recorded : Bool) (search : SearchState) (derived : Derived) (begun : ℕ) (moves : List Move) (number : ℕ) (line : Line) → IsSound search → number ≡ length derived.rec.lines + 1 → IsTaught line.step → All (λ l. Contains search.trail (opposite l)) line.clause → IsAccounted recorded search derived begun moves → (after : List Move) → (recorded ≡ true → after ≡ moves ++ move.Add number ∷ []) → IsAccounted recorded (record search { clauses = search.clauses ++ record { step = number; literals = line.clause } ∷ []; propagated = false }) (record derived { rec = record derived.rec { lines = derived.rec.lines ++ line ∷ [] } }) begun after
IsAccounted-added theorems recorded search derived begun moves number line sound numbered taught false_ones is after noted =
    let lines = derived.rec.lines in
    let new : StepClause = record { step = number; literals = line.clause } in
    record {
      variables = is.variables;
      initial = is.initial;
      taught = is.taught ++ line ∷ [];
      in_order = in_order_with lines is.initial is.taught line is.in_order;
      long = is.long;
      are_initial = is.are_initial;
      are_taught = All-push (λ (l : Line). IsTaught l.step) is.taught line is.are_taught taught;
      numbered = StandAtSteps-line search.clauses lines number line numbered is.numbered;
      stored = λ clause h. stored_with search.clauses new clause (is.stored clause h);
      replayed = λ e. subst (λ (ms : List Move). IsReplayed (record search { clauses = search.clauses ++ new ∷ []; propagated = false }) is.initial (lines ++ line ∷ []) ms) (sym (noted e))
          (replayed_added theorems search is.initial lines moves number line sound numbered taught false_ones (is.replayed e));
    }

-- the moves with that of a learned clause
replayed_learned : UnitTheorems → (old new : SearchState) (initial lines : List Line) (moves : List Move) (number keep conflict : ℕ) (lits : Clause) (hints : List ℕ) → IsSound old → IsConflict old conflict → number ≡ length lines + 1 → (learned : LearnsClause old new number lits hints keep) → IsReplayed old initial lines moves → IsReplayed (record old {
  clauses = old.clauses ++ record { step = number; literals = lits } ∷ [];
  trail = take learned.next.index old.trail;
  decided = take keep old.decided;
  propagated = false;
}) initial (lines ++ record { clause = lits; step = step.Learn hints } ∷ []) (moves ++ move.Learn number keep ∷ [])
replayed_learned theorems old new initial lines moves number keep conflict lits hints sound false_one numbered learned before =
    let line : Line = record { clause = lits; step = step.Learn hints } in
    let after : Replay = record { clauses = before.replay.clauses ++ lits ∷ []; decided = take keep before.replay.decided } in
    record {
      replay = after;
      replays = IsReplayOf-learned old before.replay number keep lits learned.next sound learned.stands before.replays;
      legal = AreLegal-push old.variables (lines ++ line ∷ []) (first_state initial) before.replay after moves (move.Learn number keep)
          (AreLegal-longer old.variables lines (line ∷ []) (first_state initial) before.replay moves before.legal)
          (learns theorems old new before.replay lines number keep conflict lits hints sound false_one before.replays numbered learned);
      counted = count-learning moves number keep ∙ before.counted;
    }

-- a clause was learned
learned_from : UnitTheorems → (recorded : Bool) (old new : SearchState) (derived : Derived) (begun : ℕ) (moves : List Move) (number keep conflict : ℕ) (lits : Clause) (hints : List ℕ) → IsSound old → IsConflict old conflict → number ≡ length derived.rec.lines + 1 → (learned : LearnsClause old new number lits hints keep) → IsAccounted recorded old derived begun moves → (after : List Move) → (recorded ≡ true → after ≡ moves ++ move.Learn number keep ∷ []) → IsAccounted recorded (record old {
  clauses = old.clauses ++ record { step = number; literals = lits } ∷ [];
  trail = take learned.next.index old.trail;
  decided = take keep old.decided;
  propagated = false;
}) (record derived { rec = record derived.rec { lines = derived.rec.lines ++ record { clause = lits; step = step.Learn hints } ∷ [] } }) begun after
learned_from theorems recorded old new derived begun moves number keep conflict lits hints sound false_one numbered learned is after noted =
    let lines = derived.rec.lines in
    let line : Line = record { clause = lits; step = step.Learn hints } in
    let entry : StepClause = record { step = number; literals = lits } in
    let search : SearchState = record old { clauses = old.clauses ++ entry ∷ []; trail = take learned.next.index old.trail; decided = take keep old.decided; propagated = false } in
    record {
      variables = is.variables;
      initial = is.initial;
      taught = is.taught ++ line ∷ [];
      in_order = in_order_with lines is.initial is.taught line is.in_order;
      long = is.long;
      are_initial = is.are_initial;
      are_taught = All-push (λ (l : Line). IsTaught l.step) is.taught line is.are_taught tt;
      numbered = StandAtSteps-line old.clauses lines number line numbered is.numbered;
      stored = λ clause h. stored_with old.clauses entry clause (is.stored clause h);
      replayed = λ e. subst (λ (ms : List Move). IsReplayed search is.initial (lines ++ line ∷ []) ms) (sym (noted e))
          (replayed_learned theorems old new is.initial lines moves number keep conflict lits hints sound false_one numbered learned (is.replayed e));
    }

pub IsAccounted-learned : UnitTheorems → (recorded : Bool) (old new : SearchState) (derived : Derived) (begun : ℕ) (moves : List Move) (number keep conflict : ℕ) (lits : Clause) (hints : List ℕ) → IsSound old → IsConflict old conflict → number ≡ length derived.rec.lines + 1 → LearnsClause old new number lits hints keep → IsAccounted recorded old derived begun moves → (after : List Move) → (recorded ≡ true → after ≡ moves ++ move.Learn number keep ∷ []) → IsAccounted recorded new (record derived { rec = record derived.rec { lines = derived.rec.lines ++ record { clause = lits; step = step.Learn hints } ∷ [] } }) begun after
IsAccounted-learned theorems recorded old new derived begun moves number keep conflict lits hints sound false_one numbered learned is after noted =
    subst (λ (s : SearchState). IsAccounted recorded s (record derived { rec = record derived.rec { lines = derived.rec.lines ++ record { clause = lits; step = step.Learn hints } ∷ [] } }) begun after)
    (sym learned.after) (learned_from theorems recorded old new derived begun moves number keep conflict lits hints sound false_one numbered learned is after noted)

-- the moves with a decision
replayed_decided : UnitTheorems → (search : SearchState) (initial lines : List Line) (moves : List Move) (t : TermId) → IsSound search → IsQuiet search → IsLowest search.variables (Contains search.trail) t → IsReplayed search initial lines moves → IsReplayed (with_decision search (negative_of t)) initial lines (moves ++ move.Decide t ∷ [])
replayed_decided theorems search initial lines moves t sound quiet lowest old =
    let after : Replay = record old.replay { decided = old.replay.decided ++ record { literal = negative_of t; valued = map (λ (k : Lit). k.term) search.trail } ∷ [] } in
    let counted_before = old.counted in
    record {
      replay = after;
      replays = IsReplayOf-decided search old.replay t sound old.replays;
      legal = AreLegal-push search.variables lines (first_state initial) old.replay after moves (move.Decide t) old.legal
          (decides theorems search old.replay t sound quiet old.replays lowest);
      counted = count-decision moves t ∙ ap (λ (n : ℕ). n + 1) counted_before;
    }

-- the lowest variable was decided
decided_one : UnitTheorems → (recorded : Bool) (search : SearchState) (derived : Derived) (begun : ℕ) (moves : List Move) (l : Lit) (new : SearchState) → IsSound search → IsQuiet search → (takes : Takes search new l) → IsAccounted recorded search derived begun moves → IsAccounted recorded (with_decision search (negative_of takes.variable)) derived begun (moves ++ move.Decide takes.variable ∷ [])
decided_one theorems recorded search derived begun moves l new sound quiet takes is = record {
  variables = is.variables;
  initial = is.initial;
  taught = is.taught;
  in_order = is.in_order;
  long = is.long;
  are_initial = is.are_initial;
  are_taught = is.are_taught;
  numbered = is.numbered;
  stored = is.stored;
  replayed = λ e. replayed_decided theorems search is.initial derived.rec.lines moves takes.variable sound quiet takes.lowest (is.replayed e);
}

pub IsAccounted-decided : UnitTheorems → (recorded : Bool) (search new : SearchState) (derived : Derived) (begun : ℕ) (moves : List Move) (l : Lit) → IsSound search → IsQuiet search → Takes search new l → IsAccounted recorded search derived begun moves → IsAccounted recorded new derived begun (moves ++ move.Decide l.term ∷ [])
IsAccounted-decided theorems recorded search new derived begun moves l sound quiet takes is =
    let step : IsAccounted recorded (with_decision search (negative_of takes.variable)) derived begun (moves ++ move.Decide takes.variable ∷ []) = decided_one theorems recorded search derived begun moves l new sound quiet takes is in
    let term : takes.variable ≡ l.term = sym (ap (λ (k : Lit). k.term) takes.negative) in
    let state : with_decision search (negative_of takes.variable) ≡ new = ap (with_decision search) (sym takes.negative) ∙ sym takes.step in
    subst (λ (s : SearchState). IsAccounted recorded s derived begun (moves ++ move.Decide l.term ∷ [])) state
    (subst (λ (t : TermId). IsAccounted recorded (with_decision search (negative_of takes.variable)) derived begun (moves ++ move.Decide t ∷ [])) term step)

-- a search over the initial lines that has done nothing
pub IsAccounted-begun : (recorded : Bool) (search : SearchState) (derived : Derived) (initial taught : List Line) (budget : ℕ) → derived.rec.lines ≡ initial ++ taught → AreInitialLines derived.declarations derived.rec.terms derived.asserts initial → All (λ (line : Line). IsTaught line.step) taught → AreVariables derived.rec.terms search.variables → clauses_in search.clauses ≡ clauses_of initial → StandAtSteps search.clauses (clauses_of derived.rec.lines) → search ≡ record (begun search.variables budget) { clauses = search.clauses; propagated = search.propagated } → IsAccounted recorded search derived (length initial) []
IsAccounted-begun recorded search derived initial taught budget in_order are_initial are_taught variables clauses numbered only_begun = record {
  variables = variables;
  initial = initial;
  taught = taught;
  in_order = in_order;
  long = refl;
  are_initial = are_initial;
  are_taught = are_taught;
  numbered = numbered;
  stored = λ clause h. subst (λ (cs : List Clause). Contains cs clause) (sym clauses) h;
  replayed = λ e. record {
    replay = first_state initial;
    replays = record {
      clauses = sym clauses;
      decided = sym (ap (λ (s : SearchState). map (λ (d : Decided). d.literal) s.decided) only_begun);
      valued = λ k choice d at stands. absurd (none-some choice at);
    };
    legal = refl;
    counted = sym (ap (λ (s : SearchState). s.count) only_begun);
  };
}

-- a search over a derivation that begins
pub IsAccounted-first : (search : SearchState) (derived : Derived) (budget : ℕ) → IsSearchOver derived budget search → IsBegunOver derived.declarations derived.rec.terms derived.asserts derived → IsAccounted true search derived (length derived.rec.lines) []
IsAccounted-first search derived budget over begun_is =
    IsAccounted-begun true search derived derived.rec.lines [] budget (sym (append-nil derived.rec.lines)) begun_is.lines (All-nil (λ (l : Line). IsTaught l.step)) over.variables over.clauses over.numbered over.only_begun
