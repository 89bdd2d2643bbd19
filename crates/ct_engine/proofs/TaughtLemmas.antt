-- A clause that is added while no decision stands: the search stays accounted for.
use Rattle.std.proofs.Common.{◌≡◌, ℕ, Bool, true, false, ◌+◌, inl, List, [], ◌∷◌, ◌++◌, length, All, Contains, refl, sym, ap, subst, ◌∙◌, arith}
use Rattle.std.proofs.lemmas.List.Elements.{All-push, All-weaker}
use Rattle.ct_terms.specs.declared.ids.TermId.{TermId}
use Rattle.ct_terms.specs.declared.ids.Lit.{Lit}
use Rattle.ct_terms.specs.Literal.{IsStripped}
use Rattle.ct_terms.specs.Clause.{Clause}
use Rattle.ct_terms.specs.Terms.{Terms}
use Rattle.ct_log.specs.declared.line.Line.{Line}
use Rattle.ct_log.specs.Recorded.{Derived}
use Rattle.ct_sat.specs.declared.clause.StepClause.{StepClause}
use Rattle.ct_sat.specs.declared.decided.Decided.{Decided}
use Rattle.ct_sat.specs.State.{SearchState, AreVariables, AreOver, literals_of}
use Rattle.ct_engine.specs.declared.verdict.Move.{Move}
use Rattle.ct_engine.specs.declared.verdict.Move.TheVariants as move
use Rattle.ct_engine.specs.Moves.{Choice, Replay, IsTaught, Adds, first_state, decisions_of}
use Rattle.ct_engine.specs.Progress.{IsAccounted, IsReplayed, IsReplayOf}
use Rattle.ct_engine.proofs.MoveLemmas.{IsLineWith-last, AreLegal-longer, AreLegal-push, count-addition, StandAtSteps-line}
use Rattle.ct_engine.proofs.ReplayLemmas.{IsReplayOf-added}
use Rattle.ct_engine.proofs.AccountLemmas.{in_order_with, stored_with}

-- literals over Boolean terms that are no negations are over the variables
pub over_stripped : (terms : Terms) (variables : List TermId) (clause : Clause) → AreVariables terms variables → All (λ l. IsStripped terms l.term) clause → AreOver variables clause
over_stripped terms variables clause are stripped =
    All-weaker (λ (l : Lit). IsStripped terms l.term) (λ (l : Lit). Contains variables l.term) (λ l h. are.each l.term h) clause stripped

-- where no decision stands in the search, none does in its state
none_decided : (decided : List Choice) → decisions_of decided ≡ [] → decided ≡ []
none_decided [] is = refl
none_decided (c ∷ decided) is =
    let long : length (decisions_of (c ∷ decided)) ≡ 0 = ap (λ (ls : List Lit). length ls) is in
    absurd (omega (arith, long))

pub start_of : (search : SearchState) (replay : Replay) → IsReplayOf search replay → search.decided ≡ [] → replay.decided ≡ []
start_of search replay is none =
    none_decided replay.decided (is.decided ∙ ap (λ (ds : List Decided). literals_of ds) none)

-- the moves with that of the next line
replayed_taught : (search : SearchState) (initial lines : List Line) (moves : List Move) (number : ℕ) (line : Line) → number ≡ length lines + 1 → IsTaught line.step → search.decided ≡ [] → IsReplayed search initial lines moves → IsReplayed (record search { clauses = search.clauses ++ record { step = number; literals = line.clause } ∷ []; propagated = false }) initial (lines ++ line ∷ []) (moves ++ move.Add number ∷ [])
replayed_taught search initial lines moves number line numbered taught none old =
    let after : Replay = record old.replay { clauses = old.replay.clauses ++ line.clause ∷ [] } in
    let adds : Adds (lines ++ line ∷ []) old.replay number after = record {
      line = line;
      stands = IsLineWith-last lines number line numbered;
      taught = taught;
      allowed = inl (start_of search old.replay old.replays none);
      after = refl;
    } in
    record {
      replay = after;
      replays = IsReplayOf-added search old.replay number line.clause old.replays;
      legal = AreLegal-push search.variables (lines ++ line ∷ []) (first_state initial) old.replay after moves (move.Add number)
          (AreLegal-longer search.variables lines (line ∷ []) (first_state initial) old.replay moves old.legal)
          adds;
      counted = count-addition moves number ∙ old.counted;
    }

-- the clause of the next line was added while no decision stood
pub IsAccounted-taught : (recorded : Bool) (search : SearchState) (derived : Derived) (begun : ℕ) (moves : List Move) (number : ℕ) (line : Line) → number ≡ length derived.rec.lines + 1 → IsTaught line.step → search.decided ≡ [] → IsAccounted recorded search derived begun moves → (after : List Move) → (recorded ≡ true → after ≡ moves ++ move.Add number ∷ []) → IsAccounted recorded (record search { clauses = search.clauses ++ record { step = number; literals = line.clause } ∷ []; propagated = false }) (record derived { rec = record derived.rec { lines = derived.rec.lines ++ line ∷ [] } }) begun after
IsAccounted-taught recorded search derived begun moves number line numbered taught none is after noted =
    let lines = derived.rec.lines in
    let new : StepClause = record { step = number; literals = line.clause } in
    record {
      variables = is.variables;
      initial = is.initial;
      taught = is.taught ++ line ∷ [];
      in_order = in_order_with lines is.initial is.taught line is.in_order;
      long = is.long;
      are_initial = is.are_initial;
      are_taught = All-push (λ (l : Line). IsTaught l.step) is.taught line is.are_taught taught;
      numbered = StandAtSteps-line search.clauses lines number line numbered is.numbered;
      stored = λ clause h. stored_with search.clauses new clause (is.stored clause h);
      replayed = λ e. subst (λ (ms : List Move). IsReplayed (record search { clauses = search.clauses ++ new ∷ []; propagated = false }) is.initial (lines ++ line ∷ []) ms) (sym (noted e))
          (replayed_taught search is.initial lines moves number line numbered taught none (is.replayed e));
    }
