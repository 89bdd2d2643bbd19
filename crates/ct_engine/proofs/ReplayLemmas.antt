-- States of a search, and what each move makes of them.
use Rattle.std.proofs.Common.{◌≡◌, ℕ, Bool, false, ◌+◌, ◌<◌, ◌⊎◌, inl, inr, List, [], ◌∷◌, ◌++◌, length, take, map, Some, slice_get, All, Contains, refl, sym, ap, subst, ◌∙◌, arith}
use Rattle.std.proofs.lemmas.List.{length-map, map-append, take-map, take-append-le, take-take}
use Rattle.std.proofs.lemmas.Option.{slice_get_within}
use Rattle.std.proofs.lemmas.List.Elements.{All-weaker}
use Rattle.ct_lemmas.proofs.Each.{All-at}
use Rattle.ct_lemmas.proofs.Lists.{slice_get-push_cases, slice_get-there}
use Rattle.ct_lemmas.proofs.Prefixes.{slice_get-take, slice_get-take_below}
use Rattle.ct_terms.specs.declared.ids.TermId.{TermId}
use Rattle.ct_terms.specs.declared.ids.Lit.{Lit}
use Rattle.ct_terms.specs.Literal.{opposite}
use Rattle.ct_terms.specs.Clause.{Clause}
use Rattle.ct_terms.specs.Propagation.{IsFalseIn}
use Rattle.ct_log.specs.declared.line.Line.{Line}
use Rattle.ct_log.specs.declared.line.Step.TheVariants as step
use Rattle.ct_sat.specs.declared.clause.StepClause.{StepClause}
use Rattle.ct_sat.specs.declared.decided.Decided.{Decided}
use Rattle.ct_sat.specs.Up.{Up, IsContradictory, IsLowest, negative_of}
use Rattle.ct_sat.specs.State.{SearchState, clauses_of as clauses_in, literals_of, IsSound, IsConflict, IsQuiet}
use Rattle.ct_sat.specs.Decision.{with_decision}
use Rattle.ct_sat.specs.Learning.{LearnsClause}
use Rattle.ct_engine.specs.Moves.{Choice, Replay, FollowsIn, AreAssigned, IsTaught, Decides, Adds, Learns, decisions_of}
use Rattle.ct_engine.specs.Progress.{IsReplayOf}
use Rattle.ct_engine.specs.Theorems.{UnitTheorems}
use Rattle.ct_engine.proofs.ListLemmas.{take-push}
use Rattle.ct_engine.proofs.ValuedLemmas.{AreValued-same, valued_terms}
use Rattle.ct_engine.proofs.MoveLemmas.{IsLineWith-last}

-- what holds of the clauses and decisions of a search does of those of its state
pub in_replay : (search : SearchState) (replay : Replay) (P : List Clause → List Lit → Type 0) → IsReplayOf search replay → P (clauses_in search.clauses) (literals_of search.decided) → P replay.clauses (decisions_of replay.decided)
in_replay search replay P is h =
    subst (λ (ds : List Lit). P replay.clauses ds) (sym is.decided) (subst (λ (cs : List Clause). P cs (literals_of search.decided)) (sym is.clauses) h)

-- and the other way round
pub from_replay : (search : SearchState) (replay : Replay) (P : List Clause → List Lit → Type 0) → IsReplayOf search replay → P replay.clauses (decisions_of replay.decided) → P (clauses_in search.clauses) (literals_of search.decided)
from_replay search replay P is h =
    subst (λ (cs : List Clause). P cs (literals_of search.decided)) is.clauses (subst (λ (ds : List Lit). P replay.clauses ds) is.decided h)

-- there are as many decisions in the state
decided_long : (search : SearchState) (replay : Replay) → IsReplayOf search replay → length replay.decided ≡ length search.decided
decided_long search replay is =
    sym (length-map replay.decided (λ (c : Choice). c.literal)) ∙ ap (λ (ls : List Lit). length ls) is.decided ∙ length-map search.decided (λ (d : Decided). d.literal)

-- a decision stands at an index of the trail
decided_within : (search : SearchState) (k : ℕ) (d : Decided) → IsSound search → slice_get search.decided k ≡ Some d → d.index < length search.trail
decided_within search k d sound stands =
    slice_get_within search.trail d.index d.literal (All-at (λ (e : Decided). slice_get search.trail e.index ≡ Some e.literal) search.decided k d sound.decisions.stand stands)

-- a search whose trail grew at its end has the same state
pub IsReplayOf-appended : (search : SearchState) (more : List Lit) (propagated : Bool) (replay : Replay) → IsSound search → IsReplayOf search replay → IsReplayOf (record search { trail = search.trail ++ more; propagated = propagated }) replay
IsReplayOf-appended search more propagated replay sound is = record {
  clauses = is.clauses;
  decided = is.decided;
  valued = λ k choice d at stands.
      let within : d.index < length search.trail = decided_within search k d sound stands in
      let part : take d.index (search.trail ++ more) ≡ take d.index search.trail = take-append-le d.index search.trail more (omega arith) in
      subst (λ (trail : List Lit). AreAssigned search.variables (Contains trail) choice.valued) (sym part) (is.valued k choice d at stands);
}

-- a search with one more clause has the state with this clause
clauses_with : (search : SearchState) (replay : Replay) (step : ℕ) (clause : Clause) → IsReplayOf search replay → replay.clauses ++ clause ∷ [] ≡ clauses_in (search.clauses ++ record { step = step; literals = clause } ∷ [])
clauses_with search replay step clause is =
    let new : StepClause = record { step = step; literals = clause } in
    ap (λ (cs : List Clause). cs ++ clause ∷ []) is.clauses ∙ sym (map-append (λ (c : StepClause). c.literals) search.clauses (new ∷ []))

pub IsReplayOf-added : (search : SearchState) (replay : Replay) (step : ℕ) (clause : Clause) → IsReplayOf search replay → IsReplayOf (record search { clauses = search.clauses ++ record { step = step; literals = clause } ∷ []; propagated = false }) (record replay { clauses = replay.clauses ++ clause ∷ [] })
IsReplayOf-added search replay step clause is = record {
  clauses = clauses_with search replay step clause is;
  decided = is.decided;
  valued = is.valued;
}

-- a clause whose literals are false in the trail may be added
pub adds : UnitTheorems → (search : SearchState) (replay : Replay) (lines : List Line) (number : ℕ) (line : Line) → IsSound search → IsReplayOf search replay → number ≡ length lines + 1 → IsTaught line.step → All (λ l. Contains search.trail (opposite l)) line.clause → Adds (lines ++ line ∷ []) replay number (record replay { clauses = replay.clauses ++ line.clause ∷ [] })
adds theorems search replay lines number line sound is numbered taught false_ones = record {
  line = line;
  stands = IsLineWith-last lines number line numbered;
  taught = taught;
  allowed = inr (All-weaker (λ (l : Lit). Contains search.trail (opposite l)) (λ (l : Lit). FollowsIn replay (opposite l))
      (λ l h. in_replay search replay (λ cs ds. Up cs ds (opposite l)) is (theorems.trail search (opposite l) sound h)) line.clause false_ones);
  after = refl;
}

-- the state after the lowest variable was made false
pub IsReplayOf-decided : (search : SearchState) (replay : Replay) (t : TermId) → IsSound search → IsReplayOf search replay → IsReplayOf (with_decision search (negative_of t)) (record replay { decided = replay.decided ++ record { literal = negative_of t; valued = map (λ (l : Lit). l.term) search.trail } ∷ [] })
IsReplayOf-decided search replay t sound is = record {
  clauses = is.clauses;
  decided = map-append (λ (c : Choice). c.literal) replay.decided (choice ∷ [])
      ∙ ap (λ (ls : List Lit). ls ++ negative_of t ∷ []) is.decided
      ∙ sym (map-append (λ (d : Decided). d.literal) search.decided (decision ∷ []));
  valued = λ k c d at stands. by k c d (slice_get-push_cases replay.decided choice c k at) (slice_get-push_cases search.decided decision d k stands);
}
  where
    choice : Choice
    choice = record { literal = negative_of t; valued = map (λ (l : Lit). l.term) search.trail }

    decision : Decided
    decision = record { literal = negative_of t; index = length search.trail }

    long : length replay.decided ≡ length search.decided
    long = decided_long search replay is

    by : (k : ℕ) (c : Choice) (d : Decided) → (slice_get replay.decided k ≡ Some c) ⊎ ((k ≡ length replay.decided) × (choice ≡ c)) → (slice_get search.decided k ≡ Some d) ⊎ ((k ≡ length search.decided) × (decision ≡ d)) → AreAssigned search.variables (Contains (take d.index (search.trail ++ negative_of t ∷ []))) c.valued
    by k c d (inl at) (inl stands) =
        let within : d.index < length search.trail = decided_within search k d sound stands in
        let part : take d.index (search.trail ++ negative_of t ∷ []) ≡ take d.index search.trail = take-append-le d.index search.trail (negative_of t ∷ []) (omega arith) in
        subst (λ (trail : List Lit). AreAssigned search.variables (Contains trail) c.valued) (sym part) (is.valued k c d at stands)
    by k c d (inl at) (inr last) =
        let within : k < length replay.decided = slice_get_within replay.decided k c at in
        let same : k ≡ length search.decided = last.0 in
        let counted = long in
        absurd (omega arith)
    by k c d (inr last) (inl stands) =
        let within : k < length search.decided = slice_get_within search.decided k d stands in
        let same : k ≡ length replay.decided = last.0 in
        let counted = long in
        absurd (omega arith)
    by k c d (inr one) (inr other) =
        let exact = valued_terms search.variables search.trail sound.trail_over in
        let part : take (length search.trail) (search.trail ++ negative_of t ∷ []) ≡ search.trail = take-push search.trail (negative_of t) in
        let whole : AreAssigned search.variables (Contains (take (length search.trail) (search.trail ++ negative_of t ∷ []))) choice.valued =
        subst (λ (trail : List Lit). AreAssigned search.variables (Contains trail) choice.valued) (sym part) exact in
        let with_choice : AreAssigned search.variables (Contains (take decision.index (search.trail ++ negative_of t ∷ []))) c.valued =
        subst (λ (x : Choice). AreAssigned search.variables (Contains (take decision.index (search.trail ++ negative_of t ∷ []))) x.valued) one.1 whole in
        subst (λ (x : Decided). AreAssigned search.variables (Contains (take x.index (search.trail ++ negative_of t ∷ []))) c.valued) other.1 with_choice

-- the lowest variable may be decided
pub decides : UnitTheorems → (search : SearchState) (replay : Replay) (t : TermId) → IsSound search → IsQuiet search → IsReplayOf search replay → IsLowest search.variables (Contains search.trail) t → Decides search.variables replay t (record replay { decided = replay.decided ++ record { literal = negative_of t; valued = map (λ (l : Lit). l.term) search.trail } ∷ [] })
decides theorems search replay t sound quiet is lowest = record {
  consistent = λ bad. theorems.quiet search quiet (from_replay search replay (λ cs ds. IsContradictory cs (Up cs ds)) is bad);
  lowest = in_replay search replay (λ cs ds. IsLowest search.variables (Up cs ds) t) is (theorems.lowest search search.variables t quiet lowest);
  valued = map (λ (l : Lit). l.term) search.trail;
  exact = AreValued-same search.variables (Contains search.trail) (FollowsIn replay) (map (λ (l : Lit). l.term) search.trail)
      (λ l h. in_replay search replay (λ cs ds. Up cs ds l) is (quiet.follows l h))
      (λ l h. quiet.complete l (from_replay search replay (λ cs ds. Up cs ds l) is h))
      (valued_terms search.variables search.trail sound.trail_over);
  after = refl;
}

-- the state after a clause was learned
pub IsReplayOf-learned : (search : SearchState) (replay : Replay) (number keep : ℕ) (lits : Clause) (next : Decided) → IsSound search → slice_get search.decided keep ≡ Some next → IsReplayOf search replay → IsReplayOf (record search {
  clauses = search.clauses ++ record { step = number; literals = lits } ∷ [];
  trail = take next.index search.trail;
  decided = take keep search.decided;
  propagated = false;
}) (record { clauses = replay.clauses ++ lits ∷ []; decided = take keep replay.decided })
IsReplayOf-learned search replay number keep lits next sound stands is = record {
  clauses = clauses_with search replay number lits is;
  decided = sym (take-map (λ (c : Choice). c.literal) keep replay.decided) ∙ ap (λ (ls : List Lit). take keep ls) is.decided ∙ take-map (λ (d : Decided). d.literal) keep search.decided;
  valued = λ k choice d at there.
      let below : k < keep = slice_get-take_below keep search.decided k d there in
      let before : slice_get search.decided k ≡ Some d = slice_get-take keep search.decided k d there in
      let earlier : d.index < next.index = sound.decisions.in_order k keep d next below before stands in
      let part : take d.index (take next.index search.trail) ≡ take d.index search.trail = take-take d.index next.index search.trail (omega arith) in
      subst (λ (trail : List Lit). AreAssigned search.variables (Contains trail) choice.valued) (sym part)
      (is.valued k choice d (slice_get-take keep replay.decided k choice at) before);
}

-- the clause may be learned
pub learns : UnitTheorems → (old new : SearchState) (replay : Replay) (lines : List Line) (number keep conflict : ℕ) (lits : Clause) (hints : List ℕ) → IsSound old → IsConflict old conflict → IsReplayOf old replay → number ≡ length lines + 1 → LearnsClause old new number lits hints keep → Learns (lines ++ record { clause = lits; step = step.Learn hints } ∷ []) replay number keep (record { clauses = replay.clauses ++ lits ∷ []; decided = take keep replay.decided })
learns theorems old new replay lines number keep conflict lits hints sound false_one is numbered learned =
    let within : keep < length old.decided = slice_get_within old.decided keep learned.next learned.stands in
    let long = decided_long old replay is in
    let choice = slice_get-there replay.decided keep (omega (arith, within, long)) in
    record {
      line = record { clause = lits; step = step.Learn hints };
      stands = IsLineWith-last lines number (record { clause = lits; step = step.Learn hints }) numbered;
      learning = tt;
      contradictory = in_replay old replay (λ cs ds. IsContradictory cs (Up cs ds)) is (theorems.conflict old conflict sound false_one);
      next = choice.0;
      undone = choice.1;
      asserted = learned.asserted;
      inside = learned.asserting.inside;
      unset = λ h. learned.asserting.unset (((is.valued keep choice.0 learned.next choice.1 learned.stands) learned.asserted.term).0 h).1;
      others_false = All-weaker (λ (l : Lit). (l ≡ learned.asserted) ⊎ IsFalseIn (take learned.next.index old.trail) l)
          (λ (l : Lit). (l ≡ learned.asserted) ⊎ Up replay.clauses (decisions_of (take keep replay.decided)) (opposite l))
          (λ l h. elim h [
            | inl same ↦ inl same
            | inr other ↦ inr (kept (opposite l) (theorems.prefix old keep learned.next (opposite l) sound learned.stands other))
          ]) lits learned.asserting.others_false;
      after = refl;
    }
  where
    kept_decisions : decisions_of (take keep replay.decided) ≡ literals_of (take keep old.decided)
    kept_decisions = sym (take-map (λ (c : Choice). c.literal) keep replay.decided) ∙ ap (λ (ls : List Lit). take keep ls) is.decided ∙ take-map (λ (d : Decided). d.literal) keep old.decided

    kept : (l : Lit) → Up (clauses_in old.clauses) (literals_of (take keep old.decided)) l → Up replay.clauses (decisions_of (take keep replay.decided)) l
    kept l h =
        subst (λ (ds : List Lit). Up replay.clauses ds l) (sym kept_decisions) (subst (λ (cs : List Clause). Up cs (literals_of (take keep old.decided)) l) (sym is.clauses) h)
