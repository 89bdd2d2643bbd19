-- Searches that begin anew over the lines of a derivation that there is.
use Rattle.std.proofs.Common.{◌≡◌, ℕ, Bool, true, false, ◌+◌, ◌<◌, ◌≤◌, inl, inr, List, [], ◌∷◌, ◌++◌, length, take, drop, Option, None, Some, MatchOption, IfSome, slice_get, All, Contains, refl, sym, ap, subst, ◌∙◌, arith}
use Rattle.std.proofs.lemmas.List.{length-map, length-append, map-append, take_all, take-append-le, take-append-drop}
use Rattle.std.proofs.lemmas.Option.{slice_get_within}
use Rattle.std.proofs.lemmas.List.Elements.{Contains-push_cases}
use Rattle.ct_lemmas.proofs.Contained.{Contains-from_slice_get}
use Rattle.ct_lemmas.proofs.Each.{All-at}
use Rattle.ct_lemmas.proofs.Lists.{slice_get-append_left, slice_get-append_cases, slice_get-map_at}
use Rattle.ct_sorts.specs.Grown.{Begins}
use Rattle.ct_terms.specs.declared.ids.TermId.{TermId}
use Rattle.ct_terms.specs.declared.ids.Lit.{Lit}
use Rattle.ct_terms.specs.Clause.{Clause}
use Rattle.ct_terms.specs.Propagation.{IsNumbered}
use Rattle.ct_log.specs.declared.line.Line.{Line}
use Rattle.ct_log.specs.Acceptance.{clauses_of}
use Rattle.ct_log.specs.Recorded.{Derived}
use Rattle.ct_sat.specs.declared.clause.StepClause.{StepClause}
use Rattle.ct_sat.specs.declared.decided.Decided.{Decided}
use Rattle.ct_sat.specs.Up.{IsAssigned}
use Rattle.ct_sat.specs.State.{SearchState, IsFresh, literals_of, clauses_of as clauses_in}
use Rattle.ct_sat.specs.Decision.{Restarts}
use Rattle.ct_sat.specs.Learning.{StandAtSteps}
use Rattle.ct_engine.specs.declared.verdict.Move.{Move}
use Rattle.ct_engine.specs.declared.verdict.Move.TheVariants as move
use Rattle.ct_engine.specs.Moves.{Choice, Replay, IsTaught, Adds, first_state, decisions_of}
use Rattle.ct_engine.specs.Progress.{IsReplayOf, IsReplayed, IsAccounted, IsSearchOver, AreUpTo, TakesBack, beginning_of}
use Rattle.ct_engine.proofs.MoveLemmas.{AreLegal-push, count-addition}
use Rattle.ct_engine.proofs.ReplayLemmas.{IsReplayOf-added}
use Rattle.ct_engine.proofs.AccountLemmas.{IsAccounted-begun, stored_with}

-- there are as many lines as initial ones at least, and these are the first
pub begun_within : (recorded : Bool) (search : SearchState) (derived : Derived) (begun : ℕ) (moves : List Move) → IsAccounted recorded search derived begun moves → begun ≤ length derived.rec.lines
begun_within recorded search derived begun moves is =
    let long : length derived.rec.lines ≡ length is.initial + length is.taught = ap (λ (ls : List Line). length ls) is.in_order ∙ length-append is.initial is.taught in
    let same = is.long in
    omega arith

first_are : (lines initial taught : List Line) (begun : ℕ) → lines ≡ initial ++ taught → length initial ≡ begun → take begun lines ≡ initial
first_are lines initial taught begun is long =
    ap (λ (ls : List Line). take begun ls) is
    ∙ take-append-le begun initial taught (omega (arith, long))
    ∙ take_all begun initial (omega (arith, long))

-- clauses stand at their steps where more lines come
StandAtSteps-longer : (clauses : List StepClause) (lines more : List Line) → StandAtSteps clauses (clauses_of lines) → StandAtSteps clauses (clauses_of (lines ++ more))
StandAtSteps-longer clauses lines more stand c inside =
    let n = stand c inside in (
      n.0,
      n.1,
      subst (λ (cs : List Clause). slice_get cs n.0 ≡ Some c.literals) (sym (map-append (λ (l : Line). l.clause) lines more))
          (slice_get-append_left (clauses_of lines) (clauses_of more) n.0 c.literals n.2),
    )

-- their numbers go up to that of the lines
numbers_up_to : (clauses : List StepClause) (lines : List Line) (n : ℕ) → length lines ≡ n → StandAtSteps clauses (clauses_of lines) → AreUpTo clauses n
numbers_up_to clauses lines n long stand c inside =
    let at = stand c inside in
    let within : at.0 < length (clauses_of lines) = slice_get_within (clauses_of lines) at.0 c.literals at.2 in
    let count : length (clauses_of lines) ≡ length lines = length-map lines (λ (l : Line). l.clause) in
    let number : c.step ≡ at.0 + 1 = at.1 in
    omega (arith, long)

-- a search over the initial lines, which has done nothing
pub IsAccounted-again : (before recorded : Bool) (old search : SearchState) (derived : Derived) (begun : ℕ) (moves : List Move) (budget : ℕ) → IsAccounted before old derived begun moves → IsSearchOver (beginning_of derived begun) budget search → IsAccounted recorded search derived begun []
IsAccounted-again before recorded old search derived begun moves budget is over =
    let first = first_are derived.rec.lines is.initial is.taught begun is.in_order is.long in
    let numbered : StandAtSteps search.clauses (clauses_of is.initial) = subst (λ (ls : List Line). StandAtSteps search.clauses (clauses_of ls)) first over.numbered in
    subst (λ (n : ℕ). IsAccounted recorded search derived n []) is.long
    (IsAccounted-begun recorded search derived is.initial is.taught budget is.in_order is.are_initial is.are_taught over.variables
    (over.clauses ∙ ap clauses_of first)
    (subst (λ (ls : List Line). StandAtSteps search.clauses (clauses_of ls)) (sym is.in_order) (StandAtSteps-longer search.clauses is.initial is.taught numbered))
    over.only_begun)

pub again_up_to : (before : Bool) (old search : SearchState) (derived : Derived) (begun : ℕ) (moves : List Move) (budget : ℕ) → IsAccounted before old derived begun moves → IsSearchOver (beginning_of derived begun) budget search → AreUpTo search.clauses begun
again_up_to before old search derived begun moves budget is over =
    let first = first_are derived.rec.lines is.initial is.taught begun is.in_order is.long in
    numbers_up_to search.clauses is.initial begun is.long (subst (λ (ls : List Line). StandAtSteps search.clauses (clauses_of ls)) first over.numbered)

-- a line after the initial ones is taught
taught_past : (recorded : Bool) (search : SearchState) (derived : Derived) (begun : ℕ) (moves : List Move) (index : ℕ) (line : Line) → begun ≤ index → slice_get derived.rec.lines index ≡ Some line → IsAccounted recorded search derived begun moves → IsTaught line.step
taught_past recorded search derived begun moves index line past at is =
    let inside : slice_get (is.initial ++ is.taught) index ≡ Some line = subst (λ (ls : List Line). slice_get ls index ≡ Some line) is.in_order at in
    elim (slice_get-append_cases is.initial is.taught index line inside) [
      | inl early ↦ (let within = slice_get_within is.initial index line early in let long = is.long in absurd (omega (arith, past)))
      | inr late ↦ All-at (λ (l : Line). IsTaught l.step) is.taught late.0 line is.are_taught late.2
    ]

-- a number past all those of the clauses is new
pub fresh_past : (clauses : List StepClause) (last number : ℕ) → last < number → AreUpTo clauses last → IsFresh clauses number
fresh_past clauses last number past up_to c inside same =
    let below : c.step ≤ last = up_to c inside in
    absurd (omega (arith, past, same))

-- the numbers go up to that of a clause that is added
pub up_to_added : (clauses : List StepClause) (last number : ℕ) (clause : Clause) → last < number → AreUpTo clauses last → AreUpTo (clauses ++ record { step = number; literals = clause } ∷ []) number
up_to_added clauses last number clause past up_to c inside =
    elim (Contains-push_cases clauses (record { step = number; literals = clause }) c inside) [
      | inl old ↦ (let below : c.step ≤ last = up_to c old in omega (arith, past))
      | inr same ↦ (let e : number ≡ c.step = ap (λ (d : StepClause). d.step) same in omega (arith, e))
    ]

-- where no decision stands in the search, none does in its state
none_decided : (decided : List Choice) → decisions_of decided ≡ [] → decided ≡ []
none_decided [] is = refl
none_decided (c ∷ cs) is = let long : length (decisions_of (c ∷ cs)) ≡ 0 = ap (λ (ls : List Lit). length ls) is in absurd (omega (arith, long))

start_of : (search : SearchState) (replay : Replay) → IsReplayOf search replay → search.decided ≡ [] → replay.decided ≡ []
start_of search replay is none = none_decided replay.decided (is.decided ∙ ap (λ (ds : List Decided). literals_of ds) none)

-- the moves with that of a line that stands, while no decision does
replayed_again : (search : SearchState) (initial lines : List Line) (moves : List Move) (number index : ℕ) (line : Line) → number ≡ index + 1 → slice_get lines index ≡ Some line → IsTaught line.step → search.decided ≡ [] → IsReplayed search initial lines moves → IsReplayed (record search { clauses = search.clauses ++ record { step = number; literals = line.clause } ∷ []; propagated = false }) initial lines (moves ++ move.Add number ∷ [])
replayed_again search initial lines moves number index line numbered at taught none old =
    let after : Replay = record old.replay { clauses = old.replay.clauses ++ line.clause ∷ [] } in
    let adds : Adds lines old.replay number after = record {
      line = line;
      stands = (index, numbered, at);
      taught = taught;
      allowed = inl (start_of search old.replay old.replays none);
      after = refl;
    } in
    record {
      replay = after;
      replays = IsReplayOf-added search old.replay number line.clause old.replays;
      legal = AreLegal-push search.variables lines (first_state initial) old.replay after moves (move.Add number) old.legal adds;
      counted = count-addition moves number ∙ old.counted;
    }

-- the clause of a line that stands was added, while no decision did
pub IsAccounted-added_again : (recorded : Bool) (search : SearchState) (derived : Derived) (begun : ℕ) (moves : List Move) (number index : ℕ) (line : Line) → number ≡ index + 1 → begun ≤ index → slice_get derived.rec.lines index ≡ Some line → search.decided ≡ [] → IsAccounted recorded search derived begun moves → (after : List Move) → (recorded ≡ true → after ≡ moves ++ move.Add number ∷ []) → IsAccounted recorded (record search { clauses = search.clauses ++ record { step = number; literals = line.clause } ∷ []; propagated = false }) derived begun after
IsAccounted-added_again recorded search derived begun moves number index line numbered past at none is after noted =
    let lines = derived.rec.lines in
    let new : StepClause = record { step = number; literals = line.clause } in
    let taught = taught_past recorded search derived begun moves index line past at is in
    record {
      variables = is.variables;
      initial = is.initial;
      taught = is.taught;
      in_order = is.in_order;
      long = is.long;
      are_initial = is.are_initial;
      are_taught = is.are_taught;
      numbered = λ c inside. elim (Contains-push_cases search.clauses new c inside) [
        | inl old ↦ is.numbered c old
        | inr same ↦ subst (λ (x : StepClause). IsNumbered (clauses_of lines) x.step x.literals) same (index, numbered, slice_get-map_at (λ (l : Line). l.clause) lines index line at)
      ];
      stored = λ clause h. stored_with search.clauses new clause (is.stored clause h);
      replayed = λ e. subst (λ (ms : List Move). IsReplayed (record search { clauses = search.clauses ++ new ∷ []; propagated = false }) is.initial lines ms) (sym (noted e))
          (replayed_again search is.initial lines moves number index line numbered at taught none (is.replayed e));
    }

-- a restart takes back some decision
pub took_back : (old new : SearchState) → Restarts old new → TakesBack old new
took_back old new went =
    let within : 0 < length old.decided = slice_get_within old.decided 0 went.first went.stands in
    let none : length new.decided ≡ 0 = ap (λ (s : SearchState). length s.decided) went.after in
    record { counted = ap (λ (s : SearchState). s.count) went.after; fewer = omega (arith, within, none) }

-- and cuts the trail
pub taken_trail : (old new : SearchState) → Restarts old new → Begins new.trail old.trail
taken_trail old new went =
    let n = went.first.index in
    let is : new.trail ≡ take n old.trail = ap (λ (s : SearchState). s.trail) went.after in
    (drop n old.trail, sym (take-append-drop n old.trail) ∙ ap (λ (ls : List Lit). ls ++ drop n old.trail) (sym is))

-- a variable without a value at a place is one of the variables
pub unset_variables : (variables : List TermId) (trail : List Lit) (place : ℕ) (r : Option TermId) → MatchOption r ((t : TermId) → slice_get variables place ≡ Some t → IsAssigned (Contains trail) t) (λ t. (slice_get variables place ≡ Some t) × (IsAssigned (Contains trail) t → ⊥)) → IfSome r (λ t. Contains variables t × (IsAssigned (Contains trail) t → ⊥))
unset_variables variables trail place None h = tt
unset_variables variables trail place (Some t) h = (Contains-from_slice_get variables place t h.0, h.1)
