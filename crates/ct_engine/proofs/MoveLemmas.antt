-- Moves: they stay legal as lines are added, and one more may be made after them.
use Rattle.std.proofs.Common.{◌≡◌, ℕ, ◌+◌, ◌<◌, inl, inr, List, [], ◌∷◌, ◌++◌, length, take, get_or, cond, refl, sym, ap, subst, ◌∙◌, arith}
use Rattle.std.specs.List.{count_by}
use Rattle.std.proofs.lemmas.List.{length-map, map-append, take_more, length-take-le}
use Rattle.std.proofs.Math.Nat.{add-zero}
use Rattle.std.proofs.lemmas.List.Sums.{sum_by-append}
use Rattle.std.proofs.lemmas.List.Elements.{Contains-push_cases}
use Rattle.std.proofs.lemmas.Option.{slice_get_within}
use Rattle.ct_lemmas.proofs.Lists.{slice_get-append_left, slice_get-last}
use Rattle.ct_terms.specs.declared.ids.TermId.{TermId}
use Rattle.ct_terms.specs.Clause.{Clause}
use Rattle.ct_log.specs.declared.line.Line.{Line}
use Rattle.ct_log.specs.Acceptance.{clauses_of}
use Rattle.ct_sat.specs.declared.clause.StepClause.{StepClause}
use Rattle.ct_sat.specs.Learning.{StandAtSteps}
use Rattle.ct_sat.specs.State.{IsFresh, clauses_of as clauses_in}
use Rattle.ct_terms.specs.Propagation.{IsNumbered}
use Rattle.ct_engine.specs.declared.verdict.Move.{Move}
use Rattle.ct_engine.specs.declared.verdict.Move.TheVariants as move
use Rattle.ct_engine.specs.Moves.{Replay, IsLineWith, IsLegal, AreLegal, is_decision}

-- a line keeps its number as lines are added
IsLineWith-longer : (lines more : List Line) (number : ℕ) (line : Line) → IsLineWith lines number line → IsLineWith (lines ++ more) number line
IsLineWith-longer lines more number line (index, is, stands) = (index, is, slice_get-append_left lines more index line stands)

-- the last line has the number of the lines
pub IsLineWith-last : (lines : List Line) (number : ℕ) (line : Line) → number ≡ length lines + 1 → IsLineWith (lines ++ line ∷ []) number line
IsLineWith-last lines number line is = (length lines, is, slice_get-last lines line)

-- a move stays legal as lines are added
IsLegal-longer : (variables : List TermId) (lines more : List Line) (old new : Replay) (m : Move) → IsLegal variables lines old m new → IsLegal variables (lines ++ more) old m new
IsLegal-longer variables lines more old new (move.Decide t) legal = legal
IsLegal-longer variables lines more old new (move.Add number) legal = record {
  line = legal.line;
  stands = IsLineWith-longer lines more number legal.line legal.stands;
  taught = legal.taught;
  allowed = legal.allowed;
  after = legal.after;
}
IsLegal-longer variables lines more old new (move.Learn number keep) legal = record {
  line = legal.line;
  stands = IsLineWith-longer lines more number legal.line legal.stands;
  learning = legal.learning;
  contradictory = legal.contradictory;
  next = legal.next;
  undone = legal.undone;
  asserted = legal.asserted;
  inside = legal.inside;
  unset = legal.unset;
  others_false = legal.others_false;
  after = legal.after;
}

-- and so do all moves
pub AreLegal-longer : (variables : List TermId) (lines more : List Line) (old new : Replay) (moves : List Move) → AreLegal variables lines old moves new → AreLegal variables (lines ++ more) old moves new
AreLegal-longer variables lines more old new [] legal = legal
AreLegal-longer variables lines more old new (m ∷ moves) (middle, first, rest) =
    (middle, IsLegal-longer variables lines more old middle m first, AreLegal-longer variables lines more middle new moves rest)

-- one more legal move after legal ones
pub AreLegal-push : (variables : List TermId) (lines : List Line) (old middle new : Replay) (moves : List Move) (m : Move) → AreLegal variables lines old moves middle → IsLegal variables lines middle m new → AreLegal variables lines old (moves ++ m ∷ []) new
AreLegal-push variables lines old middle new [] m legal last = (new, subst (λ (r : Replay). IsLegal variables lines r m new) legal last, refl)
AreLegal-push variables lines old middle new (k ∷ moves) m (next, first, rest) last =
    (next, first, AreLegal-push variables lines next middle new moves m rest last)

-- a last move that decides is counted, and another is not
pub count-decision : (moves : List Move) (t : TermId) → count_by is_decision (moves ++ move.Decide t ∷ []) ≡ count_by is_decision moves + 1
count-decision moves t = sum_by-append (λ (m : Move). cond (is_decision m) 1 0) moves (move.Decide t ∷ [])

pub count-addition : (moves : List Move) (n : ℕ) → count_by is_decision (moves ++ move.Add n ∷ []) ≡ count_by is_decision moves
count-addition moves n = sum_by-append (λ (m : Move). cond (is_decision m) 1 0) moves (move.Add n ∷ []) ∙ add-zero (count_by is_decision moves)

pub count-learning : (moves : List Move) (n k : ℕ) → count_by is_decision (moves ++ move.Learn n k ∷ []) ≡ count_by is_decision moves
count-learning moves n k = sum_by-append (λ (m : Move). cond (is_decision m) 1 0) moves (move.Learn n k ∷ []) ∙ add-zero (count_by is_decision moves)

-- the clauses of the lines with one more
pub clauses-push : (lines : List Line) (line : Line) → clauses_of (lines ++ line ∷ []) ≡ clauses_of lines ++ line.clause ∷ []
clauses-push lines line = map-append (λ (l : Line). l.clause) lines (line ∷ [])

-- clauses stand at their steps, and one more does in a longer list
pub StandAtSteps-push : (clauses : List StepClause) (all : List Clause) (step : ℕ) (clause : Clause) → step ≡ length all + 1 → StandAtSteps clauses all → StandAtSteps (clauses ++ record { step = step; literals = clause } ∷ []) (all ++ clause ∷ [])
StandAtSteps-push clauses all step clause is stand c inside =
    let new : StepClause = record { step = step; literals = clause } in
    elim (Contains-push_cases clauses new c inside) [
      | inl before ↦ (let n = stand c before in (n.0, n.1, slice_get-append_left all (clause ∷ []) n.0 c.literals n.2))
      | inr same ↦ subst (λ (x : StepClause). IsNumbered (all ++ clause ∷ []) x.step x.literals) same (length all, is, slice_get-last all clause)
    ]

-- no clause has the next number
pub fresh_next : (clauses : List StepClause) (all : List Clause) (step : ℕ) → step ≡ length all + 1 → StandAtSteps clauses all → IsFresh clauses step
fresh_next clauses all step is stand c inside same =
    let n = stand c inside in
    let within : n.0 < length all = slice_get_within all n.0 c.literals n.2 in
    let number : c.step ≡ n.0 + 1 = n.1 in
    absurd (omega (arith, same, is))

-- the same, by the lines
pub fresh_line : (clauses : List StepClause) (lines : List Line) (step : ℕ) → step ≡ length lines + 1 → StandAtSteps clauses (clauses_of lines) → IsFresh clauses step
fresh_line clauses lines step is stand =
    fresh_next clauses (clauses_of lines) step (is ∙ ap (λ (n : ℕ). n + 1) (sym (length-map lines (λ (l : Line). l.clause)))) stand

pub StandAtSteps-line : (clauses : List StepClause) (lines : List Line) (step : ℕ) (line : Line) → step ≡ length lines + 1 → StandAtSteps clauses (clauses_of lines) → StandAtSteps (clauses ++ record { step = step; literals = line.clause } ∷ []) (clauses_of (lines ++ line ∷ []))
StandAtSteps-line clauses lines step line is stand =
    subst (StandAtSteps (clauses ++ record { step = step; literals = line.clause } ∷ [])) (sym (clauses-push lines line))
    (StandAtSteps-push clauses (clauses_of lines) step line.clause (is ∙ ap (λ (n : ℕ). n + 1) (sym (length-map lines (λ (l : Line). l.clause)))) stand)

-- the clauses of one line more are added under its number
pub clauses-line : (clauses : List StepClause) (lines : List Line) (i : ℕ) (d : Line) → i < length lines → clauses_in clauses ≡ clauses_of (take i lines) → clauses_in (clauses ++ record { step = i + 1; literals = (get_or lines i d).clause } ∷ []) ≡ clauses_of (take (i + 1) lines)
clauses-line clauses lines i d within same =
    let line : Line = get_or lines i d in
    let new : StepClause = record { step = i + 1; literals = line.clause } in
    let grown : take (i + 1) lines ≡ take i lines ++ line ∷ [] = take_more lines i d within in
    map-append (λ (c : StepClause). c.literals) clauses (new ∷ [])
    ∙ ap (λ (cs : List Clause). cs ++ line.clause ∷ []) same
    ∙ sym (clauses-push (take i lines) line)
    ∙ ap (λ (ls : List Line). clauses_of ls) (sym grown)

pub numbered-line : (clauses : List StepClause) (lines : List Line) (i : ℕ) (d : Line) → i < length lines → StandAtSteps clauses (clauses_of (take i lines)) → StandAtSteps (clauses ++ record { step = i + 1; literals = (get_or lines i d).clause } ∷ []) (clauses_of (take (i + 1) lines))
numbered-line clauses lines i d within stand =
    let line : Line = get_or lines i d in
    let grown : take (i + 1) lines ≡ take i lines ++ line ∷ [] = take_more lines i d within in
    let long : length (take i lines) ≡ i = length-take-le i lines (omega arith) in
    subst (λ (ls : List Line). StandAtSteps (clauses ++ record { step = i + 1; literals = line.clause } ∷ []) (clauses_of ls)) (sym grown)
    (StandAtSteps-line clauses (take i lines) (i + 1) line (ap (λ (n : ℕ). n + 1) (sym long)) stand)

-- no clause of the first lines has the number of the next
pub fresh-line : (clauses : List StepClause) (lines : List Line) (i : ℕ) → i < length lines → StandAtSteps clauses (clauses_of (take i lines)) → IsFresh clauses (i + 1)
fresh-line clauses lines i within stand =
    let long : length (take i lines) ≡ i = length-take-le i lines (omega arith) in
    fresh_line clauses (take i lines) (i + 1) (ap (λ (n : ℕ). n + 1) (sym long)) stand
