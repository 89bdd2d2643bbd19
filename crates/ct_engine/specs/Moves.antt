-- The record of a search: its moves, and when each is legal. What follows in a state of the search is what unit propagation
-- gives (Davis, Logemann and Loveland 1962); clauses are learned from conflicts (Marques-Silva and Sakallah 1999).
use Rattle.std.specs.Prelude.{◌≡◌, ◌↔◌, ℕ, ◌+◌, ◌⊎◌, Bool, true, false, List, [], ◌∷◌, ◌++◌, map, take, All, Contains, Some, slice_get, count_by}
use Rattle.ct_sorts.specs.Declarations.{Declarations}
use Rattle.ct_terms.specs.declared.ids.TermId.{TermId}
use Rattle.ct_terms.specs.declared.ids.Lit.{Lit}
use Rattle.ct_terms.specs.Literal.{opposite}
use Rattle.ct_terms.specs.Clause.{Clause}
use Rattle.ct_terms.specs.Terms.{Terms, IsTermTable, AreSorted}
use Rattle.ct_log.specs.declared.line.Line.{Line}
use Rattle.ct_log.specs.declared.line.Step.{Step}
use Rattle.ct_log.specs.declared.line.Step.TheVariants as step
use Rattle.ct_log.specs.Acceptance.{AreAccepted, clauses_of}
use Rattle.ct_sat.specs.Up.{Up, IsContradictory, IsAssigned, IsLowest, negative_of}
use Rattle.ct_sat.specs.State.{AreVariables}
use Rattle.ct_clauses.specs.Initial.{AreInitialLines}
use Rattle.ct_engine.specs.declared.verdict.Move.{Move}
use Rattle.ct_engine.specs.declared.verdict.Move.TheVariants as move

-- a decided literal, and the variables that had a value just before it was decided
pub record Choice : Type 0 where
  pub literal : Lit
  pub valued : List TermId

-- a state of a search: its clauses, and what was decided, in order
pub record Replay : Type 0 where
  pub clauses : List Clause
  pub decided : List Choice

-- the decided literals
abbrev pub decisions_of : List Choice → List Lit
decisions_of decided = map (λ c. c.literal) decided

-- the literal follows from the clauses and the decisions of the state
abbrev pub FollowsIn : Replay → Lit → Type 0
FollowsIn replay = Up replay.clauses (decisions_of replay.decided)

abbrev pub IsInconsistent : Replay → Type 0
IsInconsistent replay = IsContradictory replay.clauses (FollowsIn replay)

-- exactly these variables have a value
abbrev pub AreAssigned : List TermId → (Lit → Type 0) → List TermId → Type 0
AreAssigned variables has valued = (t : TermId) → Contains valued t ↔ (Contains variables t × IsAssigned has t)

-- the line has this number, counted from 1
abbrev pub IsLineWith : List Line → ℕ → Line → Type 0
IsLineWith lines number line = (index : ℕ) × (number ≡ index + 1) × (slice_get lines index ≡ Some line)

-- the step is that of a clause that was learned
abbrev pub IsLearning : Step → Type 0
IsLearning (step.Learn hints) = Unit {0}
IsLearning s = ⊥

-- the step is that of a clause that the theory gave, or that was learned
abbrev pub IsTaught : Step → Type 0
IsTaught (step.Theory steps close) = Unit {0}
IsTaught (step.Learn hints) = Unit {0}
IsTaught s = ⊥

-- the variable with the lowest number among those without a value is made false, where nothing is contradictory
pub record Decides (variables : List TermId) (old : Replay) (t : TermId) (new : Replay) : Type 0 where
  pub consistent : IsInconsistent old → ⊥
  pub lowest : IsLowest variables (FollowsIn old) t
  pub valued : List TermId
  pub exact : AreAssigned variables (FollowsIn old) valued
  pub after : new ≡ record old { decided = old.decided ++ record { literal = negative_of t; valued = valued } ∷ [] }

-- the clause of the line with this number is added: before any decision, or where all its literals are false
pub record Adds (lines : List Line) (old : Replay) (number : ℕ) (new : Replay) : Type 0 where
  pub line : Line
  pub stands : IsLineWith lines number line
  pub taught : IsTaught line.step
  pub allowed : (old.decided ≡ []) ⊎ All (λ l. FollowsIn old (opposite l)) line.clause
  pub after : new ≡ record old { clauses = old.clauses ++ line.clause ∷ [] }

-- after a contradiction the clause of the line with this number is learned, and so many decisions are kept, under which all
-- its literals but one are false; the variable of that one had no value before the next decision
pub record Learns (lines : List Line) (old : Replay) (number keep : ℕ) (new : Replay) : Type 0 where
  pub line : Line
  pub stands : IsLineWith lines number line
  pub learning : IsLearning line.step
  pub contradictory : IsInconsistent old
  pub next : Choice
  pub undone : slice_get old.decided keep ≡ Some next
  pub asserted : Lit
  pub inside : Contains line.clause asserted
  pub unset : Contains next.valued asserted.term → ⊥
  pub others_false : All (λ l. (l ≡ asserted) ⊎ Up old.clauses (decisions_of (take keep old.decided)) (opposite l)) line.clause
  pub after : new ≡ record { clauses = old.clauses ++ line.clause ∷ []; decided = take keep old.decided }

-- the move is legal over these variables and lines, and leads from one state to the other
abbrev pub IsLegal : List TermId → List Line → Replay → Move → Replay → Type 0
IsLegal variables lines old (move.Decide t) new = Decides variables old t new
IsLegal variables lines old (move.Add number) new = Adds lines old number new
IsLegal variables lines old (move.Learn number keep) new = Learns lines old number keep new

-- the moves are legal one after the other, and lead from one state to the other
abbrev pub AreLegal : List TermId → List Line → Replay → List Move → Replay → Type 0
AreLegal variables lines old [] new = new ≡ old
AreLegal variables lines old (m ∷ moves) new = (middle : Replay) × IsLegal variables lines old m middle × AreLegal variables lines middle moves new

-- the state at the start: the clauses of these lines, and nothing decided
abbrev pub first_state : List Line → Replay
first_state lines = record { clauses = clauses_of lines; decided = [] }

-- the move is a decision
abbrev pub is_decision : Move → Bool
is_decision (move.Decide t) = true
is_decision m = false

-- some variable has no value
abbrev pub LackValue : List TermId → (Lit → Type 0) → Type 0
LackValue variables has = (t : TermId) × Contains variables t × (IsAssigned has t → ⊥)

-- the record of a search that spent its budget of decisions. The terms are those of a well-sorted table, and each line is accepted
-- after those before it. The lines are all initial lines over these terms and assertions, each once, and then lines of clauses that
-- the theory gave or that were learned; the moves are legal from the clauses of the initial lines on; so many are decisions as the
-- budget says; and another is needed: nothing is contradictory at the end, and some variable has no value
pub record IsSpentRecord (d : Declarations) (terms : Terms) (asserts : List TermId) (lines : List Line) (moves : List Move) (budget : ℕ) : Type 0 where
  pub is_table : IsTermTable terms
  pub sorted : AreSorted d terms
  pub accepted : AreAccepted d terms asserts lines
  pub variables : List TermId
  pub are_variables : AreVariables terms variables
  pub initial : List Line
  pub taught : List Line
  pub in_order : lines ≡ initial ++ taught
  pub are_initial : AreInitialLines d terms asserts initial
  pub are_taught : All (λ line. IsTaught line.step) taught
  pub end : Replay
  pub legal : AreLegal variables lines (first_state initial) moves end
  pub spent : count_by is_decision moves ≡ budget
  pub consistent : IsInconsistent end → ⊥
  pub lacking : LackValue variables (FollowsIn end)
