-- A search under way: how its clauses, its derivation and the record of its moves belong together, and how it ends.
use Rattle.std.specs.Prelude.{◌≡◌, ◌↔◌, ℕ, ◌+◌, ◌<◌, ◌≤◌, Bool, true, List, [], ◌++◌, length, take, All, Contains, Some, slice_get, count_by}
use Rattle.ct_sorts.specs.Declarations.{Declarations}
use Rattle.ct_sorts.specs.Grown.{Begins}
use Rattle.ct_terms.specs.declared.ids.TermId.{TermId}
use Rattle.ct_terms.specs.Clause.{Clause}
use Rattle.ct_terms.specs.Terms.{Terms, AreSorted, IsBoolean}
use Rattle.ct_terms.specs.CoreTree.{CoreTree}
use Rattle.ct_closure.specs.Closed.{InClosure, HasVariables}
use Rattle.ct_closure.specs.ClosedTable.{HasTree, IsClosedTable, AreRising, ClosureValue, terms_at}
use Rattle.ct_log.specs.declared.line.Line.{Line}
use Rattle.ct_log.specs.Acceptance.{clauses_of}
use Rattle.ct_log.specs.Recorded.{Derived}
use Rattle.ct_sat.specs.declared.clause.StepClause.{StepClause}
use Rattle.ct_sat.specs.declared.decided.Decided.{Decided}
use Rattle.ct_sat.specs.declared.decision.Decision.{Decision}
use Rattle.ct_sat.specs.declared.decision.Decision.TheVariants as decision
use Rattle.ct_sat.specs.State.{SearchState, clauses_of as clauses_in, literals_of, begun, AreVariables, IsQuiet, HaveValues, LacksValue}
use Rattle.ct_sat.specs.Learning.{StandAtSteps}
use Rattle.ct_checker.specs.Rejection.{EndsEmpty}
use Rattle.ct_clauses.specs.Initial.{AreInitialLines, AreSplitTerms}
use Rattle.ct_congr.specs.State.{State}
use Rattle.ct_theory.specs.Entailment.{IsSaturation}
use Rattle.ct_theory.specs.Consulting.{IsReady, HaveInCommon}
use Rattle.ct_engine.specs.declared.verdict.Move.{Move}
use Rattle.ct_engine.specs.declared.asked.Asked.{Asked}
use Rattle.ct_engine.specs.declared.closed.Closed.{Closed}
use Rattle.ct_engine.specs.declared.course.Course.{Course}
use Rattle.ct_engine.specs.declared.outcome.Ending.{Ending}
use Rattle.ct_engine.specs.declared.outcome.Ending.TheVariants as ending
use Rattle.ct_engine.specs.declared.outcome.Turn.{Turn}
use Rattle.ct_engine.specs.declared.outcome.Turn.TheVariants as turn
use Rattle.ct_engine.specs.declared.outcome.Candidate.{Candidate}
use Rattle.ct_engine.specs.declared.outcome.Outcome.{Outcome}
use Rattle.ct_engine.specs.declared.outcome.Outcome.TheVariants as outcome
use Rattle.ct_engine.specs.Moves.{Choice, Replay, AreAssigned, IsTaught, AreLegal, first_state, is_decision, decisions_of}
use Rattle.ct_engine.specs.Saturated.{IsSaturated}
use Rattle.ct_engine.specs.Verdict.{IsRefutation, IsSpending}

-- the state is that of the search: it has its clauses and decisions, and beside each decision the variables with a value in the
-- part of the trail before it
pub record IsReplayOf (search : SearchState) (replay : Replay) : Type 0 where
  pub clauses : replay.clauses ≡ clauses_in search.clauses
  pub decided : decisions_of replay.decided ≡ literals_of search.decided
  pub valued : (k : ℕ) (choice : Choice) (d : Decided) → slice_get replay.decided k ≡ Some choice → slice_get search.decided k ≡ Some d
      → AreAssigned search.variables (Contains (take d.index search.trail)) choice.valued

-- the moves are legal over these lines from the clauses of the initial ones on, and led to the state of the search
pub record IsReplayed (search : SearchState) (initial lines : List Line) (moves : List Move) : Type 0 where
  pub replay : Replay
  pub replays : IsReplayOf search replay
  pub legal : AreLegal search.variables lines (first_state initial) moves replay
  pub counted : count_by is_decision moves ≡ search.count

-- the lines are the initial lines, so many, and then those of clauses that were taught, each clause of the search has the number of
-- its line, and where the search is recorded its moves led to its state
pub record IsAccounted (recorded : Bool) (search : SearchState) (derived : Derived) (begun : ℕ) (moves : List Move) : Type 0 where
  pub variables : AreVariables derived.rec.terms search.variables
  pub initial : List Line
  pub taught : List Line
  pub in_order : derived.rec.lines ≡ initial ++ taught
  pub long : length initial ≡ begun
  pub are_initial : AreInitialLines derived.declarations derived.rec.terms derived.asserts initial
  pub are_taught : All (λ line. IsTaught line.step) taught
  pub numbered : StandAtSteps search.clauses (clauses_of derived.rec.lines)
  pub stored : (clause : Clause) → Contains (clauses_of initial) clause → Contains (clauses_in search.clauses) clause
  pub replayed : recorded ≡ true → IsReplayed search initial derived.rec.lines moves

abbrev pub IsUnderWay : Course → Type 0
IsUnderWay course = IsAccounted course.recorded course.search course.derivation course.initial course.moves.items

-- both are of the same declarations, terms, assertions, variables and budget, both are recorded or neither is, and the lines of the
-- first, and its moves where they are recorded, stand in front of those of the second
pub record IsOfOneTask (old new : Course) : Type 0 where
  pub declarations : new.derivation.declarations ≡ old.derivation.declarations
  pub terms : new.derivation.rec.terms ≡ old.derivation.rec.terms
  pub asserts : new.derivation.asserts ≡ old.derivation.asserts
  pub over : new.search.variables ≡ old.search.variables
  pub budget : new.search.budget ≡ old.search.budget
  pub variables : new.variables ≡ old.variables
  pub recorded : new.recorded ≡ old.recorded
  pub initial : new.initial ≡ old.initial
  pub kept : new.kept ≡ old.kept
  pub lines : Begins old.derivation.rec.lines new.derivation.rec.lines
  pub moves : old.recorded ≡ true → Begins old.moves.items new.moves.items

-- both are of the same declarations, terms, assertions and number of variables, and the lines of the first stand in front of those of
-- the second: searches of one check
pub record IsOfOneClosure (old new : Course) : Type 0 where
  pub declarations : new.derivation.declarations ≡ old.derivation.declarations
  pub terms : new.derivation.rec.terms ≡ old.derivation.rec.terms
  pub asserts : new.derivation.asserts ≡ old.derivation.asserts
  pub variables : new.variables ≡ old.variables
  pub initial : new.initial ≡ old.initial
  pub kept : new.kept ≡ old.kept
  pub lines : Begins old.derivation.rec.lines new.derivation.rec.lines

-- the search is recorded and may make so many decisions
abbrev pub IsOnRecord : ℕ → Course → Type 0
IsOnRecord budget course = (course.recorded ≡ true) × (course.search.budget ≡ budget)

-- the numbers of the clauses go up to this one at most
abbrev pub AreUpTo : List StepClause → ℕ → Type 0
AreUpTo clauses number = (c : StepClause) → Contains clauses c → c.step ≤ number

-- a conflict took back some decision, and none was made
pub record TakesBack (old new : SearchState) : Type 0 where
  pub counted : new.count ≡ old.count
  pub fewer : length new.decided < length old.decided

-- one decision more was made, of those that are allowed
pub record IsCounted (old new : SearchState) : Type 0 where
  pub counted : new.count ≡ old.count + 1
  pub allowed : new.count ≤ new.budget

-- the theory can be asked about literals over the terms of the derivation
pub record IsTheoryOf (course : Course) (theory : State) : Type 0 where
  pub declarations : theory.declarations ≡ course.derivation.declarations
  pub terms : theory.terms ≡ course.derivation.rec.terms
  pub ready : IsReady theory

-- so many first literals of the trail as is noted are those that the theory was told
abbrev pub IsAsked : Course → State → Asked → Type 0
IsAsked course theory asked = HaveInCommon asked.shared theory.hypotheses course.search.trail

-- how a search ends
abbrev pub IsEnded : Course → State → Ending → Type 0
IsEnded course theory ending.Refuted = EndsEmpty course.derivation.rec.lines
IsEnded course theory ending.Spent = IsUnderWay course × IsQuiet course.search × LacksValue course.search × (course.search.count ≡ course.search.budget)
IsEnded course theory (ending.Saturated order) =
    IsUnderWay course × IsQuiet course.search × HaveValues course.search
    × IsSaturation course.derivation.declarations course.derivation.rec.terms course.search.trail theory order.reps.items

-- what a turn of a search came to
abbrev pub IsTurn : Course → Course → State → Turn → Type 0
IsTurn old new theory turn.Learned = IsUnderWay new × TakesBack old.search new.search
IsTurn old new theory turn.Decided = IsUnderWay new × IsCounted old.search new.search
IsTurn old new theory (turn.Ended ending) = IsEnded new theory ending

-- a decision was made; or every variable has a value; or a decision is needed, and none is left
abbrev pub IsDecided : SearchState → Course → Decision → Type 0
IsDecided old new (decision.Took literal) = IsUnderWay new × IsCounted old new.search
IsDecided old new decision.All = IsUnderWay new × IsQuiet new.search × HaveValues new.search × (new.search ≡ old)
IsDecided old new decision.Spent = IsUnderWay new × IsQuiet new.search × LacksValue new.search × (new.search.count ≡ new.search.budget)

-- the derivation is over these declarations, its terms are exactly the closure of the assertions, which it has, and so many of
-- them are variables; they are well sorted and closed
pub record IsTaskOf (d : Declarations) (table : Terms) (asserts : List TermId) (course : Course) : Type 0 where
  pub declarations : course.derivation.declarations ≡ d
  pub asserted : terms_at course.derivation.rec.terms course.derivation.asserts ≡ terms_at table asserts
  pub closure : (t : CoreTree) → HasTree course.derivation.rec.terms t ↔ InClosure d (terms_at table asserts) t
  pub variables : HasVariables d (terms_at table asserts) course.variables
  pub sorted : AreSorted d course.derivation.rec.terms
  pub is_closed : IsClosedTable d course.derivation.rec.terms

-- the table holds exactly the closure of the assertions of the old one, and these are what is known of it beside
pub record IsClosureOf (d : Declarations) (table : Terms) (asserts : List TermId) (closed : Terms) (closure : ClosureValue) : Type 0 where
  pub grown : Begins table closed
  pub sorted : AreSorted d closed
  pub exact : (t : CoreTree) → HasTree closed t ↔ InClosure d (terms_at table asserts) t
  pub is_closed : IsClosedTable d closed
  pub split : AreSplitTerms d closed closure.split
  pub rising : AreRising closure.split
  pub variables : HasVariables d (terms_at table asserts) closure.variables

-- the table is exactly the closure of its roots, which are Boolean
pub record IsClosed (d : Declarations) (closed : Closed) : Type 0 where
  pub closure : IsClosureOf d closed.table closed.roots.items closed.table closed.closure
  pub booleans : All (IsBoolean closed.table) closed.roots.items

-- and the roots have the trees of these assertions
pub record IsClosedAs (d : Declarations) (table : Terms) (asserts : List TermId) (closed : Closed) : Type 0 where
  pub is_closed : IsClosed d closed
  pub trees : terms_at closed.table closed.roots.items ≡ terms_at table asserts

-- the derivation is over these declarations, terms and assertions, and has exactly the initial lines
pub record IsBegunOver (d : Declarations) (terms : Terms) (asserts : List TermId) (derived : Derived) : Type 0 where
  pub declarations : derived.declarations ≡ d
  pub terms_are : derived.rec.terms ≡ terms
  pub asserts_are : derived.asserts ≡ asserts
  pub lines : AreInitialLines d terms asserts derived.rec.lines

-- the search has the clauses of the lines, each with the number of its line, and has done nothing
pub record IsSearchOver (derived : Derived) (budget : ℕ) (search : SearchState) : Type 0 where
  pub variables : AreVariables derived.rec.terms search.variables
  pub clauses : clauses_in search.clauses ≡ clauses_of derived.rec.lines
  pub numbered : StandAtSteps search.clauses (clauses_of derived.rec.lines)
  pub only_begun : search ≡ record (begun search.variables budget) { clauses = search.clauses; propagated = search.propagated }

-- the derivation with so many of its lines, the first ones
abbrev pub beginning_of : Derived → ℕ → Derived
beginning_of derived count = record derived { rec = record derived.rec { lines = take count derived.rec.lines } }

-- nothing was decided and no move was made, the terms are exactly the closure of the assertions, and the lines are the initial lines
pub record IsAtStart (d : Declarations) (course : Course) : Type 0 where
  pub decided : course.search.decided ≡ []
  pub moves : course.moves.items ≡ []
  pub initial : course.initial ≡ length course.derivation.rec.lines
  pub kept : course.kept ≡ 0
  pub closure : (t : CoreTree) → HasTree course.derivation.rec.terms t ↔ InClosure d (terms_at course.derivation.rec.terms course.derivation.asserts) t
  pub lines : AreInitialLines d course.derivation.rec.terms course.derivation.asserts course.derivation.rec.lines

-- the table holds exactly the closure of the assertions of the old one, the literals decide it, and the classes are exactly
-- what they entail
pub record IsCandidate (d : Declarations) (table : Terms) (asserts : List TermId) (candidate : Candidate) : Type 0 where
  pub numbers : List TermId
  pub saturated : IsSaturated d (terms_at table asserts) candidate.classes.value.terms numbers candidate.literals
  pub sorted : AreSorted d candidate.classes.value.terms
  pub is_closed : IsClosedTable d candidate.classes.value.terms
  pub saturation : IsSaturation d candidate.classes.value.terms candidate.literals candidate.classes.value candidate.order.reps.items

-- what each outcome says
abbrev pub IsOutcome : Declarations → Terms → List TermId → ℕ → Outcome → Type 0
IsOutcome d table asserts budget (outcome.Unsat derived) = IsRefutation d table asserts derived
IsOutcome d table asserts budget (outcome.Unknown spent) = IsSpending d table asserts budget spent
IsOutcome d table asserts budget (outcome.Candidate candidate) = IsCandidate d table asserts candidate
