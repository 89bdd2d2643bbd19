-- What a check takes from a store of clauses that the theory gave, and what it leaves there.
use Rattle.std.specs.Prelude.{◌≡◌, ◌↔◌, ℕ, zero, suc, ◌+◌, ◌≤◌, List, [], ◌∷◌, ◌++◌, length, drop}
use Rattle.ct_sorts.specs.Declarations.{Declarations}
use Rattle.ct_sorts.specs.Grown.{Begins}
use Rattle.ct_terms.specs.CoreTree.{CoreTree}
use Rattle.ct_closure.specs.Closed.{InClosure}
use Rattle.ct_closure.specs.ClosedTable.{HasTree, terms_at}
use Rattle.ct_log.specs.declared.line.Line.{Line}
use Rattle.ct_log.specs.Recorded.{Derived}
use Rattle.ct_clauses.specs.Initial.{AreInitialLines}
use Rattle.ct_kept.specs.Lemmas.{theory_lemmas}
use Rattle.ct_kept.specs.Kept.{Stored, AreMovedLines, Takes}
use Rattle.ct_engine.specs.declared.verdict.Move.{Move}
use Rattle.ct_engine.specs.declared.verdict.Move.TheVariants as move
use Rattle.ct_engine.specs.declared.verdict.Verdict.{Verdict}
use Rattle.ct_engine.specs.declared.verdict.Verdict.TheVariants.{Sat, Unsat, Unknown}
use Rattle.ct_engine.specs.declared.course.Course.{Course}
use Rattle.ct_engine.specs.declared.outcome.Outcome.{Outcome}
use Rattle.ct_engine.specs.declared.outcome.Outcome.TheVariants as outcome

-- the derivation is over these declarations, its terms are exactly the closure of the assertions, and its lines are the initial
-- lines, then one for each clause of the store that is moved into the closure and accepted there, in order, and then the others
pub record IsBegunWith (d : Declarations) (store : Stored) (derived : Derived) : Type 0 where
  pub initial : List Line
  pub moved : List Line
  pub others : List Line
  pub declarations : derived.declarations ≡ d
  pub closure : (t : CoreTree) → HasTree derived.rec.terms t ↔ InClosure d (terms_at derived.rec.terms derived.asserts) t
  pub are_initial : AreInitialLines d derived.rec.terms derived.asserts initial
  pub are_moved : AreMovedLines d store derived.rec.terms moved
  pub lines : derived.rec.lines ≡ initial ++ (moved ++ others)

-- the additions of so many lines, after so many others
abbrev pub adds_after : ℕ → ℕ → List Move
adds_after before zero = []
adds_after before (suc count) = move.Add (before + 1) ∷ adds_after (before + 1) count

-- the moves begin with the additions of the clauses of the store
abbrev pub AddsKept : (d : Declarations) (store : Stored) (derived : Derived) → IsBegunWith d store derived → List Move → Type 0
AddsKept d store derived begun moves = Begins (adds_after (length begun.initial) (length begun.moved)) moves

-- the store has taken the clauses that the theory gave after that, in order
abbrev pub TakesOthers : (d : Declarations) (old : Stored) (derived : Derived) → IsBegunWith d old derived → Stored → Type 0
TakesOthers d old derived begun new = Takes old derived.rec.terms (theory_lemmas begun.others) new

-- the store has taken the clauses that the theory gave after some line of the derivation, in order
abbrev pub TakesLater : Stored → Derived → Stored → Type 0
TakesLater old derived new = (first : ℕ) × Takes old derived.rec.terms (theory_lemmas (drop first derived.rec.lines)) new

-- what a check took from the store, and what it left there
abbrev pub HasKept : Declarations → Stored → Stored → Verdict → Type 0
HasKept d old new (Sat i) = new ≡ old
HasKept d old new (Unsat derived) = TakesLater old derived new
HasKept d old new (Unknown spent) =
    (begun : IsBegunWith d old spent.derivation) × AddsKept d old spent.derivation begun spent.moves × TakesOthers d old spent.derivation begun new

-- so many of the lines stand before the others
abbrev pub IsBegunAt : (d : Declarations) (store : Stored) (derived : Derived) → ℕ → Type 0
IsBegunAt d store derived count = (begun : IsBegunWith d store derived) × (length begun.initial + length begun.moved ≡ count)

-- a search under way that began with the store: so many lines are initial ones, and so many the store's
pub record IsCourseWith (d : Declarations) (store : Stored) (course : Course) : Type 0 where
  pub begun : IsBegunWith d store course.derivation
  pub initial : length begun.initial ≡ course.initial
  pub kept : length begun.moved ≡ course.kept

-- the moves of the search begin with the additions of the store's lines
abbrev pub AddsFirst : Course → Type 0
AddsFirst course = Begins (adds_after course.initial course.kept) course.moves.items

-- the store's lines are there
abbrev pub HasFirst : Course → Type 0
HasFirst course = course.initial + course.kept ≤ length course.derivation.rec.lines

-- the derivation is over these declarations and has so many lines
abbrev pub HasLines : Declarations → Derived → ℕ → Type 0
HasLines d derived count = (derived.declarations ≡ d) × (count ≤ length derived.rec.lines)

-- what is found: the record of a search that was spent began with the store
abbrev pub IsOutcomeWith : Declarations → Stored → ℕ → Outcome → Type 0
IsOutcomeWith d store count (outcome.Unsat derived) = HasLines d derived count
IsOutcomeWith d store count (outcome.Unknown spent) =
    (begun : IsBegunWith d store spent.derivation) × (length begun.initial + length begun.moved ≡ count) × AddsKept d store spent.derivation begun spent.moves
IsOutcomeWith d store count (outcome.Candidate candidate) = Unit {0}

-- what a verdict says of the store that its search began with, so many lines of which stand before the others with the initial ones
abbrev pub IsVerdictWith : Declarations → Stored → ℕ → Verdict → Type 0
IsVerdictWith d store count (Sat i) = Unit {0}
IsVerdictWith d store count (Unsat derived) = HasLines d derived count
IsVerdictWith d store count (Unknown spent) =
    (begun : IsBegunWith d store spent.derivation) × (length begun.initial + length begun.moved ≡ count) × AddsKept d store spent.derivation begun spent.moves
