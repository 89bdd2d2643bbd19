-- What holds of the watched literals while literals are made true and taken back.
--
-- A clause is linked once two of its literals are watched and it stands in their lists. The literals of the trail are worked
-- through in order, up to the head. A watched literal that is false, and whose opposite was worked through, stands beside a
-- true one. With each decision it is saved how far the work had come, and it goes on from there when the decision is taken
-- back; so it is enough that the true literal stands before each decision with which more than the false one was saved.
-- Then nothing is to be repaired when literals are taken back. A clause that is linked late may need more than that: from
-- the lowest index of such a false literal on the work is done again once a decision is taken back.
use Rattle.std.specs.Prelude.{◌≡◌, ℕ, ◌+◌, ◌<◌, ◌≤◌, ◌⊎◌, List, [], ◌∷◌, ◌++◌, length, Option, None, Some, slice_get, set, Contains, MatchOption}
use Rattle.ct_terms.specs.declared.ids.Lit.{Lit}
use Rattle.ct_terms.specs.Literal.{opposite}
use Rattle.ct_terms.specs.Clause.{Clause}
use Rattle.ct_terms.specs.Propagation.{IsFalseIn}
use Rattle.ct_sat.specs.declared.clause.StepClause.{StepClause}
use Rattle.ct_sat.specs.declared.decided.Decided.{Decided}
use Rattle.ct_sat.specs.declared.watch.Watch.{Watch}
use Rattle.ct_sat.specs.declared.watch.WatchList.{WatchList}
use Rattle.ct_sat.specs.declared.progress.Saved.{Saved}
use Rattle.ct_sat.specs.declared.progress.Progress.{Progress}
use Rattle.ct_sat.specs.Assigned.{Assigned}
use Rattle.ct_sat.specs.Status.{Propagated, IsFalseAt}
use Rattle.ct_sat.specs.Watches.{IsWatch, AreLists, IsOn, Relinks}

-- all literals of the clause are one
abbrev pub IsShort : Clause → Type 0
IsShort clause = (k l : Lit) → Contains clause k → Contains clause l → k ≡ l

-- the two literals are in the clause and differ
pub record AreDifferentIn (clause : Clause) (one other : Lit) : Type 0 where
  pub has_one : Contains clause one
  pub has_other : Contains clause other
  pub differ : one ≡ other → ⊥

-- two different literals of the clause, or one twice where it has no two
abbrev pub AreTwoOf : Clause → Lit → Lit → Type 0
AreTwoOf clause one other = AreDifferentIn clause one other ⊎ (IsShort clause × (one ≡ other))

-- another literal of the clause, which is not false
pub record IsReplacement (set : List Lit) (clause : Clause) (except l : Lit) : Type 0 where
  pub inside : Contains clause l
  pub differs : l ≡ except → ⊥
  pub not_false : IsFalseIn set l → ⊥

-- the index stands before each decision with which more than the number was saved
abbrev pub StandsBefore : List Saved → List Decided → (Saved → ℕ) → ℕ → ℕ → Type 0
StandsBefore saved decided mark n index =
    (j : ℕ) (s : Saved) (d : Decided) → slice_get saved j ≡ Some s → slice_get decided j ≡ Some d → n < mark s → index < d.index

-- where the first literal is false and its opposite was worked through, the second is true
abbrev pub IsHeld : List Lit → List Saved → List Decided → ℕ → ℕ → Lit → Lit → Type 0
IsHeld trail saved decided low head l m =
    (p : ℕ) → slice_get trail p ≡ Some (opposite l) → p < head
    → (q : ℕ) × (slice_get trail q ≡ Some m) × (StandsBefore saved decided (λ s. s.head) p q ⊎ (low ≤ p))

-- each watch of a linked clause is held
abbrev pub AreHeld : List Watch → ℕ → List Lit → List Saved → List Decided → ℕ → ℕ → Type 0
AreHeld watches linked trail saved decided low head =
    (c : ℕ) (w : Watch) (l m : Lit) (n : ℕ) → c < linked → slice_get watches c ≡ Some w → IsWatch w l m n → (l ≡ m → ⊥)
    → IsHeld trail saved decided low head l m

-- the clauses in the lists are the first so many, each in those of its watched literals, which are two literals of it
pub record AreLinked (clauses : List StepClause) (room : ℕ) (watches : List Watch) (lists : List WatchList) (linked : ℕ) : Type 0 where
  pub long : length watches ≡ length clauses
  pub within : linked ≤ length clauses
  pub lists_long : length lists ≡ room + room
  pub lists_are : AreLists watches lists room (IsOn watches linked)
  pub pairs : (c : ℕ) (k : StepClause) (w : Watch) → slice_get clauses c ≡ Some k → slice_get watches c ≡ Some w → AreTwoOf k.literals w.one w.other

-- what stands in the list are indices of short clauses
abbrev pub ArePlaces : List StepClause → List ℕ → Type 0
ArePlaces clauses short = (i c : ℕ) → slice_get short i ≡ Some c → (k : StepClause) × (slice_get clauses c ≡ Some k) × IsShort k.literals

-- the short clauses are listed
pub record AreShort (clauses : List StepClause) (watches : List Watch) (short : List ℕ) : Type 0 where
  pub each : (c : ℕ) (w : Watch) → slice_get watches c ≡ Some w → w.one ≡ w.other → (i : ℕ) × (slice_get short i ≡ Some c)
  pub only : ArePlaces clauses short

-- no more clauses are short than before
abbrev pub KeepsShort : List Watch → List Watch → Type 0
KeepsShort old new = (c : ℕ) (w : Watch) → slice_get new c ≡ Some w → w.one ≡ w.other → slice_get old c ≡ Some w

-- of each short clause that is settled a literal is true
abbrev pub AreSettled : List StepClause → List ℕ → ℕ → List Lit → List Saved → List Decided → Type 0
AreSettled clauses short settled trail saved decided =
    (i c : ℕ) (k : StepClause) → i < settled → slice_get short i ≡ Some c → slice_get clauses c ≡ Some k
    → (q : ℕ) × (l : Lit) × (slice_get trail q ≡ Some l) × Contains k.literals l × StandsBefore saved decided (λ s. s.settled) i q

-- the one number is no higher than the other, or the other is not below the bound
abbrev pub IsUpTo : ℕ → ℕ → ℕ → Type 0
IsUpTo low a b = (a ≤ b) ⊎ (low ≤ b)

-- what was saved with each decision: of literals no more than those before it
abbrev pub AreBefore : List Saved → List Decided → Type 0
AreBefore saved decided = (j : ℕ) (s : Saved) (d : Decided) → slice_get saved j ≡ Some s → slice_get decided j ≡ Some d → s.head ≤ d.index

-- no more than with each later one, and than there is now
pub record AreSaved (saved : List Saved) (decided : List Decided) (progress : Progress) : Type 0 where
  pub long : length saved ≡ length decided
  pub before : AreBefore saved decided
  pub heads : (i j : ℕ) (r s : Saved) → i < j → slice_get saved i ≡ Some r → slice_get saved j ≡ Some s → IsUpTo progress.low r.head s.head
  pub numbers : (i j : ℕ) (r s : Saved) → i < j → slice_get saved i ≡ Some r → slice_get saved j ≡ Some s → r.settled ≤ s.settled
  pub head : (j : ℕ) (s : Saved) → slice_get saved j ≡ Some s → IsUpTo progress.low s.head progress.head
  pub number : (j : ℕ) (s : Saved) → slice_get saved j ≡ Some s → s.settled ≤ progress.settled

-- all of it
pub record AreWatching (clauses : List StepClause) (a : Assigned) (watches : List Watch) (lists : List WatchList) (short : List ℕ) (saved : List Saved) (progress : Progress) : Type 0 where
  pub linked : AreLinked clauses a.room watches lists progress.linked
  pub short_are : AreShort clauses watches short
  pub held : AreHeld watches progress.linked a.literals saved a.decided progress.low progress.head
  pub settled : AreSettled clauses short progress.settled a.literals saved a.decided
  pub saved_are : AreSaved saved a.decided progress
  pub settled_within : progress.settled ≤ length short
  pub head_within : progress.head ≤ length a.literals

-- nothing is left to be done
pub record IsAtRest (clauses : List StepClause) (a : Assigned) (short : List ℕ) (progress : Progress) : Type 0 where
  pub linked : progress.linked ≡ length clauses
  pub settled : progress.settled ≡ length short
  pub head : progress.head ≡ length a.literals

-- the literal was put into the trail, or stood there, or the clause with this index is false
pub record IsForcedBy (clauses : List StepClause) (a b : Assigned) (l : Lit) (result : Option ℕ) : Type 0 where
  pub propagated : Propagated clauses a b
  pub outcome : MatchOption result (Contains b.literals l) (IsFalseAt clauses b.literals)
  pub kept : (IsFalseIn a.literals l → ⊥) → Contains b.literals l

-- a clause was put back, into the list of a literal that is not false, or into that from which it was taken, where its other
-- watched literal is true or some clause is false
pub record LooksAt (clauses : List StepClause) (a b : Assigned) (watches : List Watch) (lists : List WatchList) (c : ℕ) (l other : Lit) (watches' : List Watch) (lists' : List WatchList) (before result : Option ℕ) : Type 0 where
  pub propagated : Propagated clauses a b
  pub to : Lit
  pub relinks : Relinks watches lists c l to watches' lists'
  pub moved : (to ≡ l) ⊎ ((k : StepClause) × (slice_get clauses c ≡ Some k) × IsReplacement a.literals k.literals other to)
  pub outcome : MatchOption result (to ≡ l → Contains b.literals other) (IsFalseAt clauses b.literals)
  pub earlier : result ≡ None → before ≡ None

-- each clause that watches the opposite of the literal at the index watches a true one beside
abbrev pub IsWorkedThrough : List Watch → List Lit → ℕ → Type 0
IsWorkedThrough watches trail index =
    (c : ℕ) (w : Watch) (l m : Lit) (n : ℕ) → slice_get watches c ≡ Some w → IsWatch w l m n → (l ≡ m → ⊥)
    → slice_get trail index ≡ Some (opposite l) → Contains trail m

-- the bound is lowered, where a decision stands after the literal's opposite, to the index of that
pub record IsLowered (trail : List Lit) (decided : List Decided) (low : ℕ) (l : Lit) (lower : ℕ) : Type 0 where
  pub at_most : lower ≤ low
  pub below : (p : ℕ) → slice_get trail p ≡ Some (opposite l) → (lower ≤ p) ⊎ ((j : ℕ) (d : Decided) → slice_get decided j ≡ Some d → d.index ≤ p)

-- a clause was put into the lists of two of its literals
pub record Puts (watches : List Watch) (lists : List WatchList) (c : ℕ) (one other : Lit) (watches' : List Watch) (lists' : List WatchList) : Type 0 where
  pub between : List Watch
  pub between_lists : List WatchList
  pub first : Relinks (set watches c (record { one = one; other = other; after_one = 0; after_other = 0 })) lists c one one between between_lists
  pub second : Relinks between between_lists c other other watches' lists'

-- clauses were linked
pub record Attaches (clauses : List StepClause) (a b : Assigned) (watches watches' : List Watch) (p p' : Progress) : Type 0 where
  pub propagated : Propagated clauses a b
  pub short : KeepsShort watches watches'
  pub held : (saved : List Saved) → AreBefore saved a.decided → length saved ≡ length a.decided → AreHeld watches p.linked a.literals saved a.decided p.low p.head
      → AreHeld watches' p'.linked b.literals saved b.decided p'.low p'.head
  pub low : p'.low ≤ p.low
  pub head : p'.head ≡ p.head
  pub settled : p'.settled ≡ p.settled

-- short clauses were settled
pub record Settles (clauses : List StepClause) (a b : Assigned) (short : List ℕ) (p p' : Progress) : Type 0 where
  pub propagated : Propagated clauses a b
  pub after : p' ≡ record p { settled = p'.settled }
  pub more : p.settled ≤ p'.settled
  pub within : p'.settled ≤ length short
  pub each : (i c : ℕ) (k : StepClause) → p.settled ≤ i → i < p'.settled → slice_get short i ≡ Some c → slice_get clauses c ≡ Some k
      → (l : Lit) × Contains b.literals l × Contains k.literals l

-- literals of the trail were worked through
pub record WorksThrough (clauses : List StepClause) (a b : Assigned) (watches watches' : List Watch) (p p' : Progress) : Type 0 where
  pub propagated : Propagated clauses a b
  pub short : KeepsShort watches watches'
  pub after : p' ≡ record p { head = p'.head }
  pub more : p.head ≤ p'.head
  pub within : p'.head ≤ length b.literals
  pub held : (saved : List Saved) → ((j : ℕ) (s : Saved) → slice_get saved j ≡ Some s → IsUpTo p.low s.head p.head)
      → AreHeld watches (length clauses) a.literals saved a.decided p.low p.head
      → AreHeld watches' (length clauses) b.literals saved b.decided p.low p'.head

-- literals were put at the end of the trail, and what holds of the watched literals was kept
pub record Advances (clauses : List StepClause) (a b : Assigned) (watches : List Watch) (lists : List WatchList) (watches' : List Watch) (lists' : List WatchList) (short : List ℕ) (p p' : Progress) : Type 0 where
  pub propagated : Propagated clauses a b
  pub watching : (saved : List Saved) → AreWatching clauses a watches lists short saved p → AreWatching clauses b watches' lists' short saved p'

-- neither literal is false, or one is true
abbrev pub AreWellWatched : List Lit → Lit → Lit → Type 0
AreWellWatched set one other =
    ((IsFalseIn set one → ⊥) × (IsFalseIn set other → ⊥)) ⊎ Contains set one ⊎ Contains set other

-- the work goes back to where it was when a decision was made with which this was saved, or before; the bound is dropped
-- where it is not below the decision's index
pub record IsGoneBack (progress : Progress) (s : Saved) (index : ℕ) (after : Progress) : Type 0 where
  pub linked : after.linked ≡ progress.linked
  pub low : (after.low ≡ progress.low) ⊎ (index ≤ progress.low)
  pub settled : after.settled ≡ s.settled
  pub at_saved : after.head ≤ s.head
  pub at_low : after.head ≤ progress.low
  pub either : (after.head ≡ s.head) ⊎ (after.head ≡ progress.low)

-- a new clause watches two of its literals, or is listed as short
pub record IsNoted (watches : List Watch) (short : List ℕ) (clause : Clause) (watches' : List Watch) (short' : List ℕ) : Type 0 where
  pub watch : Watch
  pub watches_are : watches' ≡ watches ++ watch ∷ []
  pub two : AreTwoOf clause watch.one watch.other
  pub longer : length short ≤ length short'
  pub kept : (i c : ℕ) → slice_get short i ≡ Some c → slice_get short' i ≡ Some c
  pub cases : (i c : ℕ) → slice_get short' i ≡ Some c → (slice_get short i ≡ Some c) ⊎ ((i ≡ length short) × (length watches ≡ c) × IsShort clause)
  pub listed : watch.one ≡ watch.other → (i : ℕ) × (slice_get short' i ≡ Some (length watches))

-- no clause of the step has two different literals
abbrev pub HasNoTwo : List StepClause → ℕ → Type 0
HasNoTwo clauses step = (c : StepClause) → Contains clauses c → c.step ≡ step → IsShort c.literals

-- the two are different literals of the clause of the step
pub record IsPairOf (clauses : List StepClause) (step : ℕ) (one other : Lit) : Type 0 where
  pub clause : StepClause
  pub listed : Contains clauses clause
  pub step_is : clause.step ≡ step
  pub differ : AreDifferentIn clause.literals one other
