-- How a search is stored.
use Rattle.std.specs.Prelude.{◌≡◌, ℕ, ◌<◌, ◌≤◌, List, Some, slice_get, All}
use Rattle.ct_terms.specs.declared.ids.TermId.{TermId}
use Rattle.ct_terms.specs.declared.ids.Lit.{Lit}
use Rattle.ct_sat.specs.declared.clause.StepClause.{StepClause}
use Rattle.ct_sat.specs.declared.decided.Decided.{Decided}
use Rattle.ct_sat.specs.declared.progress.Saved.{Saved}
use Rattle.ct_sat.specs.Assigned.{Assigned, HaveReasons}
use Rattle.ct_sat.specs.State.{AreOver, AreIncreasing, HaveOneNumber}

-- the variables are below the room of the trail, clauses and trail are over them, each literal of the trail that was not
-- decided is forced by the clause that is its reason, and no more decisions were made than may be
pub record IsSearch (variables : List TermId) (clauses : List StepClause) (trail : Assigned) (count budget : ℕ) : Type 0 where
  pub below : All (λ t. t.0 < trail.room) variables
  pub increasing : AreIncreasing variables
  pub one_number : HaveOneNumber clauses
  pub clauses_over : All (λ c. AreOver variables c.literals) clauses
  pub trail_over : AreOver variables trail.literals
  pub reasons : HaveReasons clauses trail.literals trail.reasons
  pub within : count ≤ budget

-- a literal of the term stands at the index
abbrev pub StandsAt : List Lit → TermId → ℕ → Type 0
StandsAt literals t q = (l : Lit) × (slice_get literals q ≡ Some l) × (l.term.0 ≡ t.0)

-- the variables before the cursor have values, and those before what was saved with a decision had them before it
pub record IsCursor (variables : List TermId) (a : Assigned) (saved : List Saved) (cursor : ℕ) : Type 0 where
  pub now : (i : ℕ) (t : TermId) → i < cursor → slice_get variables i ≡ Some t → (q : ℕ) × StandsAt a.literals t q
  pub before : (j : ℕ) (s : Saved) (d : Decided) (i : ℕ) (t : TermId) → slice_get saved j ≡ Some s → slice_get a.decided j ≡ Some d → i < s.cursor → slice_get variables i ≡ Some t
      → (q : ℕ) × StandsAt a.literals t q × (q < d.index)
