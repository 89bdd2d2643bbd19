-- Terms that waiting merges will put into one class.
use Rattle.std.specs.Prelude.{◌≡◌, ◌<◌, Bool, true, List, [], length, Contains}
use Rattle.ct_sorts.specs.Declarations.{Declarations}
use Rattle.ct_terms.specs.declared.ids.TermId.{TermId}
use Rattle.ct_terms.specs.Terms.{Terms}
use Rattle.ct_congr.specs.declared.merge.Merge.{Merge}
use Rattle.ct_congr.specs.Partition.{InOneClass}
use Rattle.ct_congr.specs.Reasons.{IsJustified, IsRule}

-- the test is symmetric and transitive, and holds of terms of one class and of the sides of each merge
pub record IsHolding (reps : List TermId) (waiting : List Merge) (related : TermId → TermId → Bool) : Type 0 where
  pub symmetric : (x y : TermId) → related x y ≡ true → related y x ≡ true
  pub transitive : (x y z : TermId) → related x y ≡ true → related y z ≡ true → related x z ≡ true
  pub classes : (x y : TermId) → InOneClass reps x y → related x y ≡ true
  pub waits : (m : Merge) → Contains waiting m → related m.left m.right ≡ true

-- the two terms are of one class in the least equivalence that holds the classes and the waiting merges
abbrev pub AreJoined : List TermId → List Merge → TermId → TermId → Type 0
AreJoined reps waiting x y = (related : TermId → TermId → Bool) → IsHolding reps waiting related → related x y ≡ true

-- the merge follows by a rule in these classes, whatever the hypotheses are
pub record IsWaiting (d : Declarations) (terms : Terms) (reps : List TermId) (m : Merge) : Type 0 where
  pub justified : IsJustified d terms [] (InOneClass reps) m
  pub rule : IsRule m.why
  pub left : m.left.0 < length reps
  pub right : m.right.0 < length reps

-- each merge of the list does
abbrev pub AreWaiting : Declarations → Terms → List TermId → List Merge → Type 0
AreWaiting d terms reps waiting = (m : Merge) → Contains waiting m → IsWaiting d terms reps m

-- whatever waited waits still, and what waits follows by a rule, if it did
pub record WaitsOn (d : Declarations) (terms : Terms) (reps : List TermId) (before after : List Merge) : Type 0 where
  pub still : (m : Merge) → Contains before m → Contains after m
  pub follows : AreWaiting d terms reps before → AreWaiting d terms reps after
