-- Merges that the rules ask for and that the classes do not have yet.
use Rattle.std.specs.Prelude.{ℕ, ◌≡◌, ◌<◌, List, length, Some, slice_get}
use Rattle.ct_sorts.specs.Declarations.{Declarations}
use Rattle.ct_terms.specs.declared.ids.TermId.{TermId}
use Rattle.ct_terms.specs.declared.ids.Lit.{Lit}
use Rattle.ct_terms.specs.Terms.{Terms}
use Rattle.ct_congr.specs.declared.merge.Merge.{Merge}
use Rattle.ct_congr.specs.Partition.{InOneClass}
use Rattle.ct_congr.specs.Reasons.{IsJustified, IsRule}

-- the merge follows by a rule in these classes, and its sides are not of one class
pub record IsNeeded (d : Declarations) (terms : Terms) (hyps : List Lit) (reps : List TermId) (m : Merge) : Type 0 where
  pub justified : IsJustified d terms hyps (InOneClass reps) m
  pub rule : IsRule m.why
  pub apart : InOneClass reps m.left m.right → ⊥
  pub left : m.left.0 < length reps
  pub right : m.right.0 < length reps

-- each merge of the list is needed
abbrev pub AreNeeded : Declarations → Terms → List Lit → List TermId → List Merge → Type 0
AreNeeded d terms hyps reps found = (k : ℕ) (m : Merge) → slice_get found k ≡ Some m → IsNeeded d terms hyps reps m
