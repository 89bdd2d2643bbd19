-- Where a record that does not pass is rejected: at its first line that is not accepted, or at its end.
use Rattle.std.specs.Prelude.{◌≡◌, ℕ, ◌+◌, ◌<◌, List, [], ◌∷◌, ◌++◌, length, take, Some, slice_get}
use Rattle.ct_sorts.specs.Declarations.{Declarations}
use Rattle.ct_terms.specs.declared.ids.TermId.{TermId}
use Rattle.ct_terms.specs.Terms.{Terms}
use Rattle.ct_log.specs.declared.line.Line.{Line}
use Rattle.ct_log.specs.Acceptance.{IsAccepted, clauses_of, AreAccepted}
use Rattle.ct_checker.specs.declared.reject.Why.{Why}
use Rattle.ct_checker.specs.declared.reject.Why.TheVariants.{Step, NoEmptyClause}

-- the line at this index is accepted after those before it
abbrev pub IsAcceptedAt : Declarations → Terms → List TermId → List Line → ℕ → Line → Type 0
IsAcceptedAt d terms asserts lines index line = IsAccepted d terms asserts (clauses_of (take index lines)) line

-- each line before this number is accepted
abbrev pub AreAcceptedBelow : Declarations → Terms → List TermId → List Line → ℕ → Type 0
AreAcceptedBelow d terms asserts lines bound =
    (index : ℕ) (line : Line) → index < bound → slice_get lines index ≡ Some line → IsAcceptedAt d terms asserts lines index line

-- the line at this index is the first that is not accepted
pub record IsFirstRefused (d : Declarations) (terms : Terms) (asserts : List TermId) (lines : List Line) (index : ℕ) : Type 0 where
  pub line : Line
  pub stands : slice_get lines index ≡ Some line
  pub refused : IsAcceptedAt d terms asserts lines index line → ⊥
  pub before : AreAcceptedBelow d terms asserts lines index

-- there is a last line, and its clause is empty
abbrev pub EndsEmpty : List Line → Type 0
EndsEmpty lines = (before : List Line) × (last : Line) × (lines ≡ before ++ last ∷ []) × (last.clause ≡ [])

-- the record is rejected at the line with this number, counted from 1, for this reason
abbrev pub IsRejectedAt : Declarations → Terms → List TermId → List Line → ℕ → Why → Type 0
IsRejectedAt d terms asserts lines number Step = (index : ℕ) × (number ≡ index + 1) × IsFirstRefused d terms asserts lines index
IsRejectedAt d terms asserts lines number NoEmptyClause =
    (number ≡ length lines + 1) × AreAccepted d terms asserts lines × (EndsEmpty lines → ⊥)
