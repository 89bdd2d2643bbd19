-- The core of a derivation: the lines that its last line rests on, and the assertions that these are given.
use Rattle.std.specs.Prelude.{◌≡◌, ◌↔◌, ℕ, ◌≤◌, List, Contains, Some, slice_get}
use Rattle.std.specs.List.{AllZip}
use Rattle.ct_terms.specs.declared.ids.TermId.{TermId}
use Rattle.ct_log.specs.declared.line.Line.{Line}
use Rattle.ct_log.specs.declared.line.Step.TheVariants.{Input}
use Rattle.ct_log.specs.Recorded.{Derived}
use Rattle.ct_core.specs.Cited.{IsLineWith, IsCited}
use Rattle.ct_core.specs.Trimmed.{AreRising, IsTrimmed}

-- a line that the last line rests on is given this assertion
pub record IsUsed (lines : List Line) (t : TermId) : Type 0 where
  pub number : ℕ
  pub line : Line
  pub cited : IsCited 0 lines number
  pub stands : IsLineWith lines number line
  pub input : line.step ≡ Input t

-- the term stands at this place of the assertions, and at no earlier one
pub record IsFirstPlace (asserts : List TermId) (t : TermId) (place : ℕ) : Type 0 where
  pub stands : slice_get asserts place ≡ Some t
  pub first : (other : ℕ) → slice_get asserts other ≡ Some t → place ≤ other

-- the terms are those that stand at these places, in order
abbrev pub AreAt : List TermId → List ℕ → List TermId → Type 0
AreAt asserts places terms = AllZip (λ place t. slice_get asserts place ≡ Some t) places terms

-- the core has the table of the derivation and exactly the lines that its last line rests on, in order, with their hints renumbered.
-- The places are the first ones of the assertions that these lines are given, in order, and its assertions are those at the places
pub record IsCore (old : Derived) (places : List ℕ) (new : Derived) : Type 0 where
  pub declarations : new.declarations ≡ old.declarations
  pub terms : new.rec.terms ≡ old.rec.terms
  pub lines : IsTrimmed 0 old.rec.lines new.rec.lines
  pub rising : AreRising places
  pub exact : (place : ℕ) → Contains places place ↔ ((t : TermId) × IsFirstPlace old.asserts t place × IsUsed old.rec.lines t)
  pub asserts : AreAt old.asserts places new.asserts
