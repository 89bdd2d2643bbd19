-- Cores of assertions, which are terms of a table, and cores in which each assertion is needed, as an interpretation shows or the
-- record of a search leaves open.
use Rattle.std.specs.Prelude.{◌≡◌, ℕ, true, List, Contains, Some, slice_get}
use Rattle.std.specs.List.{AllZip}
use Rattle.ct_sorts.specs.Declarations.{Declarations}
use Rattle.ct_terms.specs.declared.ids.TermId.{TermId}
use Rattle.ct_terms.specs.Terms.{Terms}
use Rattle.ct_closure.specs.ClosedTable.{terms_at}
use Rattle.ct_eval.specs.declared.interp.Interp.{Interp}
use Rattle.ct_eval.specs.Interpretation.{IsProper}
use Rattle.ct_eval.specs.Truth.{truth_value}
use Rattle.ct_log.specs.Acceptance.{Passes}
use Rattle.ct_log.specs.Recorded.{Derived}
use Rattle.ct_core.specs.Trimmed.{AreRising}
use Rattle.ct_core.specs.Core.{AreAt}
use Rattle.ct_engine.specs.declared.verdict.Spent.{Spent}
use Rattle.ct_engine.specs.Verdict.{IsRefutation, IsSpending}
use Rattle.ct_shrink.specs.declared.shrunk.Need.{Need}
use Rattle.ct_shrink.specs.declared.shrunk.Need.TheVariants.{Shown, Open}
use Rattle.ct_shrink.specs.declared.shrunk.Shrunk.{Shrunk}

-- the places rise, and the derivation is over these declarations, has the assertions at the places, in order, and passes
pub record IsCoreOf (d : Declarations) (table : Terms) (asserts : List TermId) (places : List ℕ) (derived : Derived) : Type 0 where
  pub rising : AreRising places
  pub chosen : List TermId
  pub stand : AreAt asserts places chosen
  pub declarations : derived.declarations ≡ d
  pub asserted : terms_at derived.rec.terms derived.asserts ≡ terms_at table chosen
  pub passes : Passes d derived.rec.terms derived.asserts derived.rec.lines

-- the derivation refutes the assertions at these places: so these hold in no proper interpretation
pub record IsRefutedAt (d : Declarations) (table : Terms) (asserts : List TermId) (places : List ℕ) (derived : Derived) : Type 0 where
  pub chosen : List TermId
  pub stand : AreAt asserts places chosen
  pub refutation : IsRefutation d table chosen derived

-- the places are some of the given ones, in order
pub record ArePart (given places : List ℕ) : Type 0 where
  pub rising : AreRising places
  pub among : (place : ℕ) → Contains places place → Contains given place

-- the first places have each of the second but this one
abbrev pub HaveOthers : List ℕ → List ℕ → ℕ → Type 0
HaveOthers asked places place = (other : ℕ) → Contains places other → (other ≡ place → ⊥) → Contains asked other

-- the interpretation makes each assertion at these places true but that at this one
pub record IsShown (d : Declarations) (table : Terms) (asserts : List TermId) (places : List ℕ) (place : ℕ) (i : Interp) : Type 0 where
  pub proper : IsProper d i
  pub others : (other : ℕ) (t : TermId) → Contains places other → (other ≡ place → ⊥) → slice_get asserts other ≡ Some t → truth_value d i table t ≡ true

-- the record is that of a search that spent its decisions on assertions at some of the given places, with each of these places but
-- without this one
pub record IsLeftOpen (d : Declarations) (table : Terms) (asserts : List TermId) (budget : ℕ) (given places : List ℕ) (place : ℕ) (spent : Spent) : Type 0 where
  pub asked : List ℕ
  pub part : ArePart given asked
  pub others : HaveOthers asked places place
  pub without : Contains asked place → ⊥
  pub chosen : List TermId
  pub stand : AreAt asserts asked chosen
  pub spending : IsSpending d table chosen budget spent

-- the assertion at this place is needed beside those at the others, or this was left open
abbrev pub IsNeed : Declarations → Terms → List TermId → ℕ → List ℕ → List ℕ → ℕ → Need → Type 0
IsNeed d table asserts budget given places place (Shown i) = IsShown d table asserts places place i
IsNeed d table asserts budget given places place (Open spent) = IsLeftOpen d table asserts budget given places place spent

-- the core has some of the given places, in order, and a derivation that refutes the assertions there; and for each place there is
-- an interpretation or a record, in order
pub record IsShrunk (d : Declarations) (table : Terms) (asserts : List TermId) (budget : ℕ) (given : List ℕ) (shrunk : Shrunk) : Type 0 where
  pub part : ArePart given shrunk.core.places.items
  pub refuted : IsRefutedAt d table asserts shrunk.core.places.items shrunk.core.derivation
  pub needs : AllZip (IsNeed d table asserts budget given shrunk.core.places.items) shrunk.core.places.items shrunk.needs.items
