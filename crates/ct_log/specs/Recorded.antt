-- What a record holds, and what a derivation keeps.
use Rattle.std.specs.Prelude.{List, All}
use Rattle.ct_sorts.specs.Declarations.{Declarations}
use Rattle.ct_card.specs.Sizes.{Table, AreSizes}
use Rattle.ct_terms.specs.declared.ids.TermId.{TermId}
use Rattle.ct_terms.specs.Terms.{Terms, IsBoolean, AreSorted}
use Rattle.ct_log.specs.declared.line.Line.{Line}
use Rattle.ct_log.specs.Acceptance.{AreAccepted}

-- the terms of a table, and lines over them
pub record Recorded : Type 0 where
  pub terms : Terms
  pub lines : List Line

-- a record with the declarations, the sizes and the assertions that its lines are judged over
pub record Derived : Type 0 where
  pub declarations : Declarations
  pub sizes : Table
  pub rec : Recorded
  pub asserts : List TermId

-- lines may be judged over these: the sizes are those of the declarations, the table is well sorted over them, and the
-- assertions are Boolean terms of it
pub record AreJudges (d : Declarations) (sizes : Table) (terms : Terms) (asserts : List TermId) : Type 0 where
  pub sized : AreSizes d sizes
  pub sorted : AreSorted d terms
  pub booleans : All (IsBoolean terms) asserts

-- every line is accepted after those before it
pub record IsDerivation (derived : Derived) : Type 0 where
  pub judges : AreJudges derived.declarations derived.sizes derived.rec.terms derived.asserts
  pub accepted : AreAccepted derived.declarations derived.rec.terms derived.asserts derived.rec.lines
