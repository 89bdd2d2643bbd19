-- Tables of the formulas that a case asserts.
use Rattle.std.specs.Prelude.{List, All}
use Rattle.ct_sorts.specs.Declarations.{Declarations}
use Rattle.ct_terms.specs.declared.ids.TermId.{TermId}
use Rattle.ct_terms.specs.Terms.{Terms, IsBoolean, AreSorted}
use Rattle.ct_closure.specs.ClosedTable.{AreSubtermsOf}

-- a well-sorted table of the asserted formulas and their subterms
pub record IsAsserted (d : Declarations) (table : Terms) (asserts : List TermId) : Type 0 where
  pub sorted : AreSorted d table
  pub boolean : All (IsBoolean table) asserts
  pub exact : AreSubtermsOf table asserts
