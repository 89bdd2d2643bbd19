-- A table that has grown by the core terms of assertions.
use Rattle.std.specs.Prelude.{◌≡◌, ◌≤◌, List, length}
use Rattle.std.specs.List.{flat_map}
use Rattle.ct_terms.specs.declared.ids.TermId.{TermId}
use Rattle.ct_terms.specs.Terms.{Terms, AreOrdered, AreSingle, AreSorted, most_terms}
use Rattle.ct_terms.specs.CoreTree.{CoreTree, subtrees}
use Rattle.ct_formulas.specs.Formula.{Formula}
use Rattle.ct_closure.specs.ClosedTable.{terms_at}
use Rattle.ct_compile.specs.Effect.{IsPrefix, AddsTrees, DoNotFit}
use Rattle.ct_stack.specs.Stack.{Context, cores}

-- the core terms of formulas and all terms under them
abbrev pub terms_of : Context → List Formula → List CoreTree
terms_of c formulas = flat_map subtrees (cores c formulas)

-- the new table begins with the old one, the core terms of the formulas have these numbers in it, and it has nothing else; each of
-- its terms stands once, after the terms under it
pub record IsGrownBy (c : Context) (formulas : List Formula) (old new : Terms) (numbers : List TermId) : Type 0 where
  pub prefix : IsPrefix old new
  pub few : length new ≤ most_terms
  pub sorted : AreSorted c.declarations new
  pub ordered : AreOrdered new
  pub single : AreSingle new
  pub asserted : terms_at new numbers ≡ cores c formulas
  pub nothing_else : AddsTrees (terms_of c formulas) old new

-- the terms that the table lacks of them are more than it has room for
abbrev pub AreTooMany : Context → List Formula → Terms → Type 0
AreTooMany c formulas table = (trees : List CoreTree) × DoNotFit (terms_of c formulas) table trees
