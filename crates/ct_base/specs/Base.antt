-- What is kept of the closures of earlier checks: closed beginnings of one table, each over the declarations of its time.
use Rattle.std.specs.Prelude.{◌≡◌, ◌↔◌, ◌≤◌, List, [], ◌∷◌, length, take, reverse, All, Contains}
use Rattle.ct_sorts.specs.declared.ids.SortId.{SortId}
use Rattle.ct_sorts.specs.Declarations.{Declarations}
use Rattle.ct_sorts.specs.Consistent.{IsConsistent}
use Rattle.ct_sorts.specs.Grown.{Extends}
use Rattle.ct_sorts.specs.Marks.{lengths}
use Rattle.ct_card.specs.Sizes.{Table, AreSizes}
use Rattle.ct_terms.specs.declared.ids.TermId.{TermId}
use Rattle.ct_terms.specs.Terms.{Terms, IsBoolean, AreSorted}
use Rattle.ct_terms.specs.CoreTree.{CoreTree}
use Rattle.ct_closure.specs.Closed.{InClosure, HasVariables, most_closure_terms}
use Rattle.ct_closure.specs.ClosedTable.{HasTree, IsClosedTable, IsSplitTerm, AreRising, ClosureValue, terms_at}
use Rattle.ct_closure.specs.Further.{IsClosureOver}
use Rattle.ct_base.specs.declared.stage.Stage.{Stage}
use Rattle.ct_base.specs.declared.base.Base.{Base}

-- the sizes are those of an earlier state of the declarations
pub record AreEarlierSizes (d : Declarations) (sizes : Table) : Type 0 where
  pub earlier : Declarations
  pub consistent : IsConsistent earlier
  pub extends : Extends d earlier
  pub are : AreSizes earlier sizes

-- The first terms of the table, as many as the stage says, are exactly the closure of the first roots, and the first of those
-- that are split are those of that closure, all over an earlier state of the declarations, when so much was declared.
pub record IsStage (d : Declarations) (table : Terms) (roots split : List TermId) (s : Stage) : Type 0 where
  pub earlier : Declarations
  pub consistent : IsConsistent earlier
  pub extends : Extends d earlier
  pub declared : s.declared ≡ lengths earlier
  pub truths : 2 ≤ s.terms
  pub terms : s.terms ≤ length table
  pub few : s.terms ≤ most_closure_terms
  pub some_roots : s.roots ≤ length roots
  pub some_split : s.split ≤ length split
  pub booleans : All (IsBoolean (take s.terms table)) (take s.roots roots)
  pub closure : IsClosureOver earlier (terms_at (take s.terms table) (take s.roots roots)) (take s.terms table) (take s.split split)

-- each of these, the last one first, is a stage within the one after it
abbrev pub AreStages : Declarations → Terms → List TermId → List TermId → List Stage → Type 0
AreStages d table roots split [] = Unit {0}
AreStages d table roots split (s ∷ stages) = IsStage d table roots split s × AreStages d (take s.terms table) (take s.roots roots) (take s.split split) stages

-- what is kept is of these declarations or of an earlier state of them
pub record IsBase (d : Declarations) (b : Base) : Type 0 where
  pub sized : AreEarlierSizes d b.sizes
  pub sorted : AreSorted d b.table
  pub stages : AreStages d b.table b.roots.items b.split.items (reverse b.stages.items)

-- the table of the base is exactly the closure of its roots, whose trees are these; and this is what a search needs to know of it
pub record IsClosedFor (d : Declarations) (trees : List CoreTree) (b : Base) (closure : ClosureValue) : Type 0 where
  pub roots : terms_at b.table b.roots.items ≡ trees
  pub booleans : All (IsBoolean b.table) b.roots.items
  pub sorted : AreSorted d b.table
  pub exact : (t : CoreTree) → HasTree b.table t ↔ InClosure d trees t
  pub is_closed : IsClosedTable d b.table
  pub splits : (t : TermId) → Contains closure.split t ↔ ((sort : SortId) × IsSplitTerm d b.table t sort)
  pub rising : AreRising closure.split
  pub variables : HasVariables d trees closure.variables
  pub few : length b.table ≤ most_closure_terms
