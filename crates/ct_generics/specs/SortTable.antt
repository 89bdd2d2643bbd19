-- The sorts of a table, and how long their texts are as far as it was counted.
use Rattle.std.specs.Prelude.{◌≤◌, ℕ, List, length}
use Rattle.ct_generics.specs.declared.heads.StoredHead.{StoredHead}
use Rattle.ct_generics.specs.declared.generics.Generics.{Generics}
use Rattle.ct_generics.specs.declared.nodes.Node.{Node}
use Rattle.ct_generics.specs.declared.sort_table.SortTable.{SortTable}
use Rattle.ct_generics.specs.Expression.{Expression}
use Rattle.ct_generics.specs.Declarations.{Head}
use Rattle.ct_generics.specs.Lengths.{AreCounts}
use Rattle.ct_generics.specs.Nodes.{StandFor}
use Rattle.ct_generics.specs.Stored.{AreStored}

-- the sorts of the table are these, one for one
abbrev pub AreSorts : SortTable → List Expression → Type 0
AreSorts table sorts = StandFor table.expressions table.sorts sorts

-- the counts are of the lengths of the texts of the first nodes
pub record IsCounted (heads : List StoredHead) (nodes : List Node) (counts : List ℕ) : Type 0 where
  pub within : length counts ≤ length nodes
  pub counted : (hs : List Head) → AreStored heads hs → AreCounts hs nodes counts

-- those of the table are right where these sorts, generics and synonyms are declared
abbrev pub AreCounted : Generics → SortTable → Type 0
AreCounted g table = IsCounted g.heads table.expressions table.counts
