-- Classes that can be given values.
use Rattle.ct_card.specs.Sizes.{Table, AreSizes}
use Rattle.ct_closure.specs.ClosedTable.{IsClosedTable}
use Rattle.ct_congr.specs.State.{State, IsQuiet}
use Rattle.ct_unique.specs.Partition.{IsStronglyExtensional}
use Rattle.ct_build.specs.Assignment.{AreDecided}
use Rattle.ct_build.specs.OpenClasses.{HaveOwnRepresentatives}

-- no class has two constructors, bisimilar classes are one class, the table is closed, and what is split or Boolean is decided
pub record AreBuildable (state : State) (sizes : Table) : Type 0 where
  pub sized : AreSizes state.declarations sizes
  pub quiet : IsQuiet state
  pub extensional : IsStronglyExtensional state
  pub closed : IsClosedTable state.declarations state.terms
  pub decided : AreDecided state
  pub own : HaveOwnRepresentatives state
