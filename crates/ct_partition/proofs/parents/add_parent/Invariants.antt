use Rattle.std.proofs.Common.{take}
use Rattle.ct_partition.proofs.WaitingLemmas.{IsParentAdded}
use Rattle.ct_partition.proofs.parents.add_parent.Given as goal

abbrev pub invariant-loop-child : goal.invariant-loop-child
invariant-loop-child l = IsParentAdded l.initial.rows.items l.parent (take l.child-index l.children) l.rows.items
