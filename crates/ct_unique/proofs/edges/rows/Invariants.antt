use Rattle.std.proofs.Common.{length}
use Rattle.ct_unique.specs.Nodes.{AreRows, IsRow}
use Rattle.ct_unique.proofs.edges.rows.Given as goal

abbrev pub invariant-loop-t : goal.invariant-loop-t
invariant-loop-t l = AreRows (length l.classes.terms) (IsRow l.classes) l.t l.starts.items l.children.items
