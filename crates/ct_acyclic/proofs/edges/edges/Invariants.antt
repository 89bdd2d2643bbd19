use Rattle.std.proofs.Common.{length}
use Rattle.ct_acyclic.specs.Edges.{AreRows, IsRow}
use Rattle.ct_acyclic.proofs.edges.edges.Given as goal

abbrev pub invariant-loop-t : goal.invariant-loop-t
invariant-loop-t l = AreRows (length l.classes.terms) (IsRow l.classes) l.t l.starts.items l.kids.items
