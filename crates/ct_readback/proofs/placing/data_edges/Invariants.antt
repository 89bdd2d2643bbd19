use Rattle.std.proofs.Common.{length}
use Rattle.ct_readback.specs.EdgeRows.{AreRows}
use Rattle.ct_readback.specs.Placed.{IsDataRow}
use Rattle.ct_readback.proofs.placing.data_edges.Given as goal

abbrev pub invariant-loop-n : goal.invariant-loop-n
invariant-loop-n l = AreRows (length l.h) (IsDataRow l.sig l.h) l.n l.starts.items l.kids.items
