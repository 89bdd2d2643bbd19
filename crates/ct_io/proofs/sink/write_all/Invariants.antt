use Rattle.std.proofs.Common.{◌≡◌, ℕ, List, length}
use Rattle.ct_io.proofs.Prefixes.{IsWrittenUpTo}
use Rattle.ct_io.proofs.sink.write_all.Given as goal

abbrev pub invariant-loop-rest : goal.invariant-loop-rest
invariant-loop-rest g l = record {
  written : (prefix : List ℕ) × IsWrittenUpTo l.fn.piece prefix l.rest (g.K.Sink.written l.fn.sink) (g.K.Sink.written l.sink);
  same : g.K.Sink.faults l.sink ≡ g.K.Sink.faults l.fn.sink;
}

abbrev pub decreases-loop-rest : goal.decreases-loop-rest
decreases-loop-rest g l = length l.rest
