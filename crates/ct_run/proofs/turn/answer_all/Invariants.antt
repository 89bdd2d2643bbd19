use Rattle.std.proofs.Common.{◌≡◌, length}
use Rattle.ct_run.specs.Progress.{progress, WentOn}
use Rattle.ct_run.proofs.turn.answer_all.Given as goal

abbrev pub invariant-loop-expr : goal.invariant-loop-expr
invariant-loop-expr g l = record {
  went : WentOn (progress l.initial.session l.initial.reader (g.K.Sink.written l.initial.out)) (progress l.session l.reader (g.K.Sink.written l.out));
  same : g.K.Sink.faults l.out ≡ g.K.Sink.faults l.initial.out;
}

abbrev pub decreases-loop-expr : goal.decreases-loop-expr
decreases-loop-expr g l = length l.reader.bytes
