use Rattle.std.proofs.Common.{◌≡◌, ◌-◌, ◌+◌}
use Rattle.ct_io.specs.declared.desk.Slot.TheVariants as slot
use Rattle.ct_input.specs.Slot.{most_bytes}
use Rattle.ct_run.specs.Progress.{progress}
use Rattle.ct_run.proofs.StreamLemmas.{IsStreaming}
use Rattle.ct_run.proofs.stream.answer_slot.Given as goal

abbrev pub invariant-loop-error : goal.invariant-loop-error
invariant-loop-error g l = record {
  so_far : IsStreaming (g.D.Desk.left l.initial.desk slot.Script) l.initial.session (g.K.Sink.written l.initial.out) (progress l.session l.reader (g.K.Sink.written l.out)) l.total (g.D.Desk.left l.desk slot.Script);
  desk_same : g.D.Desk.faults l.desk ≡ g.D.Desk.faults l.initial.desk;
  sink_same : g.K.Sink.faults l.out ≡ g.K.Sink.faults l.initial.out;
}

abbrev pub decreases-loop-error : goal.decreases-loop-error
decreases-loop-error g l = most_bytes + 1 - l.total
