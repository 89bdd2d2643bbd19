use Rattle.std.proofs.Common.{◌⊎◌}
use Rattle.std.specs.List.{Contains}
use Rattle.std.specs.VecDeque.{deque_len}
use Rattle.ct_congr.specs.declared.merge.Merge.{Merge}
use Rattle.ct_congr.specs.Partition.{InOneClass}
use Rattle.ct_congr.proofs.running.next.Given as goal

abbrev pub invariant-loop-merge : goal.invariant-loop-merge
invariant-loop-merge l = record {
  from : (n : Merge) → Contains l.waiting.items n → Contains l.initial.waiting.items n;
  rest : (n : Merge) → Contains l.initial.waiting.items n → InOneClass l.reps n.left n.right ⊎ Contains l.waiting.items n;
}

abbrev pub decreases-loop-merge : goal.decreases-loop-merge
decreases-loop-merge l = deque_len l.waiting
