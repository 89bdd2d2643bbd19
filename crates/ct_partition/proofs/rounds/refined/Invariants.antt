use Rattle.ct_partition.specs.Points.{points}
use Rattle.ct_partition.proofs.RoundLemmas.{IsRound}
use Rattle.ct_partition.proofs.rounds.refined.Given as goal

abbrev pub invariant-loop-i : goal.invariant-loop-i
invariant-loop-i l = IsRound (points l.labels l.starts l.children) l.blocks l.representatives l.next.items l.i
