use Rattle.std.proofs.Common.{◌≡◌, length, true, []}
use Rattle.ct_step.specs.Evidence.{no_evidence}
use Rattle.ct_replay.proofs.ReplayLemmas.{Completes}
use Rattle.ct_replay.proofs.replay.find_check.Given as goal

abbrev pub invariant-loop-expr : goal.invariant-loop-expr
invariant-loop-expr l = record {
  went : Completes l.initial.reader l.initial.session l.reader l.session l.standing l.wanted;
  ended : l.reader.ended ≡ true;
  unanswered : l.session.evidence ≡ no_evidence;
}

abbrev pub decreases-loop-expr : goal.decreases-loop-expr
decreases-loop-expr l = length l.reader.bytes
