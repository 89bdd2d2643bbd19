use Rattle.std.proofs.Common.{[]}
use Rattle.ct_congr.specs.Partition.{InOneClass}
use Rattle.ct_congr.specs.Joined.{AreJoined}
use Rattle.ct_congr.proofs.JoinedLemmas.{AreJoined-none}
use Rattle.ct_congr.proofs.CoveredLemmas.{IsCovered-wider, AreRulesClosed-covered, no_clash}
use Rattle.ct_congr.proofs.covered.covering.Goals as goal

pub returns : goal.returns
returns c = record {
  closed = λ d terms reps cons keys sorted single begins g covered.
      AreRulesClosed-covered d terms reps cons keys sorted single begins g.long g.cons_long g.own g.stored (IsCovered-wider d terms reps cons keys (AreJoined reps []) (InOneClass reps) (AreJoined-none reps) covered);
  one = λ d terms reps cons keys sorted single begins g covered.
      no_clash d terms reps cons keys sorted single begins g.long g.cons_long g.own g.stored (IsCovered-wider d terms reps cons keys (AreJoined reps []) (InOneClass reps) (AreJoined-none reps) covered);
}
