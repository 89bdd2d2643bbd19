use Rattle.ct_sat.proofs.AnalysisLemmas.{FollowsBy-listed}
use Rattle.ct_sat.proofs.theorems.learned_clauses_follow.Goals as goal

pub returns : goal.returns
returns c = record { listed = FollowsBy-listed }
