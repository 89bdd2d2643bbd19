use Rattle.ct_log.proofs.FollowLemmas.{step_follows, cycle_follows}
use Rattle.ct_log.proofs.theorems.steps_follow.Goals as goal

pub returns-clause-step : goal.returns-clause-step
returns-clause-step c = λ d terms clause given step x y h. step_follows given d terms clause step x y h

pub returns-clause-cycle : goal.returns-clause-cycle
returns-clause-cycle c = λ d terms given hops h. cycle_follows given d terms hops h
