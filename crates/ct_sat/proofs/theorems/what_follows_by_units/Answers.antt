use Rattle.ct_sat.proofs.UpLemmas.{Up-decided, Up-forced, Up-more_clauses, Up-more_decided, trail_follows, prefix_follows, conflict_contradicts, quiet_consistent, quiet_values, quiet_unset, quiet_lowest}
use Rattle.ct_sat.proofs.theorems.what_follows_by_units.Goals as goal

pub returns-clause-least : goal.returns-clause-least
returns-clause-least c = λ clauses decided set l closed up. up set closed

pub returns-clause-decided : goal.returns-clause-decided
returns-clause-decided c = Up-decided

pub returns-clause-forced : goal.returns-clause-forced
returns-clause-forced c = Up-forced

pub returns-clause-more_clauses : goal.returns-clause-more_clauses
returns-clause-more_clauses c = Up-more_clauses

pub returns-clause-more_decided : goal.returns-clause-more_decided
returns-clause-more_decided c = Up-more_decided

pub returns-clause-trail : goal.returns-clause-trail
returns-clause-trail c = trail_follows

pub returns-clause-prefix : goal.returns-clause-prefix
returns-clause-prefix c = prefix_follows

pub returns-clause-conflict : goal.returns-clause-conflict
returns-clause-conflict c = conflict_contradicts

pub returns-clause-quiet : goal.returns-clause-quiet
returns-clause-quiet c = quiet_consistent

pub returns-clause-values : goal.returns-clause-values
returns-clause-values c = quiet_values

pub returns-clause-unset : goal.returns-clause-unset
returns-clause-unset c = quiet_unset

pub returns-clause-lowest : goal.returns-clause-lowest
returns-clause-lowest c = quiet_lowest
