use Rattle.std.proofs.Common.{◌≡◌, true}
use Rattle.ct_rules.proofs.FollowsLemmas.{Follows-wider}
use Rattle.ct_rules.proofs.DerivationLemmas.{Derives-hypothesis, Derives-given, Derives-follows, Derives-least, Derives-more}
use Rattle.ct_rules.proofs.theorems.derivations.Goals as goal

pub returns-clause-states : goal.returns-clause-states
returns-clause-states c = Derives-hypothesis

pub returns-clause-given : goal.returns-clause-given
returns-clause-given c = Derives-given

pub returns-clause-follows : goal.returns-clause-follows
returns-clause-follows c = Derives-follows

pub returns-clause-least : goal.returns-clause-least
returns-clause-least c = λ d terms hyps given related. Derives-least d terms hyps given (λ a b. related a b ≡ true)

pub returns-clause-more : goal.returns-clause-more
returns-clause-more c = Derives-more

pub returns-clause-wider : goal.returns-clause-wider
returns-clause-wider c = λ d terms known wider. Follows-wider d terms (λ a b. known a b ≡ true) (λ a b. wider a b ≡ true)
