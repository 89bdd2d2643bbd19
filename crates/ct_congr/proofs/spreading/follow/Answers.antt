use Rattle.std.proofs.Common.{[], refl, sym, ◌∙◌}
use Rattle.std.proofs.lemmas.List.{append-nil}
use Rattle.std.proofs.lemmas.Option.{none-some}
use Rattle.ct_congr.proofs.spreading.follow.Goals as goal

pub spread-requires-clause-join : goal.spread-requires-clause-join
spread-requires-clause-join c = λ was earlier is. rw c.in-Some.is at (c.requires.last was earlier is)

pub returns-in_ok-answer-in-Some-clause-followed : goal.returns-in_ok-answer-in-Some-clause-followed
returns-in_ok-answer-in-Some-clause-followed c = λ was earlier is. rw c.in-Some.is (c.in_ok-answer-in-Some.ensures.spread was earlier is)

pub returns-in-None-clause-more : goal.returns-in-None-clause-more
returns-in-None-clause-more c = ([], sym (append-nil c.args.keys.now))

pub returns-in-None-clause-followed : goal.returns-in-None-clause-followed
returns-in-None-clause-followed c = λ was earlier is. rw c.in-None.is refl

pub returns-in_ok-answer-in-Some-clause-same : goal.returns-in_ok-answer-in-Some-clause-same
returns-in_ok-answer-in-Some-clause-same c = λ none. absurd (none-some c.in-Some.union (sym none ∙ c.in-Some.is))
