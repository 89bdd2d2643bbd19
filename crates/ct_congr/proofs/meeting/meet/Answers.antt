use Rattle.std.proofs.Common.{inl}
use Rattle.std.proofs.lemmas.Bool.{OnTrue_at}
use Rattle.ct_congr.proofs.meeting.meet.Goals as goal

pub returns-then-is_lone-clause-met : goal.returns-then-is_lone-clause-met
returns-then-is_lone-clause-met c = λ core has. inl (c.requires.lone c.args.t (OnTrue_at c.if-is_lone.true c.is_lone.ensures.marked))
