use Rattle.std.proofs.Common.{sym, arith}
use Rattle.ct_finite.proofs.CapLemmas.{capped_small, capped_great}
use Rattle.ct_finite.proofs.count.capped.Goals as goal

pub returns-then-n-gt-MOST_VALUES-clause-value : goal.returns-then-n-gt-MOST_VALUES-clause-value
returns-then-n-gt-MOST_VALUES-clause-value c = sym (capped_great c.args.n (omega (arith, c.if-n-gt-MOST_VALUES.true)))

pub returns-clause-value : goal.returns-clause-value
returns-clause-value c = sym (capped_small c.args.n (omega (arith, c.if-n-gt-MOST_VALUES.false)))
