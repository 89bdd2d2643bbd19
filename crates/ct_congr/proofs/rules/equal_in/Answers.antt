use Rattle.std.proofs.Common.{refl}
use Rattle.ct_congr.proofs.rules.equal_in.Goals as goal

pub returns-clause-needed : goal.returns-clause-needed
returns-clause-needed c = λ d hyps old.
    c.in_ok-need.ensures.needed d c.args.table.now hyps
    (refl, record { left = c.args.a; right = c.args.b; stands = c.requires.stands; equal = rw c.if-not-are_equal.false at c.are_equal.ensures.value; answer = refl })
    tt old
