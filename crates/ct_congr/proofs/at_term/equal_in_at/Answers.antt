use Rattle.std.proofs.Common.{refl}
use Rattle.ct_congr.proofs.at_term.equal_in_at.Goals as goal

pub returns-clause-waits : goal.returns-clause-waits
returns-clause-waits c = λ d.
    c.in_ok-let_wait.ensures.waits d c.args.table.now
    (refl, record { left = c.args.a; right = c.args.b; stands = c.requires.stands; equal = rw c.if-not-are_equal.false at c.are_equal.ensures.value; answer = refl })
    tt
