use Rattle.std.proofs.Common.{refl}
use Rattle.ct_congr.proofs.rules.equal_out.Goals as goal

pub returns-clause-needed : goal.returns-clause-needed
returns-clause-needed c = λ d hyps old.
    c.in_ok-need.ensures.needed d c.args.table.now hyps
    (record { term = c.args.t; stands = c.requires.stands; holds = rw c.if-not-are_equal.false at c.are_equal.ensures.value }, refl)
    tt old
