use Rattle.std.proofs.Common.{refl}
use Rattle.ct_congr.proofs.RuleLemmas.{IsNegation-of}
use Rattle.ct_congr.proofs.rules.negate.Goals as goal

pub returns-clause-needed : goal.returns-clause-needed
returns-clause-needed c = λ d hyps old.
    let equal = rw c.if-not-are_equal.false at c.are_equal.ensures.value in
    c.in_ok-need.ensures.needed d c.args.table.now hyps
    (refl, IsNegation-of c.args.table.now c.args.reps.now c.args.t c.args.a c.truth.result c.truth-2.result c.args.value c.requires.stands c.truth.ensures.value c.truth-2.ensures.value equal)
    tt old
