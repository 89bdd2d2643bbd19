use Rattle.std.proofs.Common.{◌≤◌, subst, arith}
use Rattle.ct_sexpr.proofs.Numbers.{value_after-reaches}
use Rattle.ct_readback.specs.Words.{number_bound}
use Rattle.ct_readback.proofs.words.value_of.Goals as goal

pub returns-in_err-checked_mul-clause-too_great : goal.returns-in_err-checked_mul-clause-too_great
returns-in_err-checked_mul-clause-too_great c =
    let loop = c.loop-digit in
    let reached = value_after-reaches c.args.digits.now loop.digit-index loop.value number_bound c.loop-digit-test.true (omega (arith, c.in_err-checked_mul.ensures)) in
    rw c.from_residual.ensures (subst (λ n. number_bound ≤ n) loop.invariant reached)

pub returns-in_err-value-clause-too_great : goal.returns-in_err-value-clause-too_great
returns-in_err-value-clause-too_great c =
    let loop = c.loop-digit in
    let reached = value_after-reaches c.args.digits.now loop.digit-index loop.value number_bound c.loop-digit-test.true (omega (arith, c.in_err-value.ensures, c.in_ok-checked_mul.ensures.1, c.from.ensures)) in
    rw c.from_residual-in_err-value.ensures (subst (λ n. number_bound ≤ n) loop.invariant reached)
