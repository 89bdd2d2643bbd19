use Rattle.std.proofs.Common.{arith}
use Rattle.ct_log.proofs.LookLemmas.{not_told}
use Rattle.ct_log.proofs.RestLemmas.{GaveEach-lengths, GaveEach-next, GaveEach-stop, GaveEach-end}
use Rattle.ct_log.proofs.congruence.gave_each.Goals as goal

pub returns-then-xs-steps : goal.returns-then-xs-steps
returns-then-xs-steps c = record {
  each = (λ e. cc, λ all. let long = (GaveEach-lengths c.args.given.now c.args.steps.now c.args.xs.now c.args.ys.now all).0 in absurd (omega (arith, c.if-xs-steps.true)));
}

pub returns-then-ys-steps : goal.returns-then-ys-steps
returns-then-ys-steps c = record {
  each = (λ e. cc, λ all. let long = (GaveEach-lengths c.args.given.now c.args.steps.now c.args.xs.now c.args.ys.now all).1 in absurd (omega (arith, c.if-ys-steps.true)));
}

pub returns-then-not-gave : goal.returns-then-not-gave
returns-then-not-gave c = record {
  each = (
    λ e. cc,
    λ all. absurd (GaveEach-stop c.args.given.now c.args.steps.now c.args.xs.now c.args.ys.now c.loop-i.i 0 (record { 0 = 0 }) (record { 0 = 0 }) c.loop-i-test.true (omega (arith, c.if-xs-steps.false)) (omega (arith, c.if-ys-steps.false)) c.loop-i.invariant
        (not_told c.gave.result _ c.gave.ensures.gave c.if-not-gave.true) all),
  );
}

pub loop-i-preserved : goal.loop-i-preserved
loop-i-preserved c =
    GaveEach-next c.args.given.now c.args.steps.now c.args.xs.now c.args.ys.now c.loop-i.i 0 (record { 0 = 0 }) (record { 0 = 0 }) c.loop-i-test.true (omega (arith, c.if-xs-steps.false)) (omega (arith, c.if-ys-steps.false)) c.loop-i.invariant
    (c.gave.ensures.gave.0 c.if-not-gave.false)

pub returns : goal.returns
returns c = record {
  each = (
    λ e. GaveEach-end c.args.given.now c.args.steps.now c.args.xs.now c.args.ys.now c.loop-i.i c.loop-i-test.false (omega (arith, c.if-xs-steps.false, c.loop-i-test.false)) (omega (arith, c.if-ys-steps.false, c.loop-i-test.false)) c.loop-i.invariant,
    λ all. cc,
  );
}
