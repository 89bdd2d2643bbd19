use Rattle.std.proofs.Common.{false, arith}
use Rattle.ct_lemmas.proofs.Pairs.{AllZip-one_length}
use Rattle.ct_log.specs.Gates.{IsTestOf}
use Rattle.ct_log.proofs.LookLemmas.{not_told}
use Rattle.ct_log.proofs.RestLemmas.{AllZip-next, AllZip-stop, AllZip-end}
use Rattle.ct_log.proofs.exhaust.are_tests.Goals as goal

pub returns-then-literals-ctors : goal.returns-then-literals-ctors
returns-then-literals-ctors c = record {
  tests = (λ e. cc, λ all. let long = AllZip-one_length (IsTestOf c.args.table.now c.args.t) c.args.literals.now c.args.ctors.now all in absurd (omega (arith, c.if-literals-ctors.true)));
}

pub returns-then-not-is_test_of : goal.returns-then-not-is_test_of
returns-then-not-is_test_of c = record {
  tests = (
    λ e. cc,
    λ all. absurd (AllZip-stop (IsTestOf c.args.table.now c.args.t) c.args.literals.now c.args.ctors.now c.loop-i.i (record { term = record { 0 = 0 }; positive = false }) (record { 0 = 0 }) (omega (arith, c.if-literals-ctors.false, c.loop-i-test.true)) c.loop-i-test.true c.loop-i.invariant
        (not_told c.is_test_of.result _ c.is_test_of.ensures.test c.if-not-is_test_of.true) all),
  );
}

pub loop-i-preserved : goal.loop-i-preserved
loop-i-preserved c =
    AllZip-next (IsTestOf c.args.table.now c.args.t) c.args.literals.now c.args.ctors.now c.loop-i.i (record { term = record { 0 = 0 }; positive = false }) (record { 0 = 0 }) (omega (arith, c.if-literals-ctors.false, c.loop-i-test.true)) c.loop-i-test.true c.loop-i.invariant
    (c.is_test_of.ensures.test.0 c.if-not-is_test_of.false)

pub returns : goal.returns
returns c = record {
  tests = (
    λ e. AllZip-end (IsTestOf c.args.table.now c.args.t) c.args.literals.now c.args.ctors.now c.loop-i.i (omega (arith, c.if-literals-ctors.false, c.loop-i-test.false)) c.loop-i-test.false c.loop-i.invariant,
    λ all. cc,
  );
}
