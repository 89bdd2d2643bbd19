use Rattle.std.proofs.Common.{get_or, arith}
use Rattle.ct_sorts.specs.declared.ids.SortId.{SortId}
use Rattle.ct_sexpr.specs.View.{expression_of, expressions_of}
use Rattle.ct_readback.proofs.AnswerLemmas.{ok_map}
use Rattle.ct_readback.proofs.RestLemmas.{count_of}
use Rattle.ct_readback.proofs.TestLemmas.{test_single, test_unlisted, test_listed, other_than_one, only_one, conjuncts_count}
use Rattle.ct_readback.proofs.item.read_test.Goals as goal

abbrev zeroth : SortId
zeroth = record { 0 = 0 }

pub returns-then-sorts-eq1-clause-args : goal.returns-then-sorts-eq1-clause-args
returns-then-sorts-eq1-clause-args c =
    let sorts = c.args.sorts.now in
    ok_map _ _ c.read_single.result
    (λ part h. test_single c.args.sig.now c.read_single.new.graph (get_or sorts 0 zeroth) sorts (expression_of c.args.test.now) part (only_one sorts zeroth (omega (arith, c.if-sorts-eq1.true))) h)
    c.read_single.ensures.args

pub read_equations-requires-clause-one_each : goal.read_equations-requires-clause-one_each
read_equations-requires-clause-one_each c =
    omega (arith, count_of c.in-Some.equations.now, conjuncts_count _ (expression_of c.args.test.now) (expressions_of c.in-Some.equations.now) c.in-Some.ensures.value)

pub returns-in-None-clause-args : goal.returns-in-None-clause-args
returns-in-None-clause-args c =
    test_unlisted c.args.sig.now c.args.graph.now c.args.sorts.now (expression_of c.args.test.now) (other_than_one _ (λ same. omega (arith, c.if-sorts-eq1.false, same))) c.in-None.ensures.value

pub returns-in-Some-clause-args : goal.returns-in-Some-clause-args
returns-in-Some-clause-args c =
    ok_map _ _ c.read_equations.result
    (λ part h. test_listed c.args.sig.now c.read_equations.new.graph c.args.sorts.now (expression_of c.args.test.now) (expressions_of c.in-Some.equations.now) part
    (other_than_one _ (λ same. omega (arith, c.if-sorts-eq1.false, same))) c.in-Some.ensures.value h)
    c.read_equations.ensures.args
