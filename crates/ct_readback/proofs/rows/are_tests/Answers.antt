use Rattle.std.proofs.Common.{◌≤◌, length, sym, ◌∙◌, arith}
use Rattle.ct_sexpr.specs.View.{expression_of}
use Rattle.ct_readback.proofs.BodyLemmas.{several_form}
use Rattle.ct_readback.proofs.rows.are_tests.Goals as goal

pub returns-in-Some : goal.returns-in-Some
returns-in-Some c = record {
  value = c.are_all_tests.ensures.value ∙ sym (several_form c.args.parameters (expression_of c.args.test.now) c.in-Some.tests.now c.in-Some.ensures.value (omega (arith, c.in-Some.len_at_least)));
}
