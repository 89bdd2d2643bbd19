use Rattle.std.proofs.Common.{◌≤◌, length, arith}
use Rattle.ct_sexpr.specs.View.{expression_of}
use Rattle.ct_readback.proofs.BodyLemmas.{several_tests}
use Rattle.ct_readback.proofs.item.several_in.Goals as goal

pub returns-in-Some-clause-some : goal.returns-in-Some-clause-some
returns-in-Some-clause-some c = λ choice e. several_tests choice (expression_of c.args.test.now) c.in-Some.tests.now c.in-Some.ensures.value (omega (arith, c.in-Some.len_at_least)) e
