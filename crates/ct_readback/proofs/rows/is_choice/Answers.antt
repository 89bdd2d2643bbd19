use Rattle.ct_sexpr.specs.View.{expression_of}
use Rattle.ct_readback.proofs.BodyLemmas.{rest_nests_less}
use Rattle.ct_readback.proofs.rows.is_choice.Goals as goal

pub loop-test-smaller : goal.loop-test-smaller
loop-test-smaller c =
    rest_nests_less (expression_of c.loop-test.left.now) (expression_of c.in-Some.test.now, expression_of c.in-Some.value.now, expression_of c.in-Some.rest.now) c.in-Some.ensures.value
