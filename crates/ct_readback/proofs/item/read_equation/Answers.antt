use Rattle.ct_sexpr.specs.View.{expression_of}
use Rattle.ct_readback.proofs.AnswerLemmas.{ok_map}
use Rattle.ct_readback.proofs.PartLemmas.{equation_said, equation_unsaid}
use Rattle.ct_readback.proofs.item.read_equation.Goals as goal

pub returns-in-None-clause-said : goal.returns-in-None-clause-said
returns-in-None-clause-said c = equation_unsaid c.args.sig.now c.args.graph.now c.args.i c.args.s (expression_of c.args.equation.now) c.in-None.ensures.value

pub returns-in-Some-clause-said : goal.returns-in-Some-clause-said
returns-in-Some-clause-said c =
    ok_map _ _ c.push_value.result
    (λ found h. equation_said c.args.sig.now c.push_value.new.graph c.args.i c.args.s (expression_of c.args.equation.now) (expression_of c.in-Some.value.now) found c.in-Some.ensures.value h)
    c.push_value.ensures.said
