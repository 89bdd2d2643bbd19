use Rattle.std.proofs.Common.{◌≡◌}
use Rattle.ct_sexpr.specs.Expression.{nesting}
use Rattle.ct_sexpr.specs.View.{expression_of}
use Rattle.ct_readback.specs.Rows.{is_choice}
use Rattle.ct_readback.proofs.rows.is_choice.Given as goal

abbrev pub invariant-loop-test : goal.invariant-loop-test
invariant-loop-test l = is_choice l.parameters (expression_of l.left) ≡ is_choice l.parameters (expression_of l.body)

abbrev pub decreases-loop-test : goal.decreases-loop-test
decreases-loop-test l = nesting (expression_of l.left)
