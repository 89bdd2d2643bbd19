use Rattle.std.proofs.Common.{Ok}
use Rattle.ct_sexpr.specs.View.{expression_of}
use Rattle.ct_sorts.specs.Declarations.{Declarations}
use Rattle.ct_names.specs.Sorts.{sort_of}
use Rattle.ct_stack.proofs.NeededLemmas.{comes_grows, sort_lasts}
use Rattle.ct_stack.proofs.ErrorLemmas.{of_command}
use Rattle.ct_stack.proofs.sorts.sort_named.Goals as goal

pub returns-in-Ok-clause-lasts : goal.returns-in-Ok-clause-lasts
returns-in-Ok-clause-lasts c =
    sort_lasts c.args.scope.now.sig c.sort_of-named.new.scope.sig (expression_of c.args.expr.now) c.in-Ok.sort c.sorts.ensures.consistent c.in-Ok.ensures.ok

pub returns-in-Ok-clause-grown : goal.returns-in-Ok-clause-grown
returns-in-Ok-clause-grown c =
    (comes_grows (λ (d : Declarations). sort_of d (expression_of c.args.expr.now)) c.args.scope.now.sig c.sort_of-named.new.scope.sig (Ok c.in-Ok.sort) c.in-Ok.ensures.ok).extends

pub returns-in-Err-clause-refused : goal.returns-in-Err-clause-refused
returns-in-Err-clause-refused c = λ n e. c.in-Err.ensures.refused n (of_command c.command_error.result c.in-Err.error n (c.command_error.ensures.refused n) e)
