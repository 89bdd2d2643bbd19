use Rattle.std.proofs.Common.{[]}
use Rattle.ct_sexpr.specs.View.{expression_of}
use Rattle.ct_check.specs.Trees.{sorted_of}
use Rattle.ct_names.specs.Elaboration.{elaborated}
use Rattle.ct_names.specs.Needs.{ends_with}
use Rattle.ct_names.specs.Refusals.{out_of_scope}
use Rattle.ct_stack.proofs.ErrorLemmas.{comes_error_of}
use Rattle.ct_stack.proofs.sorts.term_there.Goals as goal

pub returns-in-Err-clause-value : goal.returns-in-Err-clause-value
returns-in-Err-clause-value c =
    comes_error_of sorted_of (ends_with out_of_scope (elaborated c.args.scope.now.sig [] (expression_of c.args.expr.now))) c.command_error.result c.in-Err.error c.command_error.ensures.refused c.in-Err.ensures.refused
