use Rattle.ct_stack.proofs.ErrorLemmas.{of_command}
use Rattle.ct_stack.proofs.block.sort_of_field.Goals as goal

pub returns-in-Err-clause-refused : goal.returns-in-Err-clause-refused
returns-in-Err-clause-refused c = λ n e. c.in-Err.ensures.refused n (of_command c.command_error.result c.in-Err.error n (c.command_error.ensures.refused n) e)
