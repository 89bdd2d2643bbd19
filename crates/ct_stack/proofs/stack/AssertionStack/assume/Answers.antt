use Rattle.std.proofs.Common.{◌∙◌, false, ap}
use Rattle.ct_command.specs.Seen.{all_seen}
use Rattle.ct_stack.specs.Assuming.{list_seen}
use Rattle.ct_stack.specs.Levels.{popped}
use Rattle.ct_stack.specs.Stack.{Stack}
use Rattle.ct_stack.proofs.AssumingLemmas.{assumes_pushed, refuses_pushed}
use Rattle.ct_stack.proofs.ErrorLemmas.{same_refusal}
use Rattle.ct_stack.proofs.stack.AssertionStack.assume.Goals as goal

pub returns-in-Ok-clause-ok : goal.returns-in-Ok-clause-ok
returns-in-Ok-clause-ok c =
    assumes_pushed (all_seen c.args.terms.now) c.args.self.now c.add_levels.new.self c.in_ok-add_levels.ensures.pushed c.assume_here.new.self (list_seen c.in-Ok.assumed) c.in-Ok.ensures.ok

pub returns-in-Err-clause-refused : goal.returns-in-Err-clause-refused
returns-in-Err-clause-refused c = λ n e.
    refuses_pushed (all_seen c.args.terms.now) c.args.self.now c.add_levels.new.self c.in_ok-add_levels.ensures.pushed n (c.in-Err.ensures.refused n (same_refusal _ n e))

pub returns-in-Err-clause-unchanged : goal.returns-in-Err-clause-unchanged
returns-in-Err-clause-unchanged c = c.leave_one.ensures.popped ∙ ap (λ (s : Stack). popped false s) (c.in-Err.ensures.unchanged ∙ c.in_ok-add_levels.ensures.pushed)
