use Rattle.std.proofs.Common.{◌≡◌}
use Rattle.std.proofs.lemmas.Result.{err_from_is_err_and}
use Rattle.ct_sexpr.specs.View.{expression_of}
use Rattle.ct_command.specs.Seen.{all_seen}
use Rattle.ct_sorts.specs.Declarations.{with_function}
use Rattle.ct_stack.specs.Stack.{declaring}
use Rattle.ct_stack.specs.Elaborations.{declared_function}
use Rattle.ct_step.proofs.DoneLemmas.{needing_map}
use Rattle.ct_command.specs.Command.{declare_fun}
use Rattle.ct_step.specs.Done.{state_of}
use Rattle.ct_step.proofs.DoneLemmas.{not_done, changes, quietly, same_stack}
use Rattle.ct_step.proofs.declare.declare_function.Goals as goal

pub returns-in_err-declare_function : goal.returns-in_err-declare_function
returns-in_err-declare_function c =
    let p = err_from_is_err_and c.from_residual-in_err-declare_function.result c.from_residual-in_err-declare_function.ensures.1 in
    rw (p.1, p.2) (record { done = λ number. not_done c.args.state.now _ number (declare_fun c.args.name.now (all_seen c.args.args.now) (expression_of c.args.sort.now)) _ c.in_err-declare_function.ensures.refused (same_stack c.args.state.now c.declare_function.new.self c.in_err-declare_function.ensures.unchanged) })

pub returns : goal.returns
returns c =
    record {
      done = λ number.
          changes c.args.state.now number (declare_fun c.args.name.now (all_seen c.args.args.now) (expression_of c.args.sort.now)) c.in_ok-declare_function.ensures.accepted c.in_ok-answer.answer c.declare_function.new.self
          (needing_map (λ d. declared_function d c.args.name.now (all_seen c.args.args.now) (expression_of c.args.sort.now)) c.args.state.now.stack.top.context.declarations (λ later f. c.declare_function.new.self ≡ declaring c.args.state.now.stack (with_function later f)) _ (λ later f e. quietly (state_of c.args.state.now) c.declare_function.new.self _ e) c.in_ok-declare_function.ensures.ok)
          c.in_ok-answer.ensures.answer;
    }
