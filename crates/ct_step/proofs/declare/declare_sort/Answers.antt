use Rattle.std.proofs.lemmas.Result.{err_from_is_err_and}
use Rattle.ct_command.specs.Command.{declare_sort}
use Rattle.ct_step.specs.Done.{state_of}
use Rattle.ct_step.proofs.DoneLemmas.{not_done, changes, quietly, same_stack}
use Rattle.ct_step.proofs.declare.declare_sort.Goals as goal

pub returns-in_err-declare_sort : goal.returns-in_err-declare_sort
returns-in_err-declare_sort c =
    let p = err_from_is_err_and c.from_residual-in_err-declare_sort.result c.from_residual-in_err-declare_sort.ensures.1 in
    rw (p.1, p.2) (record { done = λ number. not_done c.args.state.now _ number (declare_sort c.args.name.now c.args.params) _ c.in_err-declare_sort.ensures.refused (same_stack c.args.state.now c.declare_sort.new.self c.in_err-declare_sort.ensures.unchanged) })

pub returns : goal.returns
returns c =
    record {
      done = λ number.
          changes c.args.state.now number (declare_sort c.args.name.now c.args.params) c.in_ok-declare_sort.ensures.accepted c.in_ok-answer.answer c.declare_sort.new.self
          (quietly (state_of c.args.state.now) c.declare_sort.new.self _ c.in_ok-declare_sort.ensures.ok)
          c.in_ok-answer.ensures.answer;
    }
