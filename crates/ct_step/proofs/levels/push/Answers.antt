use Rattle.std.proofs.lemmas.Result.{err_from_is_err_and}
use Rattle.ct_command.specs.Command.{push}
use Rattle.ct_step.specs.Done.{state_of}
use Rattle.ct_step.proofs.DoneLemmas.{not_done, changes, quietly, same_stack}
use Rattle.ct_step.proofs.levels.push.Goals as goal

pub returns-in_err-push : goal.returns-in_err-push
returns-in_err-push c =
    let p = err_from_is_err_and c.from_residual-in_err-push.result c.from_residual-in_err-push.ensures.1 in
    rw (p.1, p.2) (record { done = λ number. not_done c.args.state.now _ number (push c.args.count) _ c.in_err-push.ensures.refused (same_stack c.args.state.now c.push.new.self c.in_err-push.ensures.unchanged); cache = c.close_level.ensures.cache })

pub returns : goal.returns
returns c =
    record {
      done = λ number.
          changes c.args.state.now number (push c.args.count) c.in_ok-push.ensures.accepted c.in_ok-answer.answer c.push.new.self
          (quietly (state_of c.args.state.now) c.push.new.self _ c.in_ok-push.ensures.ok)
          c.in_ok-answer.ensures.answer;
      cache = c.close_level.ensures.cache;
    }
