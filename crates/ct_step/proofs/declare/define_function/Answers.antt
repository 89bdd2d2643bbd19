use Rattle.std.proofs.Common.{◌≡◌, List, map, ap}
use Rattle.std.proofs.lemmas.Result.{err_from_is_err_and}
use Rattle.ct_sexpr.specs.View.{expression_of}
use Rattle.ct_command.specs.declared.command.Named.{Named as ReadNamed}
use Rattle.ct_command.specs.Seen.{named_seen}
use Rattle.ct_stack.specs.Stack.{in_context, defined_in}
use Rattle.ct_stack.specs.Elaborations.{defined_function}
use Rattle.ct_stack.specs.Refusal.{over}
use Rattle.ct_step.proofs.DoneLemmas.{needing_map}
use Rattle.ct_command.specs.Command.{define_fun}
use Rattle.ct_step.specs.Done.{state_of}
use Rattle.ct_step.proofs.DoneLemmas.{not_done_as, done_as, changes, quietly, same_stack}
use Rattle.ct_step.proofs.declare.define_function.Goals as goal

pub returns-in_err-define_function : goal.returns-in_err-define_function
returns-in_err-define_function c =
    let same = ap (λ (x : List ReadNamed). define_fun c.args.name.now (map named_seen x) (expression_of c.args.sort.now) (expression_of c.args.term.now)) c.as_slice.ensures.value in
    let p = err_from_is_err_and c.from_residual-in_err-define_function.result c.from_residual-in_err-define_function.ensures.1 in
    rw (p.1, p.2) (record { done = λ number. not_done_as c.args.state.now _ number (define_fun c.args.name.now (map named_seen c.as_slice.result.now) (expression_of c.args.sort.now) (expression_of c.args.term.now)) (define_fun c.args.name.now (map named_seen c.args.params.items) (expression_of c.args.sort.now) (expression_of c.args.term.now)) _ same c.in_err-define_function.ensures.refused (same_stack c.args.state.now c.define_function.new.self c.in_err-define_function.ensures.unchanged) })

pub returns : goal.returns
returns c =
    let same = ap (λ (x : List ReadNamed). define_fun c.args.name.now (map named_seen x) (expression_of c.args.sort.now) (expression_of c.args.term.now)) c.as_slice.ensures.value in
    record {
      done = λ number.
          done_as c.args.state.now _ number c.in_ok-answer.answer (define_fun c.args.name.now (map named_seen c.as_slice.result.now) (expression_of c.args.sort.now) (expression_of c.args.term.now)) (define_fun c.args.name.now (map named_seen c.args.params.items) (expression_of c.args.sort.now) (expression_of c.args.term.now)) same
          (changes c.args.state.now number (define_fun c.args.name.now (map named_seen c.as_slice.result.now) (expression_of c.args.sort.now) (expression_of c.args.term.now)) c.in_ok-define_function.ensures.accepted c.in_ok-answer.answer c.define_function.new.self
          (needing_map (λ d. defined_function d c.args.name.now (map named_seen c.as_slice.result.now) (expression_of c.args.sort.now) (expression_of c.args.term.now)) c.args.state.now.stack.top.context.declarations (λ later f. c.define_function.new.self ≡ in_context c.args.state.now.stack (defined_in (over c.args.state.now.stack.top.context later) f)) _ (λ later f e. quietly (state_of c.args.state.now) c.define_function.new.self _ e) c.in_ok-define_function.ensures.ok)
          c.in_ok-answer.ensures.answer);
    }
