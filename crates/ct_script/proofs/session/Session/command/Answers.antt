use Rattle.std.proofs.Common.{Ok, refl}
use Rattle.ct_sexpr.specs.View.{expression_of}
use Rattle.ct_command.specs.Seen.{command_seen}
use Rattle.ct_command.specs.Reading.{command}
use Rattle.ct_step.specs.Done.{state_of}
use Rattle.ct_script.proofs.CourseLemmas.{stepped, stored_as, unread, store_left}
use Rattle.ct_script.proofs.session.Session.command.Goals as goal

pub returns-in-Ok-clause-stepped : goal.returns-in-Ok-clause-stepped
returns-in-Ok-clause-stepped c =
    stepped c.perform.result c.args.self.now c.args.line (expression_of c.args.expr.now) (command_seen c.in-Ok.command) c.perform.new.self c.in-Ok.ensures.value c.perform.ensures.stepped

pub returns-in-Ok-clause-stored : goal.returns-in-Ok-clause-stored
returns-in-Ok-clause-stored c =
    stored_as c.perform.result c.args.self.now c.perform.new.self (expression_of c.args.expr.now) (Ok (command_seen c.in-Ok.command)) c.in-Ok.ensures.value c.perform.ensures.stored

pub returns-in_ok-refused-in-Err-Refused-clause-stepped : goal.returns-in_ok-refused-in-Err-Refused-clause-stepped
returns-in_ok-refused-in-Err-Refused-clause-stepped c =
    let s = c.self.inside in
    let read = rw c.in-Err-Refused.field-0-is at c.in-Err-Refused.ensures.value in
    unread s.state s.number s.errors.items s.store c.args.self.now c.self.view_is c.args.line (expression_of c.args.expr.now) c.in-Err-Refused.code c.in_ok-refused-in-Err-Refused.field-0 c.refused.new.errors.items read c.in_ok-refused-in-Err-Refused.ensures.stored (c.in_ok-refused-in-Err-Refused.ensures.answer (state_of s.state) refl)

pub returns-in_ok-refused-in-Err-Refused-clause-stored : goal.returns-in_ok-refused-in-Err-Refused-clause-stored
returns-in_ok-refused-in-Err-Refused-clause-stored c =
    let s = c.self.inside in
    store_left s.state s.number s.errors.items s.store c.args.self.now c.self.view_is c.args.line (command (expression_of c.args.expr.now)) c.in-Err-Refused.code c.in_ok-refused-in-Err-Refused.field-0 _ (c.in_ok-refused-in-Err-Refused.ensures.answer (state_of s.state) refl)
