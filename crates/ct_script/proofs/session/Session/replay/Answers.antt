use Rattle.std.proofs.Common.{refl}
use Rattle.ct_sexpr.specs.View.{expression_of}
use Rattle.ct_step.specs.Done.{state_of}
use Rattle.ct_script.proofs.ReplayLemmas.{unread}
use Rattle.ct_script.proofs.session.Session.replay.Goals as goal

pub returns-in_ok-answer-in-Err-Refused-clause-replayed : goal.returns-in_ok-answer-in-Err-Refused-clause-replayed
returns-in_ok-answer-in-Err-Refused-clause-replayed c =
    let s = c.self.inside in
    let read = rw c.in-Err-Refused.field-0-is at c.in-Err-Refused.ensures.value in
    unread s.state s.number s.errors.items s.store c.args.self.now c.self.view_is c.args.standing c.args.line (expression_of c.args.expr.now) c.in-Err-Refused.code c.in_ok-answer-in-Err-Refused.answer _ c.refused.new.errors.items read c.in_ok-answer-in-Err-Refused.ensures.stored (c.in_ok-answer-in-Err-Refused.ensures.answer (state_of s.state) refl) refl refl refl
