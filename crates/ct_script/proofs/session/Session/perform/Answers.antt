use Rattle.std.proofs.Common.{refl, Ok}
use Rattle.std.proofs.lemmas.Result.{err_from_is_err_and}
use Rattle.ct_command.specs.Seen.{command_seen}
use Rattle.ct_step.specs.Done.{state_of}
use Rattle.ct_script.proofs.CourseLemmas.{done, store_done, not_done, store_left, unchanged}
use Rattle.ct_script.proofs.session.Session.perform.Goals as goal

pub invariant_of-self : goal.invariant_of-self
invariant_of-self c = (c.perform.ensures.sound, c.perform.ensures.cache, c.perform.ensures.known)

pub returns-in-Ok-clause-stepped : goal.returns-in-Ok-clause-stepped
returns-in-Ok-clause-stepped c =
    let s = c.self.inside in
    done s.state s.number s.errors.items s.store c.args.self.now c.self.view_is c.args.line c.perform.new.state c.counted-number.result c.perform.new.store (command_seen c.args.command) c.counted-number.ensures.value c.in-Ok.answer c.in-Ok.ensures.done

pub returns-in-Ok-clause-stored : goal.returns-in-Ok-clause-stored
returns-in-Ok-clause-stored c =
    let s = c.self.inside in
    store_done s.state s.number s.errors.items s.store c.args.self.now c.self.view_is c.args.line c.perform.new.state c.counted-number.result c.perform.new.store (command_seen c.args.command) c.counted-number.ensures.value c.in-Ok.answer c.in-Ok.ensures.done c.in-Ok.ensures.stored

pub returns-in_ok-answer-in-Err-Refused-clause-stepped : goal.returns-in_ok-answer-in-Err-Refused-clause-stepped
returns-in_ok-answer-in-Err-Refused-clause-stepped c =
    let s = c.self.inside in
    let refused = rw c.in-Err-Refused.field-0-is at c.in-Err-Refused.ensures.done in
    not_done s.state s.number s.errors.items s.store c.args.self.now c.self.view_is c.args.line c.perform.new.state c.counted-number.result c.perform.new.store (command_seen c.args.command) c.counted-number.ensures.value c.in-Err-Refused.code c.in_ok-answer-in-Err-Refused.answer c.refused.new.errors.items refused c.in_ok-answer-in-Err-Refused.ensures.stored (c.in_ok-answer-in-Err-Refused.ensures.answer (state_of s.state) refl)

pub returns-in_ok-answer-in-Err-Refused-clause-stored : goal.returns-in_ok-answer-in-Err-Refused-clause-stored
returns-in_ok-answer-in-Err-Refused-clause-stored c =
    let s = c.self.inside in
    rw c.in-Err-Refused.ensures.stored (store_left s.state s.number s.errors.items s.store c.args.self.now c.self.view_is c.args.line (Ok (command_seen c.args.command)) c.in-Err-Refused.code c.in_ok-answer-in-Err-Refused.answer _ (c.in_ok-answer-in-Err-Refused.ensures.answer (state_of s.state) refl))

pub returns-in_err-answer-in-Err-Refused-clause-unchanged : goal.returns-in_err-answer-in-Err-Refused-clause-unchanged
returns-in_err-answer-in-Err-Refused-clause-unchanged c =
    let s = c.self.inside in
    let refused = rw c.in-Err-Refused.field-0-is at c.in-Err-Refused.ensures.done in
    let p = err_from_is_err_and c.from_residual.result c.from_residual.ensures.1 in
    rw p.1 (unchanged s.state s.number s.errors.items s.store c.args.self.now c.self.view_is c.args.line c.perform.new.state c.refused.new.errors.items c.perform.new.store refused.1 c.in_err-answer-in-Err-Refused.ensures.unchanged c.in-Err-Refused.ensures.stored)

pub returns-in-Err-NoMemory-clause-unchanged : goal.returns-in-Err-NoMemory-clause-unchanged
returns-in-Err-NoMemory-clause-unchanged c =
    let s = c.self.inside in
    let same = rw c.in-Err-NoMemory.field-0-is at c.in-Err-NoMemory.ensures.done in
    unchanged s.state s.number s.errors.items s.store c.args.self.now c.self.view_is c.args.line c.perform.new.state s.errors.items c.perform.new.store same refl c.in-Err-NoMemory.ensures.stored
