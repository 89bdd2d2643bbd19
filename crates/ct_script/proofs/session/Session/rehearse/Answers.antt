use Rattle.std.proofs.Common.{◌∙◌, refl, ap}
use Rattle.std.proofs.lemmas.Result.{err_from_is_err_and}
use Rattle.ct_command.specs.Seen.{all_seen}
use Rattle.ct_step.specs.Done.{state_of}
use Rattle.ct_step.proofs.EvidenceLemmas.{both_same}
use Rattle.ct_script.specs.Session.{Course}
use Rattle.ct_script.proofs.CourseLemmas.{unchanged}
use Rattle.ct_script.proofs.ReplayLemmas.{went_through, was_refused}
use Rattle.ct_script.proofs.session.Session.rehearse.Goals as goal

pub invariant_of-self : goal.invariant_of-self
invariant_of-self c =
    let s = c.self.inside in
    (c.rehearse_assuming.ensures.sound s.store c.self.invariant.0, c.rehearse_assuming.ensures.cache s.cache c.self.invariant.1, c.rehearse_assuming.ensures.known s.known c.self.invariant.2)

pub returns-in-Ok-clause-rehearsed : goal.returns-in-Ok-clause-rehearsed
returns-in-Ok-clause-rehearsed c =
    let s = c.self.inside in
    went_through s.state s.number s.errors.items s.store c.args.self.now c.self.view_is c.args.standing c.args.line (all_seen c.args.terms.now) c.rehearse_assuming.new.state _ c.in-Ok.ensures.rehearsed refl refl refl

pub returns-in-Ok-clause-unanswered : goal.returns-in-Ok-clause-unanswered
returns-in-Ok-clause-unanswered c = λ none. c.in-Ok.ensures.rehearsed.unanswered ∙ ap (λ (t : Course). t.evidence) c.self.view_is ∙ none

pub returns-in_ok-answer-in-Err-Refused-clause-rehearsed : goal.returns-in_ok-answer-in-Err-Refused-clause-rehearsed
returns-in_ok-answer-in-Err-Refused-clause-rehearsed c =
    let s = c.self.inside in
    let why = rw c.in-Err-Refused.field-0-is at c.in-Err-Refused.ensures.refused in
    was_refused s.state s.number s.errors.items s.store c.args.self.now c.self.view_is c.args.standing c.args.line (all_seen c.args.terms.now) c.rehearse_assuming.new.state c.in-Err-Refused.code c.in_ok-answer-in-Err-Refused.answer _ c.refused.new.errors.items (why c.in-Err-Refused.code refl) c.in-Err-Refused.ensures.unchanged c.in_ok-answer-in-Err-Refused.ensures.stored (c.in_ok-answer-in-Err-Refused.ensures.answer (state_of s.state) refl) refl refl refl

pub returns-in_ok-answer-in-Err-Refused-clause-unanswered : goal.returns-in_ok-answer-in-Err-Refused-clause-unanswered
returns-in_ok-answer-in-Err-Refused-clause-unanswered c = λ none.
    let same = c.in-Err-Refused.ensures.unchanged in
    both_same _ _ _ _ _ _ same.responses same.last same.shrunk ∙ ap (λ (t : Course). t.evidence) c.self.view_is ∙ none

pub returns-in_err-answer-in-Err-Refused-clause-unanswered : goal.returns-in_err-answer-in-Err-Refused-clause-unanswered
returns-in_err-answer-in-Err-Refused-clause-unanswered c = λ none.
    let same = c.in-Err-Refused.ensures.unchanged in
    both_same _ _ _ _ _ _ same.responses same.last same.shrunk ∙ ap (λ (t : Course). t.evidence) c.self.view_is ∙ none

pub returns-in_err-answer-in-Err-Refused-clause-unchanged : goal.returns-in_err-answer-in-Err-Refused-clause-unchanged
returns-in_err-answer-in-Err-Refused-clause-unchanged c =
    let s = c.self.inside in
    let p = err_from_is_err_and c.from_residual.result c.from_residual.ensures.1 in
    rw p.1 (unchanged s.state s.number s.errors.items s.store c.args.self.now c.self.view_is c.args.line c.rehearse_assuming.new.state c.refused.new.errors.items s.store c.in-Err-Refused.ensures.unchanged c.in_err-answer-in-Err-Refused.ensures.unchanged refl)

pub returns-in-Err-NoMemory-clause-unanswered : goal.returns-in-Err-NoMemory-clause-unanswered
returns-in-Err-NoMemory-clause-unanswered c = λ none.
    let same = c.in-Err-NoMemory.ensures.unchanged in
    both_same _ _ _ _ _ _ same.responses same.last same.shrunk ∙ ap (λ (t : Course). t.evidence) c.self.view_is ∙ none

pub returns-in-Err-NoMemory-clause-unchanged : goal.returns-in-Err-NoMemory-clause-unchanged
returns-in-Err-NoMemory-clause-unchanged c =
    let s = c.self.inside in
    unchanged s.state s.number s.errors.items s.store c.args.self.now c.self.view_is c.args.line c.rehearse_assuming.new.state s.errors.items s.store c.in-Err-NoMemory.ensures.unchanged refl refl
