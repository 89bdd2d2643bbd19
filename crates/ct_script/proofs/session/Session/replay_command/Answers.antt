use Rattle.std.proofs.Common.{◌≡◌, ◌∙◌, Bool, true, false, None, Some, refl, sym, ap, Ok}
use Rattle.std.proofs.lemmas.Result.{IfOk-weaker}
use Rattle.ct_command.specs.Seen.{all_seen, items_seen, command_seen}
use Rattle.ct_step.specs.Rehearsal.{assumed_terms}
use Rattle.ct_script.specs.Replay.{is_check, hangs, standing_by, unless_refused}
use Rattle.ct_script.proofs.ReplayLemmas.{replays, rehearses, passes, none_given}
use Rattle.ct_script.proofs.session.Session.replay_command.Goals as goal

pub returns-then-hangs-clause-replayed : goal.returns-then-hangs-clause-replayed
returns-then-hangs-clause-replayed c =
    let other : is_check (Ok (command_seen c.args.command)) ≡ false = sym c.is_check.ensures.value ∙ c.if-is_check.false in
    let hanging : hangs c.args.standing (Ok (command_seen c.args.command)) ≡ true = sym c.hangs.ensures.value ∙ c.if-hangs.true in
    passes c.args.standing c.args.self.now c.args.self.now c.args.line (command_seen c.args.command) _ other hanging refl refl refl refl

pub returns-in-Some-clause-replayed : goal.returns-in-Some-clause-replayed
returns-in-Some-clause-replayed c =
    let cmd = command_seen c.args.command in
    let other : is_check (Ok cmd) ≡ false = sym c.is_check.ensures.value ∙ c.if-is_check.false in
    let apart : hangs c.args.standing (Ok cmd) ≡ false = sym c.hangs.ensures.value ∙ c.if-hangs.false in
    let some : Some (all_seen c.in-Some.terms.now) ≡ assumed_terms (Ok cmd) = sym (ap items_seen c.in-Some.is) ∙ c.assumed_terms.ensures.value in
    IfOk-weaker c.rehearse.result _ _ (λ r h. rehearses c.args.standing c.args.self.now c.rehearse.new.self c.args.line cmd (all_seen c.in-Some.terms.now) r other apart some h) c.rehearse.ensures.rehearsed

pub returns-clause-replayed : goal.returns-clause-replayed
returns-clause-replayed c =
    let cmd = command_seen c.args.command in
    let other : is_check (Ok cmd) ≡ false = sym c.is_check.ensures.value ∙ c.if-is_check.false in
    let apart : hangs c.args.standing (Ok cmd) ≡ false = sym c.hangs.ensures.value ∙ c.if-hangs.false in
    let none : assumed_terms (Ok cmd) ≡ None = sym c.assumed_terms.ensures.value ∙ ap items_seen c.in_default.is in
    replays c.args.standing c.args.self.now c.perform.new.self c.args.line cmd c.in_ok-answer.answer _ other apart none c.in_ok-answer.ensures.stepped refl refl
    (c.standing_after.ensures.value
    ∙ ap (λ (change : Bool). unless_refused c.in_ok-answer.answer.error c.args.standing (standing_by None change c.args.standing)) c.changes-changes.ensures.value)

pub returns-clause-unanswered : goal.returns-clause-unanswered
returns-clause-unanswered c = λ unanswered.
    let cmd = command_seen c.args.command in
    let other : is_check (Ok cmd) ≡ false = sym c.is_check.ensures.value ∙ c.if-is_check.false in
    let none : assumed_terms (Ok cmd) ≡ None = sym c.assumed_terms.ensures.value ∙ ap items_seen c.in_default.is in
    none_given c.args.self.now c.perform.new.self c.args.line cmd c.in_ok-answer.answer other (λ awaits. c.nothing_kept.ensures.kept unanswered) none c.in_ok-answer.ensures.stepped unanswered
