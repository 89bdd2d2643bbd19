use Rattle.ct_congr.proofs.AddingLemmas.{IsFurther-trans}
use Rattle.ct_congr.proofs.closing.settle.Goals as goal

pub settle_slowly-requires-clause-kept : goal.settle_slowly-requires-clause-kept
settle_slowly-requires-clause-kept c = c.in_ok-answer.ensures.kept

pub returns-then-is_quiet-clause-closed : goal.returns-then-is_quiet-clause-closed
returns-then-is_quiet-clause-closed c = c.in_ok-answer.ensures.closed (rw c.if-is_quiet.true at c.is_quiet.ensures.value)

pub returns-in_err-answer-2-clause-further : goal.returns-in_err-answer-2-clause-further
returns-in_err-answer-2-clause-further c =
    let old = c.args.progress.now in
    let now = c.settle_or_clash.new.progress in
    let new = c.settle_slowly.new.progress in
    IsFurther-trans c.args.table.now old.store.parts now.store.parts new.store.parts old.store.merges.items now.store.merges.items new.store.merges.items old.keys now.keys new.keys c.in_ok-answer.ensures.further c.in_err-answer-2.ensures.further

pub returns-in_err-answer-2-clause-sound : goal.returns-in_err-answer-2-clause-sound
returns-in_err-answer-2-clause-sound c = λ hyps given sound. c.in_err-answer-2.ensures.sound hyps given (c.in_ok-answer.ensures.sound hyps given sound)

pub returns-clause-further : goal.returns-clause-further
returns-clause-further c =
    let old = c.args.progress.now in
    let now = c.settle_or_clash.new.progress in
    let new = c.settle_slowly.new.progress in
    IsFurther-trans c.args.table.now old.store.parts now.store.parts new.store.parts old.store.merges.items now.store.merges.items new.store.merges.items old.keys now.keys new.keys c.in_ok-answer.ensures.further c.in_ok-answer-2.ensures.further

pub returns-clause-sound : goal.returns-clause-sound
returns-clause-sound c = λ hyps given sound. c.in_ok-answer-2.ensures.sound hyps given (c.in_ok-answer.ensures.sound hyps given sound)
