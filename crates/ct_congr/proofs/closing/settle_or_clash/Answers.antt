use Rattle.std.proofs.Common.{[], subst, arith}
use Rattle.ct_congr.specs.Joined.{AreJoined}
use Rattle.ct_congr.specs.Step.{IsAdding}
use Rattle.ct_congr.proofs.JoinedLemmas.{AreJoined-more}
use Rattle.ct_congr.proofs.CoveredLemmas.{IsCovered-wider}
use Rattle.ct_congr.proofs.AddedLemmas.{quiet_from}
use Rattle.ct_congr.proofs.KeptLemmas.{IsKept-slow, IsKept-fast, verdict_of, no_waiting}
use Rattle.ct_congr.proofs.AddingLemmas.{IsGrouped-now}
use Rattle.ct_congr.proofs.closing.settle_or_clash.Goals as goal

pub run-requires-clause-groupings : goal.run-requires-clause-groupings
run-requires-clause-groupings c = c.requires.kept.groupings

pub run-requires-clause-long : goal.run-requires-clause-long
run-requires-clause-long c = c.requires.kept.groupings.now.long

pub run-requires-clause-keys : goal.run-requires-clause-keys
run-requires-clause-keys c = c.requires.kept.keyed

pub run-requires-clause-waits : goal.run-requires-clause-waits
run-requires-clause-waits c = c.requires.kept.waits c.if-not-fast.false

-- no rule gives more, and no class has two constructors, where nothing waits
pub returns-clause-closed : goal.returns-clause-closed
returns-clause-closed c = λ is.
    let d = c.args.sig.now in
    let terms = c.args.table.now in
    let p = c.args.progress.now in
    let new = c.run.new.progress in
    let g = new.store.parts.now in
    let further = c.in_ok-answer-2.ensures.further in
    let grouped = IsGrouped-now terms new.store.parts c.unions.ensures.whole further.groupings in
    let covered = (subst (IsAdding d terms p.store.parts.now g p.keys new.keys (AreJoined p.store.parts.now.reps p.waiting.items) (AreJoined g.reps [])) is c.in_ok-answer-2.ensures.covered) (c.requires.kept.covered c.if-not-fast.false) in
    c.covering.ensures.closed d terms g.reps g.cons new.keys c.requires.sorted c.len.ensures.single c.len.ensures.begins grouped covered

pub returns-clause-verdict : goal.returns-clause-verdict
returns-clause-verdict c =
    let d = c.args.sig.now in
    let terms = c.args.table.now in
    let p = c.args.progress.now in
    let new = c.run.new.progress in
    let g = new.store.parts.now in
    let further = c.in_ok-answer-2.ensures.further in
    let grouped = IsGrouped-now terms new.store.parts c.unions.ensures.whole further.groupings in
    verdict_of d terms p.store.parts.now g p.keys new.keys (AreJoined p.store.parts.now.reps p.waiting.items) (AreJoined g.reps []) c.in_ok-answer-2.answer
    (λ is a b clash.
    let covered = (subst (IsAdding d terms p.store.parts.now g p.keys new.keys (AreJoined p.store.parts.now.reps p.waiting.items) (AreJoined g.reps [])) is c.in_ok-answer-2.ensures.covered) (c.requires.kept.covered c.if-not-fast.false) in
    c.covering.ensures.one d terms g.reps g.cons new.keys c.requires.sorted c.len.ensures.single c.len.ensures.begins grouped covered a b clash)
    c.in_ok-answer-2.ensures.covered

pub returns-in_err-answer-2-clause-kept : goal.returns-in_err-answer-2-clause-kept
returns-in_err-answer-2-clause-kept c =
    let new = c.run.new.progress in
    let further = c.in_err-answer-2.ensures.further in
    IsKept-slow c.args.sig.now c.args.table.now new.store.parts new.keys new.waiting.items new.covered c.in_err-answer-2.ensures.flag further.groupings further.keyed

pub returns-clause-kept : goal.returns-clause-kept
returns-clause-kept c =
    let d = c.args.sig.now in
    let terms = c.args.table.now in
    let p = c.args.progress.now in
    let new = c.run.new.progress in
    let further = c.in_ok-answer-2.ensures.further in
    let reps = new.store.parts.now.reps in
    IsKept-fast d terms new.store.parts new.keys new.waiting.items c.is_quiet-progress.result further.groupings further.keyed
    (λ quiet.
    let is = quiet_from c.in_ok-answer-2.answer c.is_quiet-progress.result c.is_quiet-progress.ensures.value quiet in
    no_waiting d terms reps new.waiting.items (c.in_ok-answer-2.ensures.empty is))
    (λ quiet.
    let is = quiet_from c.in_ok-answer-2.answer c.is_quiet-progress.result c.is_quiet-progress.ensures.value quiet in
    let covered = (subst (IsAdding d terms p.store.parts.now new.store.parts.now p.keys new.keys (AreJoined p.store.parts.now.reps p.waiting.items) (AreJoined reps [])) is c.in_ok-answer-2.ensures.covered) (c.requires.kept.covered c.if-not-fast.false) in
    IsCovered-wider d terms reps new.store.parts.now.cons new.keys (AreJoined reps []) (AreJoined reps new.waiting.items) (AreJoined-more reps [] new.waiting.items (λ n has. absurd (omega (arith, has.1)))) covered)
