use Rattle.std.proofs.Common.{◌≡◌, List, length, refl, ap, subst, arith}
use Rattle.ct_equivalence.specs.Grouping.{Groupings}
use Rattle.ct_congr.specs.declared.merge.Merge.{Merge}
use Rattle.ct_congr.specs.declared.level.Level.{Level}
use Rattle.ct_congr.specs.Joined.{AreJoined}
use Rattle.ct_congr.specs.Covered.{IsCovered}
use Rattle.ct_congr.specs.Kept.{IsKept}
use Rattle.ct_congr.proofs.MarkLemmas.{AreMarked-keys, AreMarked-push, marks_of-push}
use Rattle.ct_congr.proofs.marking.set_mark.Goals as goal

pub returns-in_err-cover-clause-marked : goal.returns-in_err-cover-clause-marked
returns-in_err-cover-clause-marked c = λ d single quiet kept held marked.
    let p = c.args.progress.now in
    rw c.in_err-cover.ensures.store (AreMarked-keys d c.args.table.now single c.args.hyps.now c.args.given.now p.store.merges.items p.keys c.cover.new.progress.keys p.store.parts c.args.levels.now c.in_err-cover.ensures.more marked)

pub returns-in_err-mark-clause-marked : goal.returns-in_err-mark-clause-marked
returns-in_err-mark-clause-marked c = λ d single quiet kept held marked.
    let p = c.args.progress.now in
    rw (c.in_ok-cover.ensures.store, c.in_err-mark.ensures.unchanged) (AreMarked-keys d c.args.table.now single c.args.hyps.now c.args.given.now p.store.merges.items p.keys c.cover.new.progress.keys p.store.parts c.args.levels.now c.in_ok-cover.ensures.more marked)

-- nothing waits, and all that stands now is marked
pub returns-clause-marked : goal.returns-clause-marked
returns-clause-marked c = λ d single quiet kept held marked.
    let terms = c.args.table.now in
    let hyps = c.args.hyps.now in
    let given = c.args.given.now in
    let p = c.args.progress.now in
    let new = c.cover.new.progress in
    let g = p.store.parts.now in
    let store = c.in_ok-cover.ensures.store in
    let level : Level = record { merges = c.len.result; hypotheses = length hyps; given = length given; keys = c.len-2.result } in
    let kept_now : IsKept d terms p.store.parts new.keys new.waiting.items new.covered = subst (λ (q : Groupings). IsKept d terms q new.keys new.waiting.items new.covered) (ap (λ s. s.parts) store) (c.in_ok-cover.ensures.kept d quiet kept) in
    let covered = subst (λ (w : List Merge). IsCovered d terms g.reps g.cons new.keys (AreJoined g.reps w)) c.in_ok-cover.ensures.empty (kept_now.covered c.in_ok-cover.ensures.fast) in
    let marked_now = AreMarked-keys d terms single hyps given p.store.merges.items p.keys new.keys p.store.parts c.args.levels.now c.in_ok-cover.ensures.more marked in
    let all_merges : c.len.result ≡ length p.store.merges.items = omega (arith, c.len.ensures, new.store.merges.ok.0, ap (λ s. length s.merges.items) store) in
    rw (store, c.in_ok-mark.ensures.pushed) (AreMarked-push hyps given p.store.merges.items level all_merges refl refl p.store.parts marked.long d terms single new.keys c.len-2.ensures.value c.args.levels.now held kept_now.keyed covered quiet marked_now)

pub returns-clause-marks : goal.returns-clause-marks
returns-clause-marks c = λ long.
    let p = c.args.progress.now in
    let hyps = c.args.hyps.now in
    let given = c.args.given.now in
    let level : Level = record { merges = c.len.result; hypotheses = length hyps; given = length given; keys = c.len-2.result } in
    let all_merges : c.len.result ≡ length p.store.merges.items = omega (arith, c.len.ensures, c.cover.new.progress.store.merges.ok.0, ap (λ s. length s.merges.items) c.in_ok-cover.ensures.store) in
    rw c.in_ok-mark.ensures.pushed (marks_of-push hyps given p.store.merges.items level all_merges refl refl p.store.parts long c.args.levels.now)
