use Rattle.std.proofs.Common.{◌≡◌, suc, List, length, slice_get, sym, ap, subst, ◌∙◌, arith}
use Rattle.std.proofs.lemmas.Option.{same_Some}
use Rattle.ct_equivalence.specs.Grouping.{Grouping}
use Rattle.ct_equivalence.specs.Over.{AreGroupingsOf}
use Rattle.ct_congr.specs.Step.{IsLast}
use Rattle.ct_congr.specs.Sound.{IsJoined}
use Rattle.ct_congr.specs.Covered.{IsGrouped, AreKeys}
use Rattle.ct_congr.proofs.MetLemmas.{AreKeys-larger}
use Rattle.ct_congr.proofs.AddingLemmas.{IsGrouped-now, IsJoined-grouping, IsFurther-same, IsFurther-one}
use Rattle.ct_congr.proofs.AddedLemmas.{IsSound-united, IsAdding-united, IsLast-united, AreWaiting-added}
use Rattle.ct_congr.proofs.adding.add_merge.Goals as goal
use Rattle.ct_congr.proofs.adding.add_merge.Goals.{In_ok-united}

-- the two classes are one now
joined : (c : In_ok-united) → IsJoined c.args.progress.now.store.parts.now.reps c.join.new.store.parts.now.reps c.args.merge.left c.args.merge.right
joined c = IsJoined-grouping c.args.progress.now.store.parts.now c.join.new.store.parts.now c.args.merge.left c.args.merge.right c.in_ok-united.united c.in_ok-united.ensures.united

of : (c : In_ok-united) → AreGroupingsOf c.args.table.now c.join.new.store.parts
of c = c.in_ok-united.ensures.of c.args.table.now c.requires.groupings

keyed : (c : In_ok-united) → AreKeys c.join.new.store.parts.now.reps c.args.progress.now.keys
keyed c = AreKeys-larger c.args.progress.now.store.parts.now.reps c.join.new.store.parts.now.reps c.args.progress.now.keys (joined c).keeps c.requires.keys

pub join-requires-clause-left : goal.join-requires-clause-left
join-requires-clause-left c = omega (arith, c.requires.left, c.requires.groupings.now.long)

pub join-requires-clause-right : goal.join-requires-clause-right
join-requires-clause-right c = omega (arith, c.requires.right, c.requires.groupings.now.long)

pub follow-requires-clause-groupings : goal.follow-requires-clause-groupings
follow-requires-clause-groupings c = of (goal.at.follow-requires-clause-groupings c).In_ok-united

pub follow-requires-clause-past : goal.follow-requires-clause-past
follow-requires-clause-past c =
    let long : length c.join.new.store.parts.past ≡ suc (length c.args.progress.now.store.parts.past) = ap length c.in_ok-united.ensures.past in
    omega (arith, long)

pub follow-requires-clause-last : goal.follow-requires-clause-last
follow-requires-clause-last c = λ was earlier is.
    let old = c.args.progress.now.store.parts in
    let same : old.now ≡ was = same_Some old.now was (ap (λ (list : List Grouping). slice_get list 0) (sym c.in_ok-united.ensures.past ∙ is)) in
    subst (λ (g : Grouping). IsLast g c.join.new.store.parts.now c.in_ok-united.united) same (IsLast-united old.now c.join.new.store.parts.now c.args.merge.left c.args.merge.right c.in_ok-united.united c.in_ok-united.ensures.united)

pub follow-requires-clause-keys : goal.follow-requires-clause-keys
follow-requires-clause-keys c = keyed (goal.at.follow-requires-clause-keys c).In_ok-united

-- the classes before it
grouped : (c : In_ok-united) → IsGrouped c.args.table.now c.args.progress.now.store.parts.now.reps c.args.progress.now.store.parts.now.cons
grouped c = IsGrouped-now c.args.table.now c.args.progress.now.store.parts c.unions.ensures.whole c.requires.groupings

-- ---- an error changes nothing

pub returns-in_err-united-clause-further : goal.returns-in_err-united-clause-further
returns-in_err-united-clause-further c =
    let p = c.args.progress.now in
    rw (c.in_err-united.ensures.parts_unchanged, c.in_err-united.ensures.merges_unchanged)
    (IsFurther-same c.args.table.now p.store.parts p.store.merges.items p.keys c.requires.groupings c.requires.keys)

pub returns-in_err-united-clause-sound : goal.returns-in_err-united-clause-sound
returns-in_err-united-clause-sound c = λ hyps given why derives sound.
    rw (c.in_err-united.ensures.parts_unchanged, c.in_err-united.ensures.merges_unchanged) sound

pub returns-in_err-answer-clause-further : goal.returns-in_err-answer-clause-further
returns-in_err-answer-clause-further c =
    let at = (goal.at.returns-in_err-answer-clause-further c).In_ok-united in
    let p = c.args.progress.now in
    let new = c.join.new.store in
    IsFurther-one c.args.table.now p.store.parts new.parts p.store.merges.items new.merges.items c.args.merge p.keys c.follow.new.keys c.in_ok-united.ensures.past c.in_ok-united.ensures.merges (joined at) c.in_err-answer.ensures.more (of at) c.in_err-answer.ensures.keys

pub returns-in_err-answer-clause-sound : goal.returns-in_err-answer-clause-sound
returns-in_err-answer-clause-sound c = λ hyps given why derives sound.
    let at = (goal.at.returns-in_err-answer-clause-sound c).In_ok-united in
    let old = c.args.progress.now.store in
    let new = c.join.new.store in
    IsSound-united c.args.sig.now c.args.table.now hyps given old.parts new.parts old.merges.items new.merges.items c.args.merge c.in_ok-united.united c.in_ok-united.ensures.united (of at) c.in_ok-united.ensures.merges why derives sound

pub returns-clause-further : goal.returns-clause-further
returns-clause-further c =
    let at = (goal.at.returns-clause-further c).In_ok-united in
    let p = c.args.progress.now in
    let new = c.join.new.store in
    IsFurther-one c.args.table.now p.store.parts new.parts p.store.merges.items new.merges.items c.args.merge p.keys c.follow.new.keys c.in_ok-united.ensures.past c.in_ok-united.ensures.merges (joined at) c.in_ok-answer.ensures.more (of at) c.in_ok-answer.ensures.keys

pub returns-clause-sound : goal.returns-clause-sound
returns-clause-sound c = λ hyps given why derives sound.
    let at = (goal.at.returns-clause-sound c).In_ok-united in
    let old = c.args.progress.now.store in
    let new = c.join.new.store in
    IsSound-united c.args.sig.now c.args.table.now hyps given old.parts new.parts old.merges.items new.merges.items c.args.merge c.in_ok-united.united c.in_ok-united.ensures.united (of at) c.in_ok-united.ensures.merges why derives sound

pub returns-clause-joined : goal.returns-clause-joined
returns-clause-joined c = joined (goal.at.returns-clause-joined c).In_ok-united

pub returns-clause-waits : goal.returns-clause-waits
returns-clause-waits c = λ are.
    let at = (goal.at.returns-clause-waits c).In_ok-united in
    AreWaiting-added c.args.sig.now c.args.table.now c.args.progress.now.store.parts.now.reps c.join.new.store.parts.now.reps c.args.merge c.args.progress.now.waiting.items c.follow.new.waiting.items (joined at) c.in_ok-answer.ensures.waits are

pub returns-clause-covered : goal.returns-clause-covered
returns-clause-covered c =
    let at = (goal.at.returns-clause-covered c).In_ok-united in
    let p = c.args.progress.now in
    let new = c.join.new.store.parts in
    let followed = c.in_ok-answer.ensures.followed p.store.parts.now p.store.parts.past c.in_ok-united.ensures.past in
    IsAdding-united c.args.sig.now c.args.table.now p.store.parts.now new.now c.args.merge p.waiting.items c.follow.new.waiting.items (joined at) c.in_ok-answer.ensures.waits.still (grouped at) c.requires.sorted p.keys c.follow.new.keys c.in_ok-answer.ensures.more c.in_ok-united.united c.in_ok-answer.ensures.same c.in_ok-answer.answer c.in_ok-united.ensures.united followed
