use Rattle.std.proofs.Common.{◌≡◌, suc, List, ◌∷◌, length, slice_get, sym, ap, subst, ◌∙◌, arith}
use Rattle.std.proofs.lemmas.Bool.{OnTrue_at}
use Rattle.std.proofs.lemmas.Option.{same_Some}
use Rattle.ct_lemmas.proofs.Contained.{Contains-rest}
use Rattle.ct_equivalence.specs.Grouping.{Grouping}
use Rattle.ct_equivalence.specs.Over.{AreGroupingsOf}
use Rattle.ct_congr.specs.Step.{IsLast}
use Rattle.ct_congr.specs.Sound.{IsJoined}
use Rattle.ct_congr.specs.Joined.{AreJoined}
use Rattle.ct_congr.specs.Covered.{IsGrouped, AreKeys, IsCovered}
use Rattle.ct_congr.specs.declared.merge.Closed.TheVariants.{Quiet}
use Rattle.ct_congr.proofs.MetLemmas.{AreKeys-larger}
use Rattle.ct_congr.proofs.JoinedLemmas.{AreJoined-more}
use Rattle.ct_congr.proofs.CoveredLemmas.{IsCovered-wider}
use Rattle.ct_congr.proofs.AddingLemmas.{IsGrouped-now, IsJoined-grouping, IsFurther-same, IsFurther-one}
use Rattle.ct_congr.proofs.AddedLemmas.{IsSound-united, IsAdding-united, IsLast-united, AreWaiting-added}
use Rattle.ct_congr.proofs.KeptLemmas.{IsKept-fast}
use Rattle.ct_congr.proofs.holding.put.Goals as goal
use Rattle.ct_congr.proofs.holding.put.Goals.{In_ok-united}

-- the two classes are one now
joined : (c : In_ok-united) → IsJoined c.args.progress.now.store.parts.now.reps c.join.new.store.parts.now.reps c.args.merge.left c.args.merge.right
joined c = IsJoined-grouping c.args.progress.now.store.parts.now c.join.new.store.parts.now c.args.merge.left c.args.merge.right c.in_ok-united.united c.in_ok-united.ensures.united

of : (c : In_ok-united) → AreGroupingsOf c.args.table.now c.join.new.store.parts
of c = c.in_ok-united.ensures.of c.args.table.now c.requires.kept.groupings

keyed : (c : In_ok-united) → AreKeys c.join.new.store.parts.now.reps c.args.progress.now.keys
keyed c = AreKeys-larger c.args.progress.now.store.parts.now.reps c.join.new.store.parts.now.reps c.args.progress.now.keys (joined c).keeps c.requires.kept.keyed

-- the classes before it
grouped : (c : In_ok-united) → IsGrouped c.args.table.now c.args.progress.now.store.parts.now.reps c.args.progress.now.store.parts.now.cons
grouped c = IsGrouped-now c.args.table.now c.args.progress.now.store.parts c.unions.ensures.whole c.requires.kept.groupings

pub join-requires-clause-left : goal.join-requires-clause-left
join-requires-clause-left c = omega (arith, c.requires.left, c.requires.kept.groupings.now.long)

pub join-requires-clause-right : goal.join-requires-clause-right
join-requires-clause-right c = omega (arith, c.requires.right, c.requires.kept.groupings.now.long)

pub pursue-progress-requires-clause-groupings : goal.pursue-progress-requires-clause-groupings
pursue-progress-requires-clause-groupings c = of (goal.at.pursue-progress-requires-clause-groupings c).In_ok-united

pub pursue-progress-requires-clause-past : goal.pursue-progress-requires-clause-past
pursue-progress-requires-clause-past c =
    let long : length c.join.new.store.parts.past ≡ suc (length c.args.progress.now.store.parts.past) = ap length c.in_ok-united.ensures.past in
    omega (arith, long)

pub pursue-progress-requires-clause-last : goal.pursue-progress-requires-clause-last
pursue-progress-requires-clause-last c = λ was earlier is.
    let old = c.args.progress.now.store.parts in
    let same : old.now ≡ was = same_Some old.now was (ap (λ (list : List Grouping). slice_get list 0) (sym c.in_ok-united.ensures.past ∙ is)) in
    subst (λ (g : Grouping). IsLast g c.join.new.store.parts.now c.in_ok-united.united) same (IsLast-united old.now c.join.new.store.parts.now c.args.merge.left c.args.merge.right c.in_ok-united.united c.in_ok-united.ensures.united)

pub pursue-progress-requires-clause-keys : goal.pursue-progress-requires-clause-keys
pursue-progress-requires-clause-keys c = keyed (goal.at.pursue-progress-requires-clause-keys c).In_ok-united

-- ---- an error changes nothing

pub returns-in_err-united-clause-kept : goal.returns-in_err-united-clause-kept
returns-in_err-united-clause-kept c = rw c.in_err-united.ensures.parts_unchanged c.requires.kept

pub returns-in_err-united-clause-further : goal.returns-in_err-united-clause-further
returns-in_err-united-clause-further c =
    let p = c.args.progress.now in
    rw (c.in_err-united.ensures.parts_unchanged, c.in_err-united.ensures.merges_unchanged)
    (IsFurther-same c.args.table.now p.store.parts p.store.merges.items p.keys c.requires.kept.groupings c.requires.kept.keyed)

-- ---- the merge is added

pub returns-clause-further : goal.returns-clause-further
returns-clause-further c =
    let at = (goal.at.returns-clause-further c).In_ok-united in
    let p = c.args.progress.now in
    let new = c.join.new.store in
    IsFurther-one c.args.table.now p.store.parts new.parts p.store.merges.items new.merges.items c.args.merge p.keys c.pursue-progress.new.keys c.in_ok-united.ensures.past c.in_ok-united.ensures.merges (joined at) c.pursue-progress.ensures.more (of at) c.pursue-progress.ensures.keys

pub returns-clause-sound : goal.returns-clause-sound
returns-clause-sound c = λ hyps given why derives sound.
    let at = (goal.at.returns-clause-sound c).In_ok-united in
    let old = c.args.progress.now.store in
    let new = c.join.new.store in
    IsSound-united c.args.sig.now c.args.table.now hyps given old.parts new.parts old.merges.items new.merges.items c.args.merge c.in_ok-united.united c.in_ok-united.ensures.united (of at) c.in_ok-united.ensures.merges why derives sound

pub returns-clause-joined : goal.returns-clause-joined
returns-clause-joined c = joined (goal.at.returns-clause-joined c).In_ok-united

pub returns-clause-kept : goal.returns-clause-kept
returns-clause-kept c =
    let at = (goal.at.returns-clause-kept c).In_ok-united in
    let d = c.args.sig.now in
    let terms = c.args.table.now in
    let p = c.args.progress.now in
    let old = p.store.parts.now in
    let new = c.join.new.store.parts in
    let m = c.args.merge in
    let before = p.waiting.items in
    let after = c.pursue-progress.new.waiting.items in
    IsKept-fast d terms new c.pursue-progress.new.keys after c.pursue-progress.result (of at) c.pursue-progress.ensures.keys
    (λ e. AreWaiting-added d terms old.reps new.now.reps m before after (joined at) (OnTrue_at e c.pursue-progress.ensures.waits) (c.requires.kept.waits (OnTrue_at e c.pursue-progress.ensures.fast)))
    (λ e.
    let on = OnTrue_at e c.pursue-progress.ensures.waits in
    let followed = OnTrue_at e c.pursue-progress.ensures.followed old p.store.parts.past c.in_ok-united.ensures.past in
    let wide = AreJoined-more old.reps before (m ∷ before) (λ n has. Contains-rest m before n has) in
    let covered : IsCovered d terms old.reps old.cons p.keys (AreJoined old.reps (m ∷ before)) = IsCovered-wider d terms old.reps old.cons p.keys (AreJoined old.reps before) (AreJoined old.reps (m ∷ before)) wide (c.requires.kept.covered (OnTrue_at e c.pursue-progress.ensures.fast)) in
    IsAdding-united d terms old new.now m before after (joined at) on.still (grouped at) c.requires.sorted p.keys c.pursue-progress.new.keys c.pursue-progress.ensures.more c.in_ok-united.united (OnTrue_at e c.pursue-progress.ensures.same) Quiet c.in_ok-united.ensures.united followed covered)
