use Rattle.std.proofs.Common.{refl}
use Rattle.ct_congr.specs.declared.merge.Merge.{Merge}
use Rattle.ct_congr.proofs.AddingLemmas.{IsJoined-grouping, cons_united, AreCons-united, IsExtended-one}
use Rattle.ct_congr.proofs.store.add.Goals as goal

pub returns-clause-joined : goal.returns-clause-joined
returns-clause-joined c = IsJoined-grouping c.args.store.now.parts.now c.join.new.store.parts.now c.args.left c.args.right c.in_ok-join.field-0 c.in_ok-join.ensures.united

pub returns-clause-cons : goal.returns-clause-cons
returns-clause-cons c = λ terms are. AreCons-united terms c.args.store.now.parts.now c.join.new.store.parts.now c.args.left c.args.right c.in_ok-join.field-0 c.requires.cons_long c.in_ok-join.ensures.united are

pub returns-clause-cons_long : goal.returns-clause-cons_long
returns-clause-cons_long c = cons_united c.args.store.now.parts.now c.join.new.store.parts.now c.args.left c.args.right c.in_ok-join.field-0 c.in_ok-join.ensures.united

pub returns-clause-extended : goal.returns-clause-extended
returns-clause-extended c =
    let m : Merge = record { left = c.args.left; right = c.args.right; why = c.args.why } in
    IsExtended-one c.args.store.now.parts c.join.new.store.parts c.args.store.now.merges.items c.join.new.store.merges.items m c.in_ok-join.ensures.past c.in_ok-join.ensures.merges

pub returns-in_err-join-clause-cons_long : goal.returns-in_err-join-clause-cons_long
returns-in_err-join-clause-cons_long c = rw c.in_err-join.ensures.parts_unchanged refl

pub returns-in_err-join-clause-of : goal.returns-in_err-join-clause-of
returns-in_err-join-clause-of c = λ terms of. rw c.in_err-join.ensures.parts_unchanged of
