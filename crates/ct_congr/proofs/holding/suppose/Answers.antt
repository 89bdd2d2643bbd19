use Rattle.std.proofs.Common.{◌≡◌, [], ◌∷◌, ◌++◌, sym, subst}
use Rattle.std.proofs.lemmas.List.Elements.{Contains-append_left, Contains-push}
use Rattle.ct_congr.specs.Partition.{InOneClass}
use Rattle.ct_congr.specs.Reasons.{IsReason}
use Rattle.ct_congr.proofs.AddingLemmas.{IsFurther-same}
use Rattle.ct_congr.proofs.HeldLemmas.{GivenTheorems, IsSound-wider, AreHeld-supposed}
use Rattle.ct_congr.proofs.holding.suppose.Goals as goal

pub returns-in_err-reserve-clause-further : goal.returns-in_err-reserve-clause-further
returns-in_err-reserve-clause-further c =
    let p = c.args.progress.now in
    IsFurther-same c.args.table.now p.store.parts p.store.merges.items p.keys c.requires.kept.groupings c.requires.kept.keyed

pub returns-in_err-reserve-clause-held : goal.returns-in_err-reserve-clause-held
returns-in_err-reserve-clause-held c = λ single given held why stripped states. rw c.in_err-reserve.ensures.items held

pub returns-in_err-put-clause-held : goal.returns-in_err-put-clause-held
returns-in_err-put-clause-held c = λ single given held why stripped states.
    rw (c.in_ok-reserve.ensures.items, c.in_err-put.ensures.parts_unchanged, c.in_err-put.ensures.merges_unchanged) held

pub returns-clause-held : goal.returns-clause-held
returns-clause-held c = λ single given held why stripped states.
    let d = c.args.sig.now in
    let terms = c.args.table.now in
    let old = c.args.progress.now.store in
    let new = c.put.new.progress.store in
    let l = c.args.l in
    let m = c.args.merge in
    let hyps = c.args.hyps.now.items in
    let all = hyps ++ l ∷ [] in
    let theorems : GivenTheorems d terms = record {
      states = c.derivations.ensures.states d terms;
      among = c.derivations.ensures.given d terms;
      more = c.derivations.ensures.more d terms;
    } in
    let reason : IsReason d terms all (InOneClass old.parts.now.reps) m.left m.right m.why = subst (IsReason d terms all (InOneClass old.parts.now.reps) m.left m.right) (sym why) (Contains-push hyps l, states) in
    let wide = IsSound-wider d terms theorems hyps all given given (λ h has. Contains-append_left hyps (l ∷ []) h has) (λ e has. has) old.parts.now.reps old.parts.now.cons old.merges.items held.sound in
    let sound = c.in_ok-put.ensures.sound all given reason (theorems.states all given m.left m.right (l, Contains-push hyps l, states)) wide in
    let pushed : c.push.new.self.items ≡ c.reserve.new.self.items ++ l ∷ [] = rw c.unwrap.ensures at c.push.ensures.items in
    rw (pushed, c.in_ok-reserve.ensures.items)
    (AreHeld-supposed d terms single hyps given old.parts.now.reps new.parts.now.reps old.parts.now.cons new.parts.now.cons old.merges.items new.merges.items m.left m.right l held stripped states c.in_ok-put.ensures.joined sound)
