use Rattle.std.proofs.Common.{◌≡◌, [], ◌∷◌, ◌++◌}
use Rattle.std.proofs.lemmas.List.Elements.{Contains-append_left, Contains-push}
use Rattle.ct_rules.specs.declared.equation.Equation.{Equation}
use Rattle.ct_congr.proofs.AddingLemmas.{IsFurther-same}
use Rattle.ct_congr.proofs.HeldLemmas.{GivenTheorems, IsSound-wider, AreHeld-given}
use Rattle.ct_congr.proofs.holding.give.Goals as goal

pub returns-in_err-reserve-clause-further : goal.returns-in_err-reserve-clause-further
returns-in_err-reserve-clause-further c =
    let p = c.args.progress.now in
    IsFurther-same c.args.table.now p.store.parts p.store.merges.items p.keys c.requires.kept.groupings c.requires.kept.keyed

pub returns-in_err-reserve-clause-held : goal.returns-in_err-reserve-clause-held
returns-in_err-reserve-clause-held c = λ single hyps held reason. rw c.in_err-reserve.ensures.items held

pub returns-in_err-put-clause-held : goal.returns-in_err-put-clause-held
returns-in_err-put-clause-held c = λ single hyps held reason.
    rw (c.in_ok-reserve.ensures.items, c.in_err-put.ensures.parts_unchanged, c.in_err-put.ensures.merges_unchanged) held

pub returns-clause-held : goal.returns-clause-held
returns-clause-held c = λ single hyps held reason.
    let d = c.args.sig.now in
    let terms = c.args.table.now in
    let old = c.args.progress.now.store in
    let new = c.put.new.progress.store in
    let m = c.args.merge in
    let e : Equation = record { left = m.left; right = m.right } in
    let given = c.args.given.now.items in
    let all = given ++ e ∷ [] in
    let theorems : GivenTheorems d terms = record {
      states = c.derivations.ensures.states d terms;
      among = c.derivations.ensures.given d terms;
      more = c.derivations.ensures.more d terms;
    } in
    let wide = IsSound-wider d terms theorems hyps hyps given all (λ l has. has) (λ k has. Contains-append_left given (e ∷ []) k has) old.parts.now.reps old.parts.now.cons old.merges.items held.sound in
    let sound = c.in_ok-put.ensures.sound hyps all reason (theorems.among hyps all m.left m.right (Contains-push given e)) wide in
    let pushed : c.push.new.self.items ≡ c.reserve.new.self.items ++ e ∷ [] = rw c.unwrap.ensures at c.push.ensures.items in
    rw (pushed, c.in_ok-reserve.ensures.items)
    (AreHeld-given d terms single hyps given old.parts.now.reps new.parts.now.reps old.parts.now.cons new.parts.now.cons old.merges.items new.merges.items m.left m.right held c.in_ok-put.ensures.joined sound)
