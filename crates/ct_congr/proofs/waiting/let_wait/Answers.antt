use Rattle.std.proofs.Common.{List, [], ◌∷◌, sym, subst}
use Rattle.std.specs.List.{Contains}
use Rattle.std.proofs.lemmas.List.Elements.{Contains-push, Contains-append_left}
use Rattle.ct_congr.specs.declared.merge.Merge.{Merge}
use Rattle.ct_congr.specs.Joined.{WaitsOn}
use Rattle.ct_congr.proofs.JoinedLemmas.{AreJoined-waits, WaitsOn-push}
use Rattle.ct_congr.proofs.waiting.let_wait.Goals as goal

pub returns-clause-waits : goal.returns-clause-waits
returns-clause-waits c = λ d terms why rule.
    let old = c.args.waiting.now.items in
    let m : Merge = record { left = c.args.left; right = c.args.right; why = c.args.why } in
    subst (WaitsOn d terms c.args.reps.now old) (sym c.in_ok-push_back.ensures.items)
    (WaitsOn-push d terms c.args.reps.now old m (record { justified = why; rule = rule; left = c.requires.left; right = c.requires.right }))

pub returns-clause-joined : goal.returns-clause-joined
returns-clause-joined c =
    let old = c.args.waiting.now.items in
    let m : Merge = record { left = c.args.left; right = c.args.right; why = c.args.why } in
    AreJoined-waits c.args.reps.now c.push_back.new.self.items m (subst (λ (list : List Merge). Contains list m) (sym c.in_ok-push_back.ensures.items) (Contains-push old m))

pub returns-clause-still : goal.returns-clause-still
returns-clause-still c = λ n has.
    let old = c.args.waiting.now.items in
    let m : Merge = record { left = c.args.left; right = c.args.right; why = c.args.why } in
    subst (λ (list : List Merge). Contains list n) (sym c.in_ok-push_back.ensures.items) (Contains-append_left old (m ∷ []) n has)
