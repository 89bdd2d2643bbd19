use Rattle.std.proofs.Common.{◌≡◌, List, slice_get, Some, subst, inl, inr}
use Rattle.ct_lemmas.proofs.Lists.{slice_get-push_cases}
use Rattle.ct_congr.specs.declared.merge.Merge.{Merge}
use Rattle.ct_congr.specs.Needed.{IsNeeded}
use Rattle.ct_congr.proofs.needed.need.Goals as goal

pub returns-clause-needed : goal.returns-clause-needed
returns-clause-needed c = λ d terms hyps why rule old k m at.
    let reps = c.args.reps.now in
    let merge : Merge = record { left = c.args.left; right = c.args.right; why = c.args.why } in
    let now = subst (λ (list : List Merge). slice_get list k ≡ Some m) c.in_ok-push.ensures.items at in
    elim (slice_get-push_cases c.args.found.now.items merge m k now) [
      | inl before ↦ old k m before
      | inr last ↦ subst (IsNeeded d terms hyps reps) last.1 (record {
        justified = why;
        rule = rule;
        apart = rw c.if-are_equal.false at c.are_equal.ensures.value;
        left = c.requires.left;
        right = c.requires.right;
      })
    ]
