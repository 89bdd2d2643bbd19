use Rattle.std.proofs.Common.{rules, IsErrOf, ◌≡◌, ◌↔◌, ◌⊎◌, ◌<◌, ◌++◌, Bool, true, List, Contains, length, sym, ◌∙◌, ap, subst, arith}
use Rattle.std.proofs.lemmas.Option.{slice_get_within}
use Rattle.ct_terms.specs.declared.ids.TermId.{TermId}
use Rattle.ct_closure.specs.Closed.{HasVariables, most_closure_terms}
use Rattle.ct_closure.specs.ClosedTable.{terms_at}
use Rattle.ct_closure.specs.Steps.{IsMarked}
use Rattle.ct_closure.specs.declared.error.CloseError.TheVariants.{TooLarge}
use Rattle.ct_closure.proofs.ClosedLemmas.{split_marked, closed_when_taken}
use Rattle.ct_closure.proofs.FurtherLemmas.{Theorems, begins_taken, further_in, further_has, further_many, further_over}
use Rattle.ct_closure.proofs.GrowthLemmas.{Begins-itself, step_none}
use Rattle.ct_closure.proofs.VariableLemmas.{counted}
use Rattle.ct_closure.proofs.further.close_further.Goals as goal

pub returns-then-len-gt-MOST_TERMS-clause-grown : goal.returns-then-len-gt-MOST_TERMS-clause-grown
returns-then-len-gt-MOST_TERMS-clause-grown c = Begins-itself c.args.table.now

pub returns-then-len-gt-MOST_TERMS-clause-split_grown : goal.returns-then-len-gt-MOST_TERMS-clause-split_grown
returns-then-len-gt-MOST_TERMS-clause-split_grown c = Begins-itself c.args.split.now.items

pub returns-in_err-before-clause-grown : goal.returns-in_err-before-clause-grown
returns-in_err-before-clause-grown c = Begins-itself c.args.table.now

pub returns-in_err-before-clause-split_grown : goal.returns-in_err-before-clause-split_grown
returns-in_err-before-clause-split_grown c = Begins-itself c.args.split.now.items

pub returns-in_err-marks-clause-grown : goal.returns-in_err-marks-clause-grown
returns-in_err-marks-clause-grown c = Begins-itself c.args.table.now

pub returns-in_err-marks-clause-split_grown : goal.returns-in_err-marks-clause-split_grown
returns-in_err-marks-clause-split_grown c = Begins-itself c.args.split.now.items

pub returns-then-len-gt-MOST_TERMS-clause-too_large : goal.returns-then-len-gt-MOST_TERMS-clause-too_large
returns-then-len-gt-MOST_TERMS-clause-too_large c = λ h e roots before.
    let d = c.args.sig.now in
    let th : Theorems = record { trees = c.trees.ensures.trees; of_sorts = c.structure.ensures.of_their_sorts; own = c.structure.ensures.own_constructors; stays = c.stable_sizes.ensures.stays } in
    further_many th d e roots c.args.table.now c.args.table.now c.args.closed c.args.split.now.items before c.sound.ensures.sound c.args.asserts.now c.requires.exact c.requires.asserts (step_none d c.args.table.now c.sound.ensures.sound) most_closure_terms (omega (arith, c.len.ensures.count, c.if-len-gt-MOST_TERMS.true))

pub go_on-requires : goal.go_on-requires
go_on-requires c =
    let d = c.args.sig.now in
    let (e, roots, before) = c.requires.before in
    let th : Theorems = record { trees = c.trees.ensures.trees; of_sorts = c.structure.ensures.of_their_sorts; own = c.structure.ensures.own_constructors; stays = c.stable_sizes.ensures.stays } in
    let marks = c.in_ok-marks.marks.items in
    let same : marks ≡ c.in_ok-before.before.items = c.in_ok-marks.ensures.items ∙ c.as_slice.ensures.value in
    let long : length marks ≡ c.args.closed = ap length same ∙ c.in_ok-before.ensures.long in
    record {
      sizes = c.requires.sizes;
      sound = c.sound.ensures.sound;
      few = omega (arith, c.len.ensures.count, c.if-len-gt-MOST_TERMS.false);
      within = omega (arith, long, before.few);
      under_way = begins_taken th d e roots c.args.table.now c.args.closed c.args.split.now.items before c.sound.ensures.sound marks long
          (λ t less. subst (λ (l : List TermId). Contains l t ↔ IsMarked marks t) c.deref.ensures.value (subst (λ (ms : List Bool). Contains c.deref.result.now t ↔ IsMarked ms t) (sym same) (c.in_ok-before.ensures.marks t less)));
    }

pub returns-in_err-go_on-clause-grown : goal.returns-in_err-go_on-clause-grown
returns-in_err-go_on-clause-grown c = c.go_on.ensures.step.grown

pub returns-in_err-go_on-clause-split_grown : goal.returns-in_err-go_on-clause-split_grown
returns-in_err-go_on-clause-split_grown c = Begins-itself c.args.split.now.items

pub returns-in_err-go_on-clause-too_large : goal.returns-in_err-go_on-clause-too_large
returns-in_err-go_on-clause-too_large c =
    let large : IsErrOf c.from_residual-in_err-go_on.result TooLarge → most_closure_terms < length c.go_on.new.table = search rules in
    λ h e roots before.
    let d = c.args.sig.now in
    let th : Theorems = record { trees = c.trees.ensures.trees; of_sorts = c.structure.ensures.of_their_sorts; own = c.structure.ensures.own_constructors; stays = c.stable_sizes.ensures.stays } in
    further_many th d e roots c.args.table.now c.go_on.new.table c.args.closed c.args.split.now.items before c.sound.ensures.sound c.args.asserts.now c.requires.exact c.requires.asserts c.go_on.ensures.step most_closure_terms (large h)

pub marked-requires : goal.marked-requires
marked-requires c = record { few = omega (arith, ap length c.deref-2.ensures.value, c.in_ok-go_on.ensures.long, c.in_ok-go_on.ensures.few) }

pub returns-in_err-all-clause-grown : goal.returns-in_err-all-clause-grown
returns-in_err-all-clause-grown c = c.go_on.ensures.step.grown

pub returns-in_err-all-clause-split_grown : goal.returns-in_err-all-clause-split_grown
returns-in_err-all-clause-split_grown c = Begins-itself c.args.split.now.items

pub returns-in_err-push_new-clause-grown : goal.returns-in_err-push_new-clause-grown
returns-in_err-push_new-clause-grown c = c.go_on.ensures.step.grown

pub returns-clause-grown : goal.returns-clause-grown
returns-clause-grown c = c.go_on.ensures.step.grown

pub returns-clause-closure : goal.returns-clause-closure
returns-clause-closure c = λ e roots before t.
    let d = c.args.sig.now in
    let new = c.go_on.new.table in
    let th : Theorems = record { trees = c.trees.ensures.trees; of_sorts = c.structure.ensures.of_their_sorts; own = c.structure.ensures.own_constructors; stays = c.stable_sizes.ensures.stays } in
    (further_in th d e roots c.args.table.now c.go_on.new.table c.args.closed c.args.split.now.items before c.sound.ensures.sound c.args.asserts.now c.requires.exact c.requires.asserts c.go_on.ensures.step t, further_has th d e roots c.args.table.now c.go_on.new.table c.args.closed c.args.split.now.items before c.sound.ensures.sound c.args.asserts.now c.requires.exact c.requires.asserts c.go_on.ensures.step c.begins.ensures.begins (closed_when_taken c.trees.ensures.trees d new c.go_on.ensures.step.sound c.go_on.new.marks.items c.in_ok-go_on.ensures.long c.in_ok-go_on.ensures.taken) t)

pub returns-clause-over : goal.returns-clause-over
returns-clause-over c = λ e roots before.
    let d = c.args.sig.now in
    let new = c.go_on.new.table in
    let th : Theorems = record { trees = c.trees.ensures.trees; of_sorts = c.structure.ensures.of_their_sorts; own = c.structure.ensures.own_constructors; stays = c.stable_sizes.ensures.stays } in
    further_over th d e roots c.args.table.now c.go_on.new.table c.args.closed c.args.split.now.items before c.sound.ensures.sound c.args.asserts.now c.requires.exact c.requires.asserts c.go_on.ensures.step c.push_new.new.list.items c.in_ok-all.all.items c.in_ok-before.before.items (closed_when_taken c.trees.ensures.trees d new c.go_on.ensures.step.sound c.go_on.new.marks.items c.in_ok-go_on.ensures.long c.in_ok-go_on.ensures.taken)
    (λ t marked. subst (λ (l : List TermId). Contains l t) c.deref.ensures.value ((c.in_ok-before.ensures.marks t (omega (arith, c.in_ok-before.ensures.long, slice_get_within c.in_ok-before.before.items t.0 true marked))).1 marked))
    (λ t.
    let listed = c.in_ok-all.ensures.listed t in
    let same : c.deref-2.result.now ≡ c.go_on.new.marks.items = c.deref-2.ensures.value in (
      λ inside. let was = c.in_ok-go_on.ensures.taken.marked t (subst (λ (ms : List Bool). IsMarked ms t) same (listed.0 inside)) in (was.0, was.1),
      λ (sort, split). listed.1 (subst (λ (ms : List Bool). IsMarked ms t) (sym same) (split_marked c.trees.ensures.trees d new c.go_on.ensures.step.sound c.go_on.new.marks.items c.in_ok-go_on.ensures.long c.in_ok-go_on.ensures.taken t sort split)),
    ))
    (λ t. subst (λ (ms : List Bool). Contains c.push_new.new.list.items t ↔ (Contains c.args.split.now.items t ⊎ (Contains c.in_ok-all.all.items t × (IsMarked ms t → ⊥)))) c.deref-3.ensures.value
    (subst (λ (l : List TermId). Contains c.push_new.new.list.items t ↔ (Contains c.args.split.now.items t ⊎ (Contains l t × (IsMarked c.deref-3.result.now t → ⊥)))) c.deref-4.ensures.value (c.in_ok-push_new.ensures.pushed t)))

pub returns-clause-closed : goal.returns-clause-closed
returns-clause-closed c =
    let d = c.args.sig.now in
    let new = c.go_on.new.table in
    (closed_when_taken c.trees.ensures.trees d new c.go_on.ensures.step.sound c.go_on.new.marks.items c.in_ok-go_on.ensures.long c.in_ok-go_on.ensures.taken)

pub returns-clause-split : goal.returns-clause-split
returns-clause-split c = λ t.
    let d = c.args.sig.now in
    let new = c.go_on.new.table in
    let listed = c.in_ok-all.ensures.listed t in
    let same : c.deref-2.result.now ≡ c.go_on.new.marks.items = c.deref-2.ensures.value in (
      λ inside. let was = c.in_ok-go_on.ensures.taken.marked t (subst (λ (ms : List Bool). IsMarked ms t) same (listed.0 inside)) in (was.0, was.1),
      λ (sort, split). listed.1 (subst (λ (ms : List Bool). IsMarked ms t) (sym same) (split_marked c.trees.ensures.trees d new c.go_on.ensures.step.sound c.go_on.new.marks.items c.in_ok-go_on.ensures.long c.in_ok-go_on.ensures.taken t sort split)),
    )

pub returns-clause-propositional : goal.returns-clause-propositional
returns-clause-propositional c = λ e roots before.
    let d = c.args.sig.now in
    let new = c.go_on.new.table in
    let th : Theorems = record { trees = c.trees.ensures.trees; of_sorts = c.structure.ensures.of_their_sorts; own = c.structure.ensures.own_constructors; stays = c.stable_sizes.ensures.stays } in
    subst (HasVariables d (roots ++ terms_at c.args.table.now c.args.asserts.now)) (sym c.count_variables-variables.ensures.count)
    (counted c.trees.ensures.trees d c.declared.ensures.consistent c.declared.ensures.of_their_sorts new c.go_on.ensures.step.sound (roots ++ terms_at c.args.table.now c.args.asserts.now)
    (further_in th d e roots c.args.table.now c.go_on.new.table c.args.closed c.args.split.now.items before c.sound.ensures.sound c.args.asserts.now c.requires.exact c.requires.asserts c.go_on.ensures.step)
    (further_has th d e roots c.args.table.now c.go_on.new.table c.args.closed c.args.split.now.items before c.sound.ensures.sound c.args.asserts.now c.requires.exact c.requires.asserts c.go_on.ensures.step c.begins.ensures.begins (closed_when_taken c.trees.ensures.trees d new c.go_on.ensures.step.sound c.go_on.new.marks.items c.in_ok-go_on.ensures.long c.in_ok-go_on.ensures.taken)))
