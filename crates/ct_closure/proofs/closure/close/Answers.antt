use Rattle.std.proofs.Common.{rules, IsErrOf, ◌≡◌, ◌<◌, Bool, List, length, sym, ap, subst, arith}
use Rattle.ct_closure.specs.Steps.{IsMarked}
use Rattle.ct_closure.proofs.GrowthLemmas.{Begins-itself, step_none}
use Rattle.ct_closure.specs.Closed.{HasVariables, most_closure_terms}
use Rattle.ct_closure.specs.ClosedTable.{terms_at}
use Rattle.ct_closure.proofs.VariableLemmas.{counted}
use Rattle.ct_closure.specs.declared.error.CloseError.TheVariants.{TooLarge}
use Rattle.ct_closure.proofs.ClosedLemmas.{split_marked, closed_when_taken}
use Rattle.ct_closure.proofs.LeastLemmas.{assert_inside, assert_rooted, in_closure, has_closure, many}
use Rattle.ct_closure.proofs.closure.close.Goals as goal

pub returns-then-len-gt-MOST_TERMS-clause-grown : goal.returns-then-len-gt-MOST_TERMS-clause-grown
returns-then-len-gt-MOST_TERMS-clause-grown c = Begins-itself c.args.table.now

pub returns-then-len-gt-MOST_TERMS-clause-too_large : goal.returns-then-len-gt-MOST_TERMS-clause-too_large
returns-then-len-gt-MOST_TERMS-clause-too_large c = λ h.
    many c.trees.ensures.trees c.args.sig.now c.args.table.now c.args.table.now (terms_at c.args.table.now c.args.asserts.now) (assert_inside c.args.sig.now c.args.table.now c.args.asserts.now c.requires.exact) (assert_rooted c.args.table.now c.args.asserts.now c.requires.asserts) (step_none c.args.sig.now c.args.table.now c.sound.ensures.sound) most_closure_terms (omega (arith, c.len.ensures.count, c.if-len-gt-MOST_TERMS.true))

pub returns-in_err-marks-clause-grown : goal.returns-in_err-marks-clause-grown
returns-in_err-marks-clause-grown c = c.close_table.ensures.step.grown

pub returns-in_err-marks-clause-too_large : goal.returns-in_err-marks-clause-too_large
returns-in_err-marks-clause-too_large c =
    let large : IsErrOf c.from_residual.result TooLarge → most_closure_terms < length c.close_table.new.table = search rules in
    λ h.
    many c.trees.ensures.trees c.args.sig.now c.args.table.now c.close_table.new.table (terms_at c.args.table.now c.args.asserts.now) (assert_inside c.args.sig.now c.args.table.now c.args.asserts.now c.requires.exact) (assert_rooted c.args.table.now c.args.asserts.now c.requires.asserts) c.close_table.ensures.step most_closure_terms (large h)

pub marked-requires : goal.marked-requires
marked-requires c = record { few = omega (arith, ap length c.deref.ensures.value, c.in_ok-marks.ensures.long, c.in_ok-marks.ensures.few) }

pub returns-in_err-split-clause-grown : goal.returns-in_err-split-clause-grown
returns-in_err-split-clause-grown c = c.close_table.ensures.step.grown

pub returns-clause-grown : goal.returns-clause-grown
returns-clause-grown c = c.close_table.ensures.step.grown

pub returns-clause-closure : goal.returns-clause-closure
returns-clause-closure c = λ t.
    let d = c.args.sig.now in
    let new = c.close_table.new.table in
    let step = c.close_table.ensures.step in (
      in_closure c.trees.ensures.trees d c.args.table.now new (terms_at c.args.table.now c.args.asserts.now) (assert_inside c.args.sig.now c.args.table.now c.args.asserts.now c.requires.exact) (assert_rooted c.args.table.now c.args.asserts.now c.requires.asserts) step t,
      has_closure c.trees.ensures.trees d c.args.table.now new (terms_at c.args.table.now c.args.asserts.now) (assert_inside c.args.sig.now c.args.table.now c.args.asserts.now c.requires.exact) (assert_rooted c.args.table.now c.args.asserts.now c.requires.asserts) step c.begins.ensures.begins
          (closed_when_taken c.trees.ensures.trees d new step.sound c.in_ok-marks.marks.items c.in_ok-marks.ensures.long c.in_ok-marks.ensures.taken) t,
    )

pub returns-clause-closed : goal.returns-clause-closed
returns-clause-closed c =
    closed_when_taken c.trees.ensures.trees c.args.sig.now c.close_table.new.table c.close_table.ensures.step.sound c.in_ok-marks.marks.items c.in_ok-marks.ensures.long c.in_ok-marks.ensures.taken

pub returns-clause-split : goal.returns-clause-split
returns-clause-split c = λ t.
    let d = c.args.sig.now in
    let new = c.close_table.new.table in
    let marks = c.in_ok-marks.marks.items in
    let listed = c.in_ok-split.ensures.listed t in
    let same : c.deref.result.now ≡ marks = c.deref.ensures.value in (
      λ inside. let was = c.in_ok-marks.ensures.taken.marked t (subst (λ (ms : List Bool). IsMarked ms t) same (listed.0 inside)) in (was.0, was.1),
      λ (sort, split). listed.1 (subst (λ (ms : List Bool). IsMarked ms t) (sym same) (split_marked c.trees.ensures.trees d new c.close_table.ensures.step.sound marks c.in_ok-marks.ensures.long c.in_ok-marks.ensures.taken t sort split)),
    )

pub returns-clause-propositional : goal.returns-clause-propositional
returns-clause-propositional c =
    let d = c.args.sig.now in
    let new = c.close_table.new.table in
    let step = c.close_table.ensures.step in
    let th = c.trees.ensures.trees in
    let closed = closed_when_taken th d new step.sound c.in_ok-marks.marks.items c.in_ok-marks.ensures.long c.in_ok-marks.ensures.taken in
    subst (HasVariables d (terms_at c.args.table.now c.args.asserts.now)) (sym c.count_variables-variables.ensures.count)
    (counted th d c.declared.ensures.consistent c.declared.ensures.of_their_sorts new step.sound (terms_at c.args.table.now c.args.asserts.now)
    (in_closure th d c.args.table.now new (terms_at c.args.table.now c.args.asserts.now) (assert_inside c.args.sig.now c.args.table.now c.args.asserts.now c.requires.exact) (assert_rooted c.args.table.now c.args.asserts.now c.requires.asserts) step)
    (has_closure th d c.args.table.now new (terms_at c.args.table.now c.args.asserts.now) (assert_inside c.args.sig.now c.args.table.now c.args.asserts.now c.requires.exact) (assert_rooted c.args.table.now c.args.asserts.now c.requires.asserts) step c.begins.ensures.begins closed))
