use Rattle.std.proofs.Common.{refl, sym, subst}
use Rattle.ct_congr.specs.State.{State}
use Rattle.ct_congr.specs.Outside.{IsOutside}
use Rattle.ct_congr.proofs.HeldLemmas.{sides_outside}
use Rattle.ct_congr.proofs.MarkLemmas.{AreMarked-more, marks_of-more}
use Rattle.ct_congr.proofs.classes.Classes.merge.Goals as goal

pub merge_outside-requires-clause-sorted : goal.merge_outside-requires-clause-sorted
merge_outside-requires-clause-sorted c = c.self.invariant.0.sorted

pub merge_outside-requires-clause-kept : goal.merge_outside-requires-clause-kept
merge_outside-requires-clause-kept c = c.self.invariant.1

pub merge_outside-requires-clause-left : goal.merge_outside-requires-clause-left
merge_outside-requires-clause-left c =
    let s = c.self.inside in
    let store = s.progress.store in
    let reason = subst (λ (q : State). IsOutside q c.args.left c.args.right c.args.why) (sym c.self.view_is) c.requires.justified in
    (sides_outside s.sig s.table s.single.items s.hyps.items s.given.items store.parts.now.reps store.parts.now.cons store.merges.items c.args.left c.args.right c.args.why (λ all sorted stripped justified why. c.one_sort.ensures.sides all store.merges.items sorted stripped justified store.parts.now.reps c.self.invariant.0.sound.connected c.args.left c.args.right c.args.why why) c.self.invariant.0 reason).0

pub merge_outside-requires-clause-right : goal.merge_outside-requires-clause-right
merge_outside-requires-clause-right c =
    let s = c.self.inside in
    let store = s.progress.store in
    let reason = subst (λ (q : State). IsOutside q c.args.left c.args.right c.args.why) (sym c.self.view_is) c.requires.justified in
    (sides_outside s.sig s.table s.single.items s.hyps.items s.given.items store.parts.now.reps store.parts.now.cons store.merges.items c.args.left c.args.right c.args.why (λ all sorted stripped justified why. c.one_sort.ensures.sides all store.merges.items sorted stripped justified store.parts.now.reps c.self.invariant.0.sound.connected c.args.left c.args.right c.args.why why) c.self.invariant.0 reason).1

pub invariant_of-self : goal.invariant_of-self
invariant_of-self c =
    let reason = subst (λ (q : State). IsOutside q c.args.left c.args.right c.args.why) (sym c.self.view_is) c.requires.justified in
    let s = c.self.inside in
    let p = s.progress in
    let new = c.merge_outside.new.progress in (
      c.merge_outside.ensures.held s.single.items c.self.invariant.0 reason,
      c.merge_outside.ensures.kept,
      AreMarked-more s.sig s.table s.single.items s.hyps.items c.merge_outside.new.hyps.items s.given.items c.merge_outside.new.given.items p.store.merges.items new.store.merges.items p.keys new.keys p.store.parts new.store.parts s.levels c.merge_outside.ensures.more_hypotheses c.merge_outside.ensures.more_given c.merge_outside.ensures.further.extended c.merge_outside.ensures.further.more c.self.invariant.2,
    )

pub invariant_of-self-2 : goal.invariant_of-self-2
invariant_of-self-2 c =
    let reason = subst (λ (q : State). IsOutside q c.args.left c.args.right c.args.why) (sym c.self.view_is) c.requires.justified in
    let s = c.self.inside in
    let p = s.progress in
    let new = c.merge_outside.new.progress in (
      c.merge_outside.ensures.held s.single.items c.self.invariant.0 reason,
      c.merge_outside.ensures.kept,
      AreMarked-more s.sig s.table s.single.items s.hyps.items c.merge_outside.new.hyps.items s.given.items c.merge_outside.new.given.items p.store.merges.items new.store.merges.items p.keys new.keys p.store.parts new.store.parts s.levels c.merge_outside.ensures.more_hypotheses c.merge_outside.ensures.more_given c.merge_outside.ensures.further.extended c.merge_outside.ensures.further.more c.self.invariant.2,
    )

pub returns : goal.returns
returns c =
    let s = c.self.inside in
    let p = s.progress in
    let new = c.merge_outside.new.progress in
    rw (← c.self.view_is) (record {
      declarations = refl;
      terms = refl;
      hypotheses = c.in_ok-merge_outside.ensures.hypotheses;
      given = c.in_ok-merge_outside.ensures.given;
      merges = c.in_ok-merge_outside.ensures.merges;
      marks = marks_of-more s.sig s.table s.single.items s.hyps.items c.merge_outside.new.hyps.items s.given.items c.merge_outside.new.given.items p.store.merges.items new.store.merges.items p.keys new.keys p.store.parts new.store.parts s.levels c.merge_outside.ensures.more_hypotheses c.merge_outside.ensures.more_given c.merge_outside.ensures.further.extended c.merge_outside.ensures.further.more c.self.invariant.2;
    })
