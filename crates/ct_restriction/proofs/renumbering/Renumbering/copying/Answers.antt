use Rattle.std.proofs.Common.{◌≡◌, ◌<◌, ◌≤◌, [], length, sym, ap, subst, arith, length-take}
use Rattle.std.specs.List.{AllByRecursion}
use Rattle.std.proofs.lemmas.List.{append-nil}
use Rattle.std.proofs.lemmas.List.Elements.{recursion_from_All}
use Rattle.ct_terms.specs.declared.ids.TermId.{TermId}
use Rattle.ct_restriction.specs.Renumbered.{Numbers, AreMade}
use Rattle.ct_restriction.proofs.MadeLemmas.{made_truths, made_equal, made_all, made_room, made_only}
use Rattle.ct_restriction.proofs.renumbering.Renumbering.copying.Goals as goal
use Rattle.ct_restriction.proofs.renumbering.Renumbering.copying.Goals.{After-loop-t}

pub loop-t-init : goal.loop-t-init
loop-t-init c = record {
  made = subst (AreMade c.args.to.now c.args.from.now c.in_ok-marks.marks.items c.args.to.now) (sym c.in_ok-made.ensures.two)
      (made_truths c.args.to.now c.args.from.now c.in_ok-marks.marks.items c.len-others.ensures.begins c.len-others.ensures.ordered c.len-terms.ensures.begins c.len-terms.ensures.ordered);
  grown = ([], sym (append-nil c.args.to.now));
  sorted = c.requires.so_far;
  long = ap (λ (n : Numbers). length n.numbers) c.in_ok-made.ensures.two;
}

-- all terms were looked at
long_is : (c : After-loop-t) → length c.loop-t.made.numbers ≡ length c.args.from.now
long_is c =
    let two : 2 ≤ c.len-t-end.result = omega (arith, ap length c.len-terms.ensures.begins, length-take 2 c.args.from.now, c.len-t-end.ensures.count) in
    let upper = c.loop-t.auto.t-end two in
    omega (arith, c.loop-t.invariant.long, upper, c.loop-t-test.false, c.len-t-end.ensures.count)

within : (c : After-loop-t) → AllByRecursion (λ t. t.0 < length c.args.from.now) c.args.roots.now
within c = recursion_from_All (λ (t : TermId). t.0 < length c.args.from.now) c.args.roots.now c.requires.within

pub returns-clause-equal : goal.returns-clause-equal
returns-clause-equal c =
    made_equal c.args.to.now c.args.from.now c.in_ok-marks.marks.items c.args.roots.now c.loop-t.to c.loop-t.made c.loop-t.invariant.made c.in_ok-marks.ensures.marked (long_is (goal.at.returns-clause-equal c).After-loop-t)
    (within (goal.at.returns-clause-equal c).After-loop-t)

pub returns-clause-all : goal.returns-clause-all
returns-clause-all c =
    made_all c.args.to.now c.args.from.now c.in_ok-marks.marks.items c.args.roots.now c.loop-t.to c.loop-t.made c.loop-t.invariant.made c.in_ok-marks.ensures.marked (long_is (goal.at.returns-clause-all c).After-loop-t)
    (within (goal.at.returns-clause-all c).After-loop-t) c.loop-t.invariant.grown c.len-copied.ensures.ordered c.len-copied.ensures.single

pub returns-clause-room : goal.returns-clause-room
returns-clause-room c = λ room.
    made_room c.args.to.now c.args.from.now c.in_ok-marks.marks.items c.args.roots.now c.loop-t.to c.loop-t.made c.loop-t.invariant.made c.in_ok-marks.ensures.marked (long_is (goal.at.returns-clause-room c).After-loop-t)
    (within (goal.at.returns-clause-room c).After-loop-t) room

pub returns-clause-only : goal.returns-clause-only
returns-clause-only c =
    made_only c.args.to.now c.args.from.now c.in_ok-marks.marks.items c.args.roots.now c.loop-t.to c.loop-t.made c.loop-t.invariant.made c.in_ok-marks.ensures.marked (long_is (goal.at.returns-clause-only c).After-loop-t)
    (within (goal.at.returns-clause-only c).After-loop-t)
