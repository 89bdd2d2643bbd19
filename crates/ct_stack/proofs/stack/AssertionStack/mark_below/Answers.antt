use Rattle.std.proofs.Common.{◌≡◌, ◌∙◌, ◌-◌, Bool, false, List, length, slice_get, Some, sym, ap, subst, arith}
use Rattle.ct_sorts.specs.Lengths.{Lengths}
use Rattle.ct_stack.specs.Levels.{popped_by, left_by, IsCutTo}
use Rattle.ct_stack.specs.Held.{level_in}
use Rattle.ct_stack.specs.Whole.{whole_in}
use Rattle.ct_stack.specs.declared.levels.LevelMark.{LevelMark}
use Rattle.ct_stack.proofs.MarkLemmas.{levels_are}
use Rattle.ct_stack.proofs.LeftLemmas.{mark_left, cut_left}
use Rattle.ct_stack.proofs.stack.AssertionStack.mark_below.Goals as goal

pub returns-then-levels-n-clause-mark : goal.returns-then-levels-n-clause-mark
returns-then-levels-n-clause-mark c = λ within.
    let s = c.self.inside in
    absurd (omega (arith, within, c.if-levels-n.true, c.as_slice-levels.ensures.len, levels_are (level_in s.scope s.asserts.items) s.levels.items c.args.self.now c.self.view_is))

pub returns-clause-mark : goal.returns-clause-mark
returns-clause-mark c = λ within.
    let s = c.self.inside in
    let now = c.args.self.now in
    let (m, stands, is) = c.mark_before.ensures.mark in
    let there = subst (λ (ms : List LevelMark). slice_get ms (length ms - c.args.n) ≡ Some m) c.as_slice-levels.ensures.value stands in
    let many = levels_are (level_in s.scope s.asserts.items) s.levels.items now c.self.view_is in
    ap Some is
    ∙ mark_left c.stack_theorems.ensures.hold (whole_in s.scope s.asserts.items s.table s.numbers.items) s.levels.items c.self.invariant.held now c.self.view_is c.args.n (omega (arith, c.if-n-eq0.false)) (omega (arith, within, many)) m there
    ∙ ap (λ (b : Bool). left_by b c.args.n now) (sym c.if-global.false)

pub returns-clause-above : goal.returns-clause-above
returns-clause-above c = λ fewer.
    let s = c.self.inside in
    absurd (omega (arith, fewer, c.if-levels-n.false, c.as_slice-levels.ensures.len, levels_are (level_in s.scope s.asserts.items) s.levels.items c.args.self.now c.self.view_is))

pub returns-clause-cut : goal.returns-clause-cut
returns-clause-cut c =
    let s = c.self.inside in
    let now = c.args.self.now in
    let (m, stands, is) = c.mark_before.ensures.mark in
    let there = subst (λ (ms : List LevelMark). slice_get ms (length ms - c.args.n) ≡ Some m) c.as_slice-levels.ensures.value stands in
    let many = ap (λ (ms : List LevelMark). length ms) c.as_slice-levels.ensures.value in
    subst (λ (b : Bool). IsCutTo now.top.context.declarations c.mark_before.result (popped_by b c.args.n now).top.context.declarations) (sym c.if-global.false)
    (subst (λ (x : Lengths). IsCutTo now.top.context.declarations x (popped_by false c.args.n now).top.context.declarations) (sym is)
    (cut_left c.stack_theorems.ensures.hold (whole_in s.scope s.asserts.items s.table s.numbers.items) s.levels.items c.self.invariant.held now c.self.view_is c.args.n (omega (arith, c.if-n-eq0.false)) (omega (arith, c.if-levels-n.false, c.as_slice-levels.ensures.len, many)) m there))
