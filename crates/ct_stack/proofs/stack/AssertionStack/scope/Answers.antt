use Rattle.std.proofs.Common.{reverse, sym, ap, subst, ◌∙◌}
use Rattle.ct_stack.specs.Stack.{Stack}
use Rattle.ct_stack.specs.Held.{IsSoundLevel, level_in, as_one}
use Rattle.ct_stack.specs.Whole.{whole_in}
use Rattle.ct_stack.proofs.LevelLemmas.{held_now, context_now, as_one_is}
use Rattle.ct_stack.proofs.stack.AssertionStack.scope.Goals as goal

pub returns-clause-value : goal.returns-clause-value
returns-clause-value c =
    let s = c.self.inside in
    sym (context_now (level_in s.scope s.asserts.items) (reverse s.levels.items)) ∙ ap (λ (t : Stack). t.top.context) c.self.view_is

pub returns-clause-sound : goal.returns-clause-sound
returns-clause-sound c =
    let s = c.self.inside in
    subst (λ (t : Stack). IsSoundLevel (as_one t)) c.self.view_is
    (subst IsSoundLevel (sym (as_one_is (level_in s.scope s.asserts.items) (reverse s.levels.items))) (held_now (whole_in s.scope s.asserts.items s.table s.numbers.items) (reverse s.levels.items) c.self.invariant.held).sound)
