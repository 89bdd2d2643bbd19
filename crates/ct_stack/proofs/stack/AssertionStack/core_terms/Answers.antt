use Rattle.std.proofs.Common.{List, reverse, sym, subst}
use Rattle.ct_terms.specs.declared.ids.TermId.{TermId}
use Rattle.ct_stack.specs.Stack.{Level, Stack}
use Rattle.ct_stack.specs.Held.{IsHeld, level_in, as_one}
use Rattle.ct_stack.specs.Whole.{whole_in}
use Rattle.ct_stack.proofs.LevelLemmas.{held_now, as_one_is}
use Rattle.ct_stack.proofs.stack.AssertionStack.core_terms.Goals as goal

pub returns : goal.returns
returns c =
    let s = c.self.inside in
    let held = held_now (whole_in s.scope s.asserts.items s.table s.numbers.items) (reverse s.levels.items) c.self.invariant.held in
    record {
      held =
          subst (λ (ns : List TermId). IsHeld (as_one c.args.self.now) s.table ns) (sym c.as_slice.ensures.value)
          (subst (λ (t : Stack). IsHeld (as_one t) s.table s.numbers.items) c.self.view_is
          (subst (λ (l : Level). IsHeld l s.table s.numbers.items) (sym (as_one_is (level_in s.scope s.asserts.items) (reverse s.levels.items))) held));
    }
