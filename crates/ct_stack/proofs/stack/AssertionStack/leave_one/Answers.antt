use Rattle.ct_stack.proofs.MarkLemmas.{kept_global, popped_global, kept_left, popped_left, can_cut_back}
use Rattle.ct_stack.proofs.stack.AssertionStack.leave_one.Goals as goal

pub invariant_of-self-then-global : goal.invariant_of-self-then-global
invariant_of-self-then-global c =
    let s = c.self.inside in
    kept_global c.stack_theorems.ensures.hold s.scope s.asserts.items s.table s.numbers.items s.levels.items c.pop.new.self.items c.in-Some.mark s.first c.sorts.ensures.consistent c.self.invariant c.in-Some.ensures.items c.truncate.new.self.items c.cut_to.new.self c.truncate-2.new.self.items c.truncate.ensures.items c.cut_to.ensures.first c.truncate-2.ensures.items

pub returns-then-global : goal.returns-then-global
returns-then-global c =
    let s = c.self.inside in
    record { popped = popped_global c.stack_theorems.ensures.hold s.scope s.asserts.items s.table s.numbers.items s.levels.items c.pop.new.self.items c.in-Some.mark s.first c.sorts.ensures.consistent c.self.invariant c.in-Some.ensures.items c.truncate.new.self.items c.cut_to.new.self c.truncate-2.new.self.items c.truncate.ensures.items c.cut_to.ensures.first c.truncate-2.ensures.items c.args.global c.args.self.now c.if-global.true c.self.view_is }

pub cut_scope-requires : goal.cut_scope-requires
cut_scope-requires c =
    let s = c.self.inside in
    record { can_cut = can_cut_back c.stack_theorems.ensures.hold s.scope s.asserts.items s.table s.numbers.items s.levels.items c.pop.new.self.items c.in-Some.mark s.first c.sorts.ensures.consistent c.self.invariant c.in-Some.ensures.items }

pub invariant_of-self-2 : goal.invariant_of-self-2
invariant_of-self-2 c =
    let s = c.self.inside in
    kept_left c.stack_theorems.ensures.hold s.scope s.asserts.items s.table s.numbers.items s.levels.items c.pop.new.self.items c.in-Some.mark s.first c.sorts.ensures.consistent c.self.invariant c.in-Some.ensures.items c.truncate.new.self.items c.cut_to.new.self c.truncate-2.new.self.items c.truncate.ensures.items c.cut_to.ensures.first c.truncate-2.ensures.items c.cut_scope.new.scope c.cut_scope.ensures.sig c.cut_scope.ensures.bodies

pub returns : goal.returns
returns c =
    let s = c.self.inside in
    record { popped = popped_left c.stack_theorems.ensures.hold s.scope s.asserts.items s.table s.numbers.items s.levels.items c.pop.new.self.items c.in-Some.mark s.first c.sorts.ensures.consistent c.self.invariant c.in-Some.ensures.items c.truncate.new.self.items c.cut_to.new.self c.truncate-2.new.self.items c.truncate.ensures.items c.cut_to.ensures.first c.truncate-2.ensures.items c.cut_scope.new.scope c.cut_scope.ensures.sig c.cut_scope.ensures.bodies c.args.global c.args.self.now c.if-global.false c.self.view_is }
