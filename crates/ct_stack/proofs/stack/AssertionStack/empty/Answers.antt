use Rattle.std.proofs.Common.{◌∙◌}
use Rattle.ct_stack.proofs.MarkLemmas.{kept_global_empty, emptied_global, kept_empty}
use Rattle.ct_stack.proofs.stack.AssertionStack.empty.Goals as goal

pub invariant_of-self : goal.invariant_of-self
invariant_of-self c =
    let s = c.self.inside in
    kept_global_empty c.stack_theorems.ensures.hold s.scope s.asserts.items s.table s.numbers.items s.levels.items s.first c.sorts.ensures.consistent c.self.invariant c.truncate-2.new.self.items c.cut_to.new.self c.truncate-3.new.self.items c.truncate.new.self.items c.truncate-2.ensures.items c.truncate-3.ensures.items c.truncate.ensures.items (c.cut_to.ensures.first ∙ c.len.ensures.begins) c.len-2.ensures.ordered c.cut_to.ensures.sorted

pub returns-then-global : goal.returns-then-global
returns-then-global c =
    let s = c.self.inside in
    record { emptied = emptied_global c.stack_theorems.ensures.hold s.scope s.asserts.items s.table s.numbers.items s.levels.items s.first c.sorts.ensures.consistent c.self.invariant c.truncate-2.new.self.items c.cut_to.new.self c.truncate-3.new.self.items c.truncate.new.self.items c.truncate-2.ensures.items c.truncate-3.ensures.items c.truncate.ensures.items (c.cut_to.ensures.first ∙ c.len.ensures.begins) c.len-2.ensures.ordered c.args.global c.args.self.now c.if-global.true c.self.view_is }

pub invariant_of-self-2 : goal.invariant_of-self-2
invariant_of-self-2 c =
    let s = c.self.inside in
    kept_empty c.stack_theorems.ensures.hold s.scope s.asserts.items s.table s.numbers.items s.levels.items s.first c.sorts.ensures.consistent c.self.invariant c.truncate-2.new.self.items c.cut_to.new.self c.truncate-3.new.self.items c.truncate.new.self.items c.truncate-2.ensures.items c.truncate-3.ensures.items c.truncate.ensures.items (c.cut_to.ensures.first ∙ c.len.ensures.begins) c.len-2.ensures.ordered c.cut_scope.new.scope c.cut_scope.ensures.sig c.cut_scope.ensures.bodies
