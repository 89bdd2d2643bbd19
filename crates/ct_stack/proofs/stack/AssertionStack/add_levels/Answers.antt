use Rattle.std.proofs.Common.{arith}
use Rattle.ct_stack.specs.Whole.{mark_of}
use Rattle.ct_stack.proofs.MarkLemmas.{kept_pushed, stack_pushed_by}
use Rattle.ct_stack.proofs.stack.AssertionStack.add_levels.Goals as goal

pub invariant_of-self-2 : goal.invariant_of-self-2
invariant_of-self-2 c =
    let s = c.self.inside in
    kept_pushed c.stack_theorems.ensures.hold s.scope s.asserts.items s.table s.numbers.items s.levels.items s.first c.sorts.ensures.consistent c.self.invariant c.len-terms.ensures.begins (mark_of c.mark-declared.result c.len-asserts.result c.len-terms.result) c.mark-declared.ensures.lengths (omega (arith, c.len-asserts.ensures, s.asserts.ok.0)) c.len-terms.ensures.count c.args.count c.put_marks.new.levels.items c.reserve.new.self.items c.put_marks.ensures.put c.reserve.ensures.items

pub returns-clause-pushed : goal.returns-clause-pushed
returns-clause-pushed c =
    let s = c.self.inside in
    stack_pushed_by c.stack_theorems.ensures.hold s.scope s.asserts.items s.table s.numbers.items s.levels.items s.first c.sorts.ensures.consistent c.self.invariant c.len-terms.ensures.begins (mark_of c.mark-declared.result c.len-asserts.result c.len-terms.result) c.mark-declared.ensures.lengths (omega (arith, c.len-asserts.ensures, s.asserts.ok.0)) c.len-terms.ensures.count c.args.count c.put_marks.new.levels.items c.reserve.new.self.items c.put_marks.ensures.put c.reserve.ensures.items c.args.self.now c.self.view_is
