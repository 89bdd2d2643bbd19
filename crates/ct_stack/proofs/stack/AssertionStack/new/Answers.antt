use Rattle.std.proofs.Common.{◌∙◌}
use Rattle.ct_stack.proofs.MarkLemmas.{kept_first}
use Rattle.ct_stack.proofs.stack.AssertionStack.new.Goals as goal

pub invariant_of-result : goal.invariant_of-result
invariant_of-result c =
    kept_first c.stack_theorems.ensures.hold (record { sig = c.in-Ok.sig; bodies = c.new-4.result }) c.new-5.result.items c.in-Ok-new.table c.new-6.result.items c.new-7.result.items c.new-5.ensures.items c.new-6.ensures.items c.new-7.ensures.items c.mark-first.result c.in-Ok.ensures.ok (c.new-4.ensures.value ∙ c.new-3.ensures.items) c.in-Ok-new.ensures.ok c.len.ensures.ordered c.in-Ok-new.ensures.at_start c.mark-first.ensures.lengths c.sorts.ensures.consistent
