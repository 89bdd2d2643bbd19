use Rattle.std.proofs.Common.{◌≡◌, ◌+◌, ◌-◌, ◌≤◌, vec_len, vec_capacity, ◌++◌, reverse, replicate}
use Rattle.ct_stack.specs.Whole.{mark_of}
use Rattle.ct_stack.proofs.levels.put_marks.Given as goal

abbrev pub invariant-loop : goal.invariant-loop
invariant-loop l = (reverse l.levels.items ≡ replicate l.counter (mark_of l.declared l.asserts l.terms) ++ reverse l.initial.levels.items) × (vec_len l.levels + (l.count - l.counter) ≤ vec_capacity l.levels)
