use Rattle.std.proofs.Common.{◌+◌, ◌-◌, ◌*◌, reverse}
use Rattle.ct_value_text.specs.Walk.{IsWalked, closes}
use Rattle.ct_value_text.proofs.tree_text.tree_text.Given as goal

abbrev pub invariant-loop-item : goal.invariant-loop-item
invariant-loop-item l = IsWalked l.sig l.g l.fn.root l.out.items (reverse l.stack.items) l.count

abbrev pub decreases-loop-item : goal.decreases-loop-item
decreases-loop-item l = 2 * (1000 - l.count) + closes (reverse l.stack.items)
