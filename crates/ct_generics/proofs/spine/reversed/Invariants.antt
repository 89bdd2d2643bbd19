use Rattle.std.proofs.Common.{◌≡◌, ◌++◌, length, reverse}
use Rattle.ct_generics.proofs.spine.reversed.Given as goal

abbrev pub invariant-loop-id : goal.invariant-loop-id
invariant-loop-id l = l.args.items ++ reverse l.rest.items ≡ reverse l.fn.stack.items

abbrev pub decreases-loop-id : goal.decreases-loop-id
decreases-loop-id l = length l.rest.items
