use Rattle.std.proofs.Common.{length, All}
use Rattle.ct_stack.specs.Assuming.{assumed_formulas, assumptions_seen, IsTruth}
use Rattle.ct_stack.specs.Held.{context_in}
use Rattle.ct_stack.proofs.GrowingLemmas.{IsUnderWay}
use Rattle.ct_stack.proofs.assuming.assumption_numbers.Given as goal

abbrev pub invariant-loop-left : goal.invariant-loop-left
invariant-loop-left l =
    IsUnderWay (context_in l.scope) (assumed_formulas (assumptions_seen l.assumed)) (assumed_formulas (assumptions_seen l.left)) l.initial.table l.table l.numbers.items
    × All (IsTruth l.scope.sig) l.left

abbrev pub decreases-loop-left : goal.decreases-loop-left
decreases-loop-left l = length l.left
