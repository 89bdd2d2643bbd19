use Rattle.std.proofs.Common.{◌≡◌, length, map, All}
use Rattle.ct_sorts.specs.Grown.{Extends}
use Rattle.ct_command.specs.Seen.{all_seen}
use Rattle.ct_stack.specs.Assuming.{assumption_of, assumption_seen, IsTruth}
use Rattle.ct_stack.proofs.NeededLemmas.{IsUnderWay}
use Rattle.ct_stack.proofs.assuming.all_assumptions.Given as goal

abbrev pub invariant-loop-left : goal.invariant-loop-left
invariant-loop-left l =
    IsUnderWay assumption_of (all_seen l.terms) l.fn.scope.sig l.scope.sig (map assumption_seen l.read.items) (all_seen l.left)
    × All (IsTruth l.scope.sig) l.read.items × Extends l.scope.sig l.fn.scope.sig × (l.scope.bodies ≡ l.fn.scope.bodies)

abbrev pub decreases-loop-left : goal.decreases-loop-left
decreases-loop-left l = length l.left
