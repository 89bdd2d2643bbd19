use Rattle.std.proofs.Common.{◌≡◌, length, All}
use Rattle.ct_sorts.specs.Declarations.{IsSort}
use Rattle.ct_sorts.specs.Grown.{Extends}
use Rattle.ct_names.specs.Sorts.{sort_of}
use Rattle.ct_command.specs.Seen.{all_seen}
use Rattle.ct_stack.proofs.NeededLemmas.{IsUnderWay}
use Rattle.ct_stack.proofs.sorts.sorts_named.Given as goal

abbrev pub invariant-loop-left : goal.invariant-loop-left
invariant-loop-left l = IsUnderWay sort_of (all_seen l.exprs) l.fn.scope.sig l.scope.sig l.sorts.items (all_seen l.left) × All (IsSort l.scope.sig) l.sorts.items × Extends l.scope.sig l.fn.scope.sig × (l.scope.bodies ≡ l.fn.scope.bodies)

abbrev pub decreases-loop-left : goal.decreases-loop-left
decreases-loop-left l = length l.left
