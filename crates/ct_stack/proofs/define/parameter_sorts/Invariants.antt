use Rattle.std.proofs.Common.{◌≡◌, length, map, All}
use Rattle.ct_sorts.specs.Declarations.{IsSort}
use Rattle.ct_sorts.specs.Grown.{Extends}
use Rattle.ct_names.specs.Sorts.{sort_of}
use Rattle.ct_command.specs.Seen.{named_seen}
use Rattle.ct_stack.specs.Elaborations.{parameter_sorts}
use Rattle.ct_stack.proofs.NeededLemmas.{IsUnderWay}
use Rattle.ct_stack.proofs.define.parameter_sorts.Given as goal

abbrev pub invariant-loop-left : goal.invariant-loop-left
invariant-loop-left l = IsUnderWay sort_of (parameter_sorts (map named_seen l.params)) l.fn.scope.sig l.scope.sig l.sorts.items (parameter_sorts (map named_seen l.left)) × All (IsSort l.scope.sig) l.sorts.items × Extends l.scope.sig l.fn.scope.sig × (l.scope.bodies ≡ l.fn.scope.bodies)

abbrev pub decreases-loop-left : goal.decreases-loop-left
decreases-loop-left l = length l.left
