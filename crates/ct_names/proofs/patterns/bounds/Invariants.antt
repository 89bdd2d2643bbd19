use Rattle.std.proofs.Common.{◌≡◌, ◌++◌, map, length}
use Rattle.ct_names.specs.Variables.{variables}
use Rattle.ct_names.specs.Bounds.{variable_of, held_name}
use Rattle.ct_names.proofs.patterns.bounds.Given as goal

abbrev pub invariant-loop-left : goal.invariant-loop-left
invariant-loop-left l = map variable_of l.bounds.items ++ variables (map held_name l.left) l.sorts_left ≡ variables (map held_name l.names) l.sorts

abbrev pub decreases-loop-left : goal.decreases-loop-left
decreases-loop-left l = length l.left
