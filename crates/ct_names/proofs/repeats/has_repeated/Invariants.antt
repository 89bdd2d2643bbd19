use Rattle.std.proofs.Common.{◌≡◌, ◌||◌, map, length}
use Rattle.ct_names.specs.Bounds.{held_name}
use Rattle.ct_names.specs.Repeats.{names_in_set, are_met}
use Rattle.ct_names.specs.Variables.{present_names, has_repeated}
use Rattle.ct_names.proofs.repeats.has_repeated.Given as goal

abbrev pub invariant-loop-left : goal.invariant-loop-left
invariant-loop-left l = has_repeated (present_names (map held_name l.names)) ≡ (are_met (names_in_set l.seen) (present_names (map held_name l.left)) || has_repeated (present_names (map held_name l.left)))

abbrev pub decreases-loop-left : goal.decreases-loop-left
decreases-loop-left l = length l.left
