use Rattle.std.proofs.Common.{◌≡◌, length, map}
use Rattle.ct_command.specs.Seen.{named_seen}
use Rattle.ct_names.specs.Variables.{has_repeated}
use Rattle.ct_stack.specs.Elaborations.{parameter_names}
use Rattle.ct_stack.proofs.define.has_repeated.Given as goal

abbrev pub invariant-loop-left : goal.invariant-loop-left
invariant-loop-left l = has_repeated (parameter_names (map named_seen l.left)) ≡ has_repeated (parameter_names (map named_seen l.params))

abbrev pub decreases-loop-left : goal.decreases-loop-left
decreases-loop-left l = length l.left
