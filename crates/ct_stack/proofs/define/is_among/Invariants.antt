use Rattle.std.proofs.Common.{◌≡◌, length, map}
use Rattle.std.specs.List.{list_any}
use Rattle.std.specs.Str.{bytes_eq}
use Rattle.ct_command.specs.Seen.{named_seen}
use Rattle.ct_stack.specs.Elaborations.{parameter_names}
use Rattle.ct_stack.proofs.define.is_among.Given as goal

abbrev pub invariant-loop-left : goal.invariant-loop-left
invariant-loop-left l = list_any (bytes_eq l.name) (parameter_names (map named_seen l.left)) ≡ list_any (bytes_eq l.name) (parameter_names (map named_seen l.params))

abbrev pub decreases-loop-left : goal.decreases-loop-left
decreases-loop-left l = length l.left
