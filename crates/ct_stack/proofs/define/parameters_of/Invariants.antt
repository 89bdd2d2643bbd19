use Rattle.std.proofs.Common.{◌≡◌, ◌++◌, length, map, Some}
use Rattle.ct_names.specs.Variables.{variables}
use Rattle.ct_names.specs.Bounds.{variable_of_param}
use Rattle.ct_command.specs.Seen.{named_seen}
use Rattle.ct_stack.specs.Elaborations.{parameter_names}
use Rattle.ct_stack.proofs.define.parameters_of.Given as goal

abbrev pub invariant-loop-params_left : goal.invariant-loop-params_left
invariant-loop-params_left l = variables (map (λ name. Some name) (parameter_names (map named_seen l.params))) l.sorts ≡ map variable_of_param l.bound.items ++ variables (map (λ name. Some name) (parameter_names (map named_seen l.params_left))) l.sorts_left

abbrev pub decreases-loop-params_left : goal.decreases-loop-params_left
decreases-loop-params_left l = length l.params_left
