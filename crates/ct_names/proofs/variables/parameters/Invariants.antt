use Rattle.std.proofs.Common.{◌≡◌, map, take}
use Rattle.ct_names.specs.Bounds.{variable_of, variable_of_param}
use Rattle.ct_names.proofs.variables.parameters.Given as goal

abbrev pub invariant-loop-param : goal.invariant-loop-param
invariant-loop-param l = map variable_of l.variables.items ≡ map variable_of_param (take l.param-index l.params)
