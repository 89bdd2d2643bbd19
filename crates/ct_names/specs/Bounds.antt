-- The variables that the program holds: they stand in the order in which they were bound.
use Rattle.std.specs.Prelude.{ℕ, List, [], map, Option, Some, option_map}
use Rattle.std.specs.Borrow.{Bor}
use Rattle.ct_formulas.specs.Formula.{bind}
use Rattle.ct_names.specs.declared.variables.BoundVariable.{BoundVariable}
use Rattle.ct_names.specs.declared.variables.Param.{Param}
use Rattle.ct_names.specs.Variables.{Variable}
use Rattle.ct_formulas.specs.declared.tree.Pattern.{Pattern}
use Rattle.std.specs.Global.{Vec}
use Rattle.ct_names.specs.Patterns.{Binding}

-- the name that is held, none for `_`
abbrev pub held_name : Option (Bor (List ℕ)) → Option (List ℕ)
held_name name = option_map (λ (text : Bor (List ℕ)). text.now) name

-- the variable that is held
abbrev pub variable_of : BoundVariable → Variable
variable_of b = record { name = held_name b.name; sort = b.sort }

-- the variable that a parameter is
abbrev pub variable_of_param : Param → Variable
variable_of_param p = record { name = Some p.name; sort = p.sort }

-- the parameters as variables in scope
abbrev pub parameter_variables : List Param → List Variable
parameter_variables params = bind (map variable_of_param params) []

-- the pattern with the variables that it binds
abbrev pub held_binding : Pattern × Vec BoundVariable → Binding
held_binding b = (b.0, map variable_of b.1.items)
