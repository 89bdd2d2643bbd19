-- Scopes that the cases declare.
use Rattle.std.specs.Prelude.{map}
use Rattle.ct_scope.specs.declared.scope.Scope.{Scope}
use Rattle.ct_formulas.specs.FormulaSorts.{AreSound}
use Rattle.ct_formulas.specs.TreeFormula.{formula_of}

-- each definition has a body of its sort
abbrev pub IsSound : Scope → Type 0
IsSound scope = AreSound scope.sig (map formula_of scope.bodies)
