use Rattle.std.proofs.Common.{◌≡◌, map, take}
use Rattle.ct_names.specs.declared.variables.Param.{Param}
use Rattle.test_engine.proofs.define.sorts_of.Given as goal

abbrev pub invariant-loop-param : goal.invariant-loop-param
invariant-loop-param l = l.sorts.items ≡ map (λ (p : Param). p.sort) (take l.param-index l.params)
