use Rattle.std.proofs.Common.{All}
use Rattle.ct_sorts.specs.Declarations.{IsSort}
use Rattle.ct_names.specs.declared.variables.Param.{Param}
use Rattle.test_engine.proofs.elaborate.params_of.Given as goal

abbrev pub invariant-loop-part : goal.invariant-loop-part
invariant-loop-part l = All (λ (p : Param). IsSort l.sig p.sort) l.params.items
