use Rattle.std.proofs.Common.{◌≡◌}
use Rattle.ct_sorts.specs.Declarations.{ctor_ids}
use Rattle.ct_sorts.proofs.grow.ctor_ids.Given as goal

abbrev pub invariant-loop-step : goal.invariant-loop-step
invariant-loop-step l = l.ids.items ≡ ctor_ids l.first l.step
