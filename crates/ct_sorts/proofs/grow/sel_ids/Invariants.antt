use Rattle.std.proofs.Common.{◌≡◌}
use Rattle.ct_sorts.specs.Declarations.{sel_ids}
use Rattle.ct_sorts.proofs.grow.sel_ids.Given as goal

abbrev pub invariant-loop-step : goal.invariant-loop-step
invariant-loop-step l = l.ids.items ≡ sel_ids l.first l.step
