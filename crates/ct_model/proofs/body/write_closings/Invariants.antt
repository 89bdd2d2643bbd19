use Rattle.std.proofs.Common.{◌≡◌, ◌++◌}
use Rattle.ct_model.specs.Opening.{closings}
use Rattle.ct_model.proofs.body.write_closings.Given as goal

abbrev pub invariant-loop : goal.invariant-loop
invariant-loop l = l.out.items ≡ l.fn.out.items ++ closings l.counter
