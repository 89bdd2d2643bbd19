use Rattle.std.proofs.Common.{◌≡◌, drop}
use Rattle.ct_names.proofs.stack.Variables.leave.Given as goal

abbrev pub invariant-loop : goal.invariant-loop
invariant-loop l = l.self ≡ drop l.counter l.initial.self
