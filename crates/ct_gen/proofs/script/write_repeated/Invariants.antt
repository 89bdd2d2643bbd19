use Rattle.std.proofs.Common.{◌≡◌, ◌++◌}
use Rattle.ct_gen.specs.Script as spec
use Rattle.ct_gen.proofs.script.write_repeated.Given as goal

abbrev pub invariant-loop : goal.invariant-loop
invariant-loop l = l.out.items ≡ l.fn.out.items ++ spec.repeated l.counter l.text
