use Rattle.std.proofs.Common.{◌≡◌, ◌++◌}
use Rattle.ct_gen.specs.Script as spec
use Rattle.ct_gen.proofs.script.gen_script.Given as goal

abbrev pub invariant-loop-i : goal.invariant-loop-i
invariant-loop-i l = l.out.items ≡ spec.declarations ++ spec.blocks l.i
