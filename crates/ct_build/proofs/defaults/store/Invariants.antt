use Rattle.std.proofs.Common.{◌≡◌, length}
use Rattle.ct_build.specs.Nodes.{AreStored}
use Rattle.ct_build.proofs.defaults.store.Given as goal

abbrev pub invariant-loop-n : goal.invariant-loop-n
invariant-loop-n l = record {
  many : length l.found.items ≡ length l.initial.found.items;
  stored : AreStored l.sig l.g l.found.items;
}
