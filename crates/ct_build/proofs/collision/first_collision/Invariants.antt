use Rattle.std.proofs.Common.{◌≡◌, length}
use Rattle.ct_build.specs.Owners.{AreOwners}
use Rattle.ct_build.proofs.collision.first_collision.Given as goal

abbrev pub invariant-loop-t : goal.invariant-loop-t
invariant-loop-t l = record {
  many : length l.owners.items ≡ length l.shared;
  owners : AreOwners l.classes l.shared l.nodes l.t l.owners.items;
}
