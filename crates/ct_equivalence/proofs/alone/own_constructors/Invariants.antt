use Rattle.std.proofs.Common.{◌≡◌, length}
use Rattle.ct_equivalence.specs.Parents.{AreOwnCons}
use Rattle.ct_equivalence.proofs.alone.own_constructors.Given as goal

abbrev pub invariant-loop-t : goal.invariant-loop-t
invariant-loop-t l = record {
  long : length l.cons.items ≡ l.t;
  own : AreOwnCons l.table l.cons.items;
}
