use Rattle.std.proofs.Common.{◌≡◌, length}
use Rattle.ct_build.specs.OpenClasses.{AreFirstOpen, AreCounts}
use Rattle.ct_build.proofs.open_classes.open_classes.Given as goal

abbrev pub invariant-loop-t : goal.invariant-loop-t
invariant-loop-t l = record {
  many : length l.counts.items ≡ length l.classes.declarations.sorts;
  counts : AreCounts l.classes l.list.items l.counts.items;
  first : AreFirstOpen l.classes l.t l.list.items;
}
