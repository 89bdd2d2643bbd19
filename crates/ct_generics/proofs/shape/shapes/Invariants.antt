use Rattle.std.proofs.Common.{◌≡◌, length}
use Rattle.ct_generics.specs.Shapes.{AreShapes}
use Rattle.ct_generics.proofs.shape.shapes.Given as goal

abbrev pub invariant-loop-k : goal.invariant-loop-k
invariant-loop-k l =
    record {
      long : length l.shapes.items ≡ l.k;
      known : AreShapes l.first l.params l.table l.shapes.items;
    }
