use Rattle.std.proofs.Common.{◌≡◌, List, length}
use Rattle.ct_generics.specs.Expression.{Expression}
use Rattle.ct_generics.specs.Nodes.{Stay, StandFor, AreWithin, AreImages}
use Rattle.ct_generics.proofs.substitution.substitute.Given as goal

abbrev pub invariant-loop-k : goal.invariant-loop-k
invariant-loop-k l =
    record {
      long : length l.images.items ≡ l.k;
      stay : Stay l.fn.target l.target;
      within : AreWithin l.target l.images.items;
      images : (es : List Expression) → StandFor l.fn.target l.args es → AreImages l.template l.target l.images.items es;
    }
