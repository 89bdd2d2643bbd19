use Rattle.std.proofs.Common.{◌<◌, length}
use Rattle.ct_generics.specs.Expression.{Expression}
use Rattle.ct_generics.specs.Nodes.{Stands, AreWithin}
use Rattle.ct_generics.proofs.SpineLemmas.{IsDown}
use Rattle.ct_generics.proofs.spine.head_and_args.Given as goal

abbrev pub invariant-loop-parts : goal.invariant-loop-parts
invariant-loop-parts l =
    record {
      within : l.next.0 < length l.table;
      args : AreWithin l.table l.stack.items;
      down : (e : Expression) → Stands l.table l.fn.id.0 e → IsDown l.table l.next.0 l.stack.items e;
    }

abbrev pub decreases-loop-parts : goal.decreases-loop-parts
decreases-loop-parts l = l.next.0
