use Rattle.std.proofs.Common.{◌≡◌, List, take, Ok}
use Rattle.ct_generics.specs.Expression.{Expression}
use Rattle.ct_generics.specs.Declarations.{Declared}
use Rattle.ct_generics.specs.Nodes.{Stay, StandFor, AreWithin}
use Rattle.ct_generics.specs.Outcome.{each}
use Rattle.ct_generics.specs.Resolved.{resolved}
use Rattle.ct_generics.specs.Stored.{AreDeclared}
use Rattle.ct_generics.proofs.resolution.+resolve.Given as goal

abbrev pub invariant-resolve_all-loop-arg : goal.invariant-resolve_all-loop-arg
invariant-resolve_all-loop-arg l =
    record {
      stay : Stay l.fn.table l.table;
      within : AreWithin l.table l.ids.items;
      known : (d : Declared) → AreDeclared l.g d → (es : List Expression) × (each (resolved d) (take l.arg-index l.args) ≡ Ok es) × StandFor l.table l.ids.items es;
    }
