use Rattle.std.proofs.Common.{◌≡◌, List, take, Ok}
use Rattle.std.specs.List.{AllZip}
use Rattle.ct_generics.specs.Expression.{Expression}
use Rattle.ct_generics.specs.Declarations.{Declared}
use Rattle.ct_generics.specs.Nodes.{Stay, StandFor}
use Rattle.ct_generics.specs.Outcome.{each}
use Rattle.ct_generics.specs.Block.{fields_in}
use Rattle.ct_generics.specs.Stored.{AreDeclared}
use Rattle.ct_generics.proofs.block.resolve_ctors.Given as goal

abbrev pub invariant-loop-ctor : goal.invariant-loop-ctor
invariant-loop-ctor l =
    record {
      stay : Stay l.fn.template l.template;
      known : (d : Declared) → AreDeclared l.g d → (es : List (List Expression)) × (each (fields_in d) (take l.ctor-index l.ctors) ≡ Ok es) × AllZip (StandFor l.template) l.rows.items es;
    }
