use Rattle.std.proofs.Common.{◌≡◌, List, take, Ok}
use Rattle.ct_generics.specs.declared.decl.Field.{Field}
use Rattle.ct_generics.specs.Expression.{Expression}
use Rattle.ct_generics.specs.Declarations.{Declared}
use Rattle.ct_generics.specs.Nodes.{Stay, StandFor}
use Rattle.ct_generics.specs.Outcome.{each}
use Rattle.ct_generics.specs.Resolved.{resolved}
use Rattle.ct_generics.specs.Stored.{AreDeclared}
use Rattle.ct_generics.proofs.block.resolve_fields.Given as goal

abbrev pub invariant-loop-field : goal.invariant-loop-field
invariant-loop-field l =
    record {
      stay : Stay l.fn.template l.template;
      known : (d : Declared) → AreDeclared l.g d → (es : List Expression) × (each (λ (f : Field). resolved d f.sort) (take l.field-index l.fields) ≡ Ok es) × StandFor l.template l.row.items es;
    }
