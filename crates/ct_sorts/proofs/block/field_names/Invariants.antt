use Rattle.std.proofs.Common.{◌≡◌, ◌+◌, ◌++◌, List, map, take, drop, length}
use Rattle.ct_generics.specs.declared.decl.Field.{Field}
use Rattle.ct_sorts.proofs.block.field_names.Given as goal

abbrev pub invariant-loop-field : goal.invariant-loop-field
invariant-loop-field l = l.names.items ≡ map (λ (f : Field). f.name) (take l.field-index l.ctor.fields)
