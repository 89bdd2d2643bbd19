use Rattle.std.proofs.Common.{◌≡◌, map, take, All}
use Rattle.ct_sorts.specs.Declarations.{IsSort}
use Rattle.ct_names.specs.Symbols.{field_sort_id}
use Rattle.ct_names.proofs.symbols.ctor_fields.Given as goal

abbrev pub invariant-loop-sel : goal.invariant-loop-sel
invariant-loop-sel l = (l.sorts.items ≡ map (field_sort_id l.sig) (take l.sel-index l.sels)) × All (IsSort l.sig) l.sorts.items
