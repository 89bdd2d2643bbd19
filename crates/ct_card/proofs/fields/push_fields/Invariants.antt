use Rattle.std.proofs.Common.{◌≡◌, ◌++◌, take, map}
use Rattle.ct_card.specs.Fields.{field_sort}
use Rattle.ct_card.proofs.fields.push_fields.Given as goal

abbrev pub invariant-loop-sel : goal.invariant-loop-sel
invariant-loop-sel l = l.fields.items ≡ l.fn.fields.items ++ map (field_sort l.sig) (take l.sel-index l.sel-items)
