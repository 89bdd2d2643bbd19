use Rattle.std.proofs.Common.{◌≡◌, ◌++◌, take}
use Rattle.std.specs.List.{flat_map}
use Rattle.ct_generics.proofs.rows.append_rows.Given as goal

abbrev pub invariant-loop-row : goal.invariant-loop-row
invariant-loop-row l = l.ids.items ≡ l.initial.ids.items ++ flat_map (λ row. row) (take l.row-index l.rows)
