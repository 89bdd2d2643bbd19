use Rattle.std.proofs.Common.{◌≡◌, ◌++◌, List, take}
use Rattle.std.specs.List.{flat_map}
use Rattle.ct_generics.specs.declared.nodes.ExprId.{ExprId}
use Rattle.ct_sorts.proofs.block.push_rows.Given as goal

abbrev pub invariant-loop-row : goal.invariant-loop-row
invariant-loop-row l = l.fields.items ≡ l.fn.fields.items ++ flat_map (λ (r : List ExprId). r) (take l.row-index l.row-items)
