-- What a table gives for arguments: the result of the first row whose arguments are equal values, and else the default.
use Rattle.std.specs.Prelude.{Bool, List, [], ◌∷◌, map, Option, Some, None, unwrap_or, if◌then◌else◌}
use Rattle.std.specs.Cmp.Lexicographic.{pointwise}
use Rattle.ct_values.specs.declared.node.NodeId.{NodeId}
use Rattle.ct_values.specs.Graph.{Nodes}
use Rattle.ct_values.specs.Value.{Value}
use Rattle.ct_values.specs.Agreement.{point, node_point, same}
use Rattle.ct_eval.specs.declared.interp.Row.{Row}
use Rattle.ct_eval.specs.declared.interp.Table.{Table}

-- the nodes are equal to these values, one for one
abbrev pub are_same : Nodes → List NodeId → List Value → Bool
are_same g nodes values = pointwise same (map (node_point g) nodes) (map (point g) values)

-- the result of the first row for these arguments, if there is one
abbrev pub row_for : Nodes → List Row → List Value → Option NodeId
row_for g [] values = None
row_for g (row ∷ rows) values = if are_same g row.args values then Some row.result else row_for g rows values

-- what the table gives for these arguments
abbrev pub look_up : Nodes → Table → List Value → NodeId
look_up g table values = unwrap_or (row_for g table.rows values) table.default
